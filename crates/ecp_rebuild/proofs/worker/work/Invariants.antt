use Rattle.ecp_rebuild.specs.Workers.{IsReady, Worked}
use Rattle.ecp_rebuild.proofs.worker.work.Given as goal

abbrev pub invariant-loop : goal.invariant-loop
invariant-loop g l = record {
  ready : IsReady l.queue (g.M.Mender.fit l.m) (g.M.Mender.takes l.m) g.M.Mender.did l.worker;
  worked : Worked l.queue (g.M.Mender.fit l.m) (g.M.Mender.answers l.m) g.M.Mender.did g.M.Mender.who l.initial.worker l.worker;
}
