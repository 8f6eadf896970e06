use Rattle.ecp_cluster.specs.Puts.{PutMoves}
use Rattle.ecp_cluster.proofs.service.Service.put_by.Given as goal

abbrev pub invariant-loop : goal.invariant-loop
invariant-loop g l = record {
  moves : PutMoves g.N.Names.shape g.N.Names.told l.initial.pass l.initial.res l.res l.pass;
}
