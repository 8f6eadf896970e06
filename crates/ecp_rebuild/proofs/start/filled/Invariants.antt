use Rattle.std.proofs.Common.{◌≡◌, [], take}
use Rattle.crossbeam_queue.specs.Passes.{view, IsPassOf}
use Rattle.ecp_rebuild.specs.Rules.{view_of, every_part}
use Rattle.ecp_rebuild.specs.Workers.{jobs_from}
use Rattle.ecp_rebuild.proofs.start.filled.Given as goal

abbrev pub invariant-loop-number : goal.invariant-loop-number
invariant-loop-number g l = record {
  pass : IsPassOf l.queue l.pass;
  jobs : view l.pass ≡ view_of every_part (jobs_from 0 (take l.number l.tasks)) [];
}
