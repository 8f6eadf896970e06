use Rattle.std.proofs.Common.{◌≡◌, ◌+◌, ◌<◌, ◌≤◌, length, vec_len, vec_capacity}
use Rattle.std.specs.Prelude.{All}
use Rattle.crossbeam_queue.specs.Passes.{view, IsPassOf}
use Rattle.ecp_rebuild.specs.Workers.{TookItsOwn}
use Rattle.ecp_rebuild.proofs.Gathering.{Gathering}
use Rattle.ecp_rebuild.proofs.gather.gather_all.Given as goal

abbrev pub invariant-loop-worker : goal.invariant-loop-worker
invariant-loop-worker g l = record {
  pass : IsPassOf l.queue l.pass;
  part : 0 < (view l.pass).parts;
  jobs : (view l.pass).jobs ≡ (view l.initial.pass).jobs;
  own : All (TookItsOwn l.queue (view l.initial.pass).jobs) l.workers.items;
  room : vec_len l.hands + vec_len l.workers ≤ vec_capacity l.hands;
  same : vec_capacity l.hands ≡ vec_capacity l.initial.hands;
  places : length l.outcomes ≡ length l.initial.outcomes;
  gathering : Gathering (view l.initial.pass) (view l.pass) l.initial.workers.items l.workers.items l.initial.hands.items l.hands.items l.initial.outcomes l.outcomes;
}

abbrev pub decreases-loop-worker : goal.decreases-loop-worker
decreases-loop-worker g l = vec_len l.workers
