use Rattle.std.proofs.Common.{◌≡◌, ◌+◌, ◌-◌, ◌<◌, ◌≤◌, [], length, vec_len, vec_capacity}
use Rattle.std.specs.Prelude.{All}
use Rattle.crossbeam_queue.specs.Passes.{view, IsPassOf}
use Rattle.ecp_rebuild.specs.Rules.{view_of}
use Rattle.ecp_rebuild.proofs.Seating.{Seating}
use Rattle.ecp_rebuild.proofs.start.seat.Given as goal

abbrev pub invariant-loop-hand : goal.invariant-loop-hand
invariant-loop-hand g l = record {
  pass : IsPassOf l.queue l.pass;
  parts : vec_len l.hands < (view l.pass).parts;
  took : let v = view l.initial.pass in view l.pass ≡ view_of (v.parts - vec_len l.workers) v.jobs v.taken;
  count : vec_len l.rooms ≡ vec_len l.hands;
  whole : vec_len l.hands + vec_len l.workers ≡ vec_len l.initial.hands;
  room : All (λ e. (e.items ≡ []) × (length (view l.initial.pass).jobs ≤ vec_capacity e)) l.rooms.items;
  same : vec_capacity l.hands ≡ vec_capacity l.initial.hands;
  space : vec_len l.initial.hands ≤ vec_capacity l.workers;
  seating : Seating l.queue (view l.initial.pass).jobs l.initial.hands.items l.hands.items l.workers.items;
}

abbrev pub decreases-loop-hand : goal.decreases-loop-hand
decreases-loop-hand g l = vec_len l.hands
