use Rattle.std.proofs.Common.{◌≡◌, ◌≤◌, [], vec_len, vec_capacity}
use Rattle.std.specs.Prelude.{All}
use Rattle.ecp_rebuild.proofs.start.rooms.Given as goal

abbrev pub invariant-loop : goal.invariant-loop
invariant-loop l = record {
  count : vec_len l.rooms ≡ l.counter;
  room : All (λ e. (e.items ≡ []) × (l.jobs ≤ vec_capacity e)) l.rooms.items;
}
