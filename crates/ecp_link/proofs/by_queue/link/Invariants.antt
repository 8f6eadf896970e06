use Rattle.std.proofs.Common.{◌≡◌, ℕ, ◌<◌, [], Some, length, slice_get, replicate}
use Rattle.ecp_link.specs.Links.{unknown}
use Rattle.ecp_link.proofs.by_queue.link.Given as goal

abbrev pub invariant-loop-number : goal.invariant-loop-number
invariant-loop-number g l = record {
  count : length l.ends.items ≡ l.number;
  taker : l.taker ≡ record { link = l.taker.link; capacity = l.capacity; known = replicate l.number unknown };
  each : (p : ℕ) → p < l.number → slice_get l.ends.items p ≡ Some (record { link = l.taker.link; number = p; capacity = l.capacity; pushed = [] });
}
