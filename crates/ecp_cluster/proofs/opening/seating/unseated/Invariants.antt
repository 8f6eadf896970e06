use Rattle.std.proofs.Common.{◌≡◌, ◌+◌, vec_len, vec_capacity}
use Rattle.ecp_cluster.proofs.opening.seating.unseated.Given as goal

abbrev pub invariant-loop : goal.invariant-loop
invariant-loop g l = record {
  left : vec_len l.helpers + l.counter ≡ vec_len l.fn.helpers;
  stores : vec_len l.stores ≡ vec_len l.fn.stores + l.counter;
  room : vec_capacity l.stores ≡ vec_capacity l.fn.stores;
}
