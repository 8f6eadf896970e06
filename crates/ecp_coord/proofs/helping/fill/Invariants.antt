use Rattle.std.proofs.Common.{◌≡◌, map, take}
use Rattle.std.specs.Prelude.{All, vec_capacity, vec_len}
use Rattle.ecp_coord.specs.Helping.{IsGiven}
use Rattle.ecp_coord.proofs.helping.fill.Given as goal

abbrev pub invariant-loop-at : goal.invariant-loop-at
invariant-loop-at g l = record {
  same : l.catalog ≡ l.fn.catalog;
  len : vec_len l.hops ≡ l.at;
  room : vec_capacity l.hops ≡ vec_capacity l.fn.hops;
  rows : map (λ x. x.row) l.hops.items ≡ take l.at l.helpers.rows;
  weighted : map (λ x. x.weight) l.hops.items ≡ take l.at l.helpers.weights;
  given : All (IsGiven l.fn.catalog l.stripe) l.hops.items;
}
