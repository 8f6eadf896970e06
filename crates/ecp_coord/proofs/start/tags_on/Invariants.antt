use Rattle.std.proofs.Common.{◌≡◌, take}
use Rattle.ecp_coord.proofs.start.tags_on.Given as goal

abbrev pub invariant-loop-at : goal.invariant-loop-at
invariant-loop-at g l = record {
  same : l.keepers ≡ l.fn.keepers;
  so_far : l.tags.items ≡ take l.at l.fn.keepers;
}
