use Rattle.std.proofs.Common.{◌≤◌, ◌-◌, length, take}
use Rattle.ecp_history.specs.table.Rising.{AllBelow}
use Rattle.ecp_history.proofs.table.stripe_list.place_of.Given as goal

abbrev pub invariant-loop-at : goal.invariant-loop-at
invariant-loop-at l = record {
  within : l.at ≤ length l.stripes;
  below : AllBelow l.number (take l.at l.stripes);
}

abbrev pub decreases-loop-at : goal.decreases-loop-at
decreases-loop-at l = length l.stripes - l.at
