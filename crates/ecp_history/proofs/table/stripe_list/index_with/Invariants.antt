use Rattle.std.proofs.Common.{◌≤◌, ◌-◌, length, take, drop}
use Rattle.ecp_history.specs.table.Rising.{AllBelow, AllAbove}
use Rattle.ecp_history.proofs.table.stripe_list.index_with.Given as goal

abbrev pub invariant-loop-low : goal.invariant-loop-low
invariant-loop-low l = record {
  ordered : l.low ≤ l.high;
  within : l.high ≤ length l.stripes;
  below : AllBelow l.number (take l.low l.stripes);
  above : AllAbove l.number (drop l.high l.stripes);
}

abbrev pub decreases-loop-low : goal.decreases-loop-low
decreases-loop-low l = l.high - l.low
