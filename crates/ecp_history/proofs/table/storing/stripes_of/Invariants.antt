use Rattle.std.proofs.Common.{◌≡◌, ◌+◌, ◌≤◌, drop, reverse}
use Rattle.ecp_code.specs.Stripes.{stripes}
use Rattle.ecp_history.specs.table.Steps.{stripes_among}
use Rattle.ecp_history.proofs.table.storing.stripes_of.Given as goal

abbrev pub invariant-loop-left : goal.invariant-loop-left
invariant-loop-left l = record {
  within : l.left ≤ l.count;
  made : reverse l.stripes.items ≡ stripes_among l.nodes l.n (l.first + l.left) (drop l.left (stripes l.code.k l.block l.bytes));
}

abbrev pub decreases-loop-left : goal.decreases-loop-left
decreases-loop-left l = l.left
