use Rattle.std.proofs.Common.{◌≡◌, ◌≤◌, length, drop, map}
use Rattle.ecp_history.specs.table.Placement.{mask_of}
use Rattle.ecp_catalog.proofs.node_list.up_among.Given as goal

abbrev pub invariant-loop-left : goal.invariant-loop-left
invariant-loop-left l = record {
  within : l.left ≤ length l.nodes;
  made : l.mask ≡ mask_of (map (λ x. x.node.up) (drop l.left l.nodes));
}

abbrev pub decreases-loop-left : goal.decreases-loop-left
decreases-loop-left l = l.left
