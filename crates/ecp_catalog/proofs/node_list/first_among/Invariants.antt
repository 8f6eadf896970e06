use Rattle.std.proofs.Common.{◌≡◌, ◌≤◌, ◌-◌, ◌==◌, filter, map}
use Rattle.std.specs.Int.{bit_at}
use Rattle.std.specs.List.{range_with_len}
use Rattle.ecp_shape.specs.declared.limits.TheConstants.{MAX_NODES}
use Rattle.ecp_catalog.specs.Catalogs.{earliest, first_loss}
use Rattle.ecp_catalog.proofs.node_list.first_among.Given as goal

abbrev pub invariant-loop-left : goal.invariant-loop-left
invariant-loop-left l = record {
  within : l.left ≤ MAX_NODES;
  found : l.first ≡ earliest (map (first_loss l.nodes l.point) (filter (λ m. bit_at l.mask m == 1) (range_with_len l.left (MAX_NODES - l.left))));
}

abbrev pub decreases-loop-left : goal.decreases-loop-left
decreases-loop-left l = l.left
