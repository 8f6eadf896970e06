use Rattle.std.proofs.Common.{◌≡◌, ◌-◌, ◌≤◌, flat_map, map}
use Rattle.std.specs.List.{range_with_len}
use Rattle.ecp_catalog.specs.LostBlocks.{lost_by, with_tasks}
use Rattle.ecp_catalog.specs.Standing.{rows_in}
use Rattle.ecp_catalog.proofs.lost_blocks.put_stripes.Given as goal

abbrev pub invariant-loop-stripe : goal.invariant-loop-stripe
invariant-loop-stripe g l = record {
  to : l.stripe - l.fn.span.first ≤ l.fn.span.end - l.fn.span.first;
  tasks : l.tasks.items ≡ with_tasks l.fn.tasks.items (flat_map (λ s. lost_by (map (λ x. x.node) l.nodes) l.node s (rows_in l.n s l.file))
      (range_with_len l.fn.span.first (l.stripe - l.fn.span.first)));
}
