use Rattle.std.proofs.Common.{◌≡◌, map, take}
use Rattle.ecp_catalog.specs.LostBlocks.{lost_by, with_tasks}
use Rattle.ecp_catalog.proofs.lost_blocks.put_rows.Given as goal

abbrev pub invariant-loop-row : goal.invariant-loop-row
invariant-loop-row g l = l.tasks.items ≡ with_tasks l.fn.tasks.items (lost_by (map (λ x. x.node) l.nodes) l.node l.stripe (take l.row l.rows))
