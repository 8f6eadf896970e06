use Rattle.std.proofs.Common.{◌≡◌, ◌-◌, ◌*◌, ◌≤◌, Bool, List}
use Rattle.std.specs.Prelude.{sum_by}
use Rattle.std.specs.List.{range_with_len}
use Rattle.ecp_shape.specs.declared.limits.TheConstants.{MAX_ROWS}
use Rattle.ecp_shape.specs.declared.shape.Shape.{Shape}
use Rattle.ecp_entry.specs.declared.entry.Entry.{Entry}
use Rattle.ecp_history.specs.table.Steps.{table_of}
use Rattle.ecp_history.specs.table.Tables.{live_rows}
use Rattle.ecp_catalog.specs.Outline.{IsOutline}
use Rattle.ecp_coord.proofs.stating.live_blocks.Given as goal

-- the live rows of the stripes so far, of which each has at most so many
abbrev pub invariant-loop-stripe : goal.invariant-loop-stripe
invariant-loop-stripe g l = record {
  counted : (shape : Shape) (told : Bool) (history : List Entry) → IsOutline shape told l.catalog history →
      l.live ≡ sum_by (live_rows (table_of shape history)) (range_with_len l.first (l.stripe - l.first));
  few : l.live ≤ MAX_ROWS * (l.stripe - l.first);
}
