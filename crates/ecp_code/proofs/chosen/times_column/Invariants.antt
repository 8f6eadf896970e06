use Rattle.std.proofs.Common.{◌≡◌, get_or}
use Rattle.ecp_field.specs.Field.{byte_product}
use Rattle.ecp_inverse.specs.Cells.{total}
use Rattle.ecp_inverse.specs.Matrix.{cell}
use Rattle.ecp_code.proofs.chosen.times_column.Given as goal

abbrev pub invariant-loop-j : goal.invariant-loop-j
invariant-loop-j l = l.sum ≡ total l.j (λ j. byte_product (get_or l.row j 0) (cell l.matrix j l.col))
