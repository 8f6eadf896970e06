use Rattle.std.proofs.Common.{◌≡◌, ℕ, ◌<◌, length, get_or}
use Rattle.std.specs.List.{range_with_len}
use Rattle.ecp_inverse.specs.Matrix.{cell}
use Rattle.ecp_code.specs.Weights.{weight}
use Rattle.ecp_code.proofs.chosen.matrix_of.Given as goal

abbrev pub invariant-loop-i : goal.invariant-loop-i
invariant-loop-i l = record {
  size : l.matrix.size ≡ length l.rows;
  cells : (i j : ℕ) → i < l.i → j < length l.rows → cell l.matrix i j ≡ weight (range_with_len 0 (length l.rows)) j (get_or l.rows i 0);
}
