use Rattle.std.proofs.Common.{◌≡◌, ◌≢◌, ℕ, ◌<◌, get_or}
use Rattle.ecp_inverse.specs.Matrix.{cell}
use Rattle.ecp_code.proofs.chosen.set_row.Given as goal

abbrev pub invariant-loop-j : goal.invariant-loop-j
invariant-loop-j l = record {
  size : l.matrix.size ≡ l.initial.matrix.size;
  row : (j : ℕ) → j < l.j → cell l.matrix l.row j ≡ get_or l.cells j 0;
  others : (i j : ℕ) → i ≢ l.row → cell l.matrix i j ≡ cell l.initial.matrix i j;
}
