use Rattle.std.proofs.Common.{◌≡◌, ℕ, ◌<◌, length}
use Rattle.ecp_inverse.specs.Cells.{entry, identity}
use Rattle.ecp_inverse.proofs.rows.identity_rows.Given as goal

abbrev pub invariant-loop-i : goal.invariant-loop-i
invariant-loop-i l = record {
  long : length l.rows ≡ 16;
  done : (k j : ℕ) → k < l.i → j < 16 → entry l.rows k j ≡ identity k j;
}
