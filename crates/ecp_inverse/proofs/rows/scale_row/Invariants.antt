use Rattle.std.proofs.Common.{◌≡◌, ℕ, ◌<◌, ◌≤◌, length, get_or}
use Rattle.ecp_field.specs.Field.{byte_product}
use Rattle.ecp_inverse.proofs.rows.scale_row.Given as goal

abbrev pub invariant-loop-j : goal.invariant-loop-j
invariant-loop-j l = record {
  long : length l.row ≡ 16;
  done : (k : ℕ) → k < l.j → get_or l.row k 0 ≡ byte_product l.c (get_or l.initial.row k 0);
  left : (k : ℕ) → l.j ≤ k → get_or l.row k 0 ≡ get_or l.initial.row k 0;
}
