use Rattle.std.proofs.Common.{◌≡◌, ℕ, ◌<◌, ◌≤◌, length, get_or}
use Rattle.ecp_code.specs.Weights.{weight}
use Rattle.ecp_code.proofs.code.Code.weights.Given as goal

abbrev pub invariant-loop-i : goal.invariant-loop-i
invariant-loop-i l = record {
  size : length l.w ≡ 16;
  done : (j : ℕ) → j < l.i → get_or l.w j 0 ≡ weight l.rows (get_or l.rows j 0) l.target;
  rest : (j : ℕ) → l.i ≤ j → get_or l.w j 0 ≡ 0;
}
