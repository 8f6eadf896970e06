use Rattle.std.proofs.Common.{◌≡◌, ℕ, ◌<◌, ◌≤◌, length, get_or}
use Rattle.ecp_inverse.specs.Cells.{entry}
use Rattle.ecp_inverse.proofs.system.System.kernel.Given as goal

abbrev pub invariant-loop-i : goal.invariant-loop-i
invariant-loop-i l = record {
  long : length l.column ≡ 16;
  done : (k : ℕ) → k < l.i → get_or l.column k 0 ≡ entry l.self.left k l.col;
  rest : (k : ℕ) → l.i ≤ k → get_or l.column k 0 ≡ 0;
}
