use Rattle.std.proofs.Common.{◌≡◌, ℕ, ◌<◌, ◌≤◌, length, get_or, bit_xor}
use Rattle.ecp_kernel.proofs.plain.xor_bytes.Given as goal

abbrev pub invariant-loop-i : goal.invariant-loop-i
invariant-loop-i l = record {
  long : length l.dst ≡ length l.src;
  done : (k : ℕ) → k < l.i → get_or l.dst k 0 ≡ bit_xor (get_or l.initial.dst k 0) (get_or l.src k 0);
  left : (k : ℕ) → l.i ≤ k → get_or l.dst k 0 ≡ get_or l.initial.dst k 0;
}
