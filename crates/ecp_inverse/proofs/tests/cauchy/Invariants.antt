use Rattle.std.proofs.Common.{◌≡◌}
use Rattle.ecp_inverse.proofs.tests.cauchy.Given as goal

abbrev pub invariant-loop-i : goal.invariant-loop-i
invariant-loop-i l = l.m.size ≡ 16

abbrev pub invariant-loop-j : goal.invariant-loop-j
invariant-loop-j l = l.m.size ≡ 16
