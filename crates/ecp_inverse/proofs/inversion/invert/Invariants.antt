use Rattle.std.proofs.Common.{◌≡◌}
use Rattle.ecp_inverse.specs.Rows.{SameSolutions, IsReduced}
use Rattle.ecp_inverse.proofs.inversion.invert.Given as goal

abbrev pub invariant-loop-col : goal.invariant-loop-col
invariant-loop-col l = record {
  size : l.system.size ≡ l.initial.system.size;
  solutions : SameSolutions l.initial.system.size l.initial.system.left l.initial.system.right l.system.left l.system.right;
  reduced : IsReduced l.initial.system.size l.col l.system.left;
}
