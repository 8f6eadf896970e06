use Rattle.std.proofs.Common.{◌≡◌, ◌≢◌, ℕ, ◌<◌}
use Rattle.ecp_inverse.specs.Cells.{entry}
use Rattle.ecp_inverse.specs.Rows.{SameSolutions, IsReduced}
use Rattle.ecp_inverse.proofs.system.System.clear_column.Given as goal

abbrev pub invariant-loop-row : goal.invariant-loop-row
invariant-loop-row l = record {
  size : l.self.size ≡ l.initial.self.size;
  solutions : SameSolutions l.initial.self.size l.initial.self.left l.initial.self.right l.self.left l.self.right;
  reduced : IsReduced l.initial.self.size l.col l.self.left;
  one : entry l.self.left l.col l.col ≡ 1;
  cleared : (r : ℕ) → r < l.row → r ≢ l.col → entry l.self.left r l.col ≡ 0;
}
