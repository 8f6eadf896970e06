use Rattle.std.proofs.Common.{◌≡◌, ℕ, ◌<◌, ◌≤◌}
use Rattle.ecp_inverse.specs.Cells.{entry}
use Rattle.ecp_inverse.proofs.system.System.pivot.Given as goal

abbrev pub invariant-loop-row : goal.invariant-loop-row
invariant-loop-row l = (i : ℕ) → l.col ≤ i → i < l.row → entry l.self.left i l.col ≡ 0
