-- Which blocks can be had.
use Rattle.std.specs.Prelude.{ℕ, ◌≤◌, ◌⊎◌, IsTrue}
use Rattle.ecp_shape.specs.declared.shape.Shape.{Shape}
use Rattle.ecp_history.specs.table.Tables.{PlainTable, is_live, live_rows}

-- a block is live, or at least k rows of its stripe are
abbrev pub IsRecoverable : Shape → PlainTable → ℕ → ℕ → Type 0
IsRecoverable shape t s r = IsTrue (is_live t s r) ⊎ (shape.k ≤ live_rows t s)
