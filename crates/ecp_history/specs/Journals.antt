-- What is seen of a journal.
use Rattle.std.specs.Prelude.{ℕ, List}
use Rattle.ecp_entry.specs.declared.line.Line.{Line}

-- the lines of a journal, and for how many more it has room
pub record Held : Type 0 where
  pub lines : List Line
  pub spare : ℕ
