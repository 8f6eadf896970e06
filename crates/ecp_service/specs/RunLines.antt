-- The lines that a run writes beside its replies.
use Rattle.std.specs.Prelude.{ℕ, ◌+◌, List, [], ◌∷◌, ◌++◌, length, codes, decimal}
use Rattle.ecp_entry.specs.declared.line.Line.{Line}
use Rattle.ecp_entry.specs.JournalText.{journal_line}

-- these lines of a journal, the first of them at a position
abbrev pub lines_from : ℕ → List Line → List ℕ
lines_from at [] = []
lines_from at (line ∷ lines) = journal_line at line ++ lines_from (at + 1) lines

-- the line of a session
abbrev pub session_line : ℕ → List ℕ
session_line number = codes "session " ++ decimal number ++ codes "\n"

-- the line that says how many lines a journal has
abbrev pub count_line : List Line → List ℕ
count_line lines = codes "journal " ++ decimal (length lines) ++ codes "\n"
