-- The text of the journal.
use Rattle.std.specs.Prelude.{ℕ, ◌-◌, nat_lt, if◌then◌else◌, List, [], ◌∷◌, ◌++◌, map, codes, decimal}
use Rattle.std.specs.List.{join_with_byte}
use Rattle.ecp_shape.specs.declared.limits.TheConstants.{MAX_SESSIONS}
use Rattle.ecp_text.specs.declared.bytes.TheConstants.{SPACE, LINE_FEED}
use Rattle.ecp_entry.specs.declared.act.Act.{Act}
use Rattle.ecp_entry.specs.declared.line.Line.{Line}
use Rattle.ecp_entry.specs.declared.part.Part.{Part}
use Rattle.ecp_entry.specs.declared.part.Part.TheVariants as part
use Rattle.ecp_entry.specs.Entries.{act_word, act_numbers, part_numbers}

-- `s` and the session, or `n` and the node
abbrev pub caller_word : ℕ → List ℕ
caller_word caller = if nat_lt caller MAX_SESSIONS then codes "s" ++ decimal caller else codes "n" ++ decimal (caller - MAX_SESSIONS)

-- the number of the part, or `end`
abbrev pub part_word : Part → List ℕ
part_word (part.Part j) = decimal j
part_word part.End = codes "end"

-- the word for an act, and its numbers
abbrev pub act_words : Act → List (List ℕ)
act_words act = act_word act ∷ map decimal (act_numbers act)

-- position, caller, call, part and point, and then the act
abbrev pub line_words : ℕ → Line → List (List ℕ)
line_words at line =
    decimal at ∷ caller_word line.caller ∷ decimal line.call ∷ part_word line.part ∷ decimal line.point ∷ act_words line.act

-- the journal line of the entry at a position: its words with single spaces, and a line end
abbrev pub journal_line : ℕ → Line → List ℕ
journal_line at line = join_with_byte SPACE (line_words at line) ++ LINE_FEED ∷ []

-- the numbers of a line
abbrev pub line_numbers : Line → List ℕ
line_numbers line = line.caller ∷ line.call ∷ line.point ∷ part_numbers line.part ++ act_numbers line.act
