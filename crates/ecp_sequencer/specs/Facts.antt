-- What is known of a hand: one fold over its notes.
use Rattle.std.specs.Prelude.{ℕ, ◌+◌, ◌==◌, Bool, true, false, if◌then◌else◌, List, [], ◌∷◌, ◌++◌, fold, Option, Some, None}
use Rattle.std.specs.Option.{is_some}
use Rattle.ecp_book.specs.Logs.{Log}
use Rattle.ecp_entry.specs.declared.part.Part.{Part}
use Rattle.ecp_entry.specs.declared.part.Part.TheVariants as part
use Rattle.ecp_entry.specs.Told.{made_from}
use Rattle.ecp_sequencer.specs.Notes.{Call, began, entered, over, kind_of, room_of, says_of, call_from}

-- what is known of a hand
pub record HandFacts : Type 0 where
  -- one more than the number of the call that began last, or 0
  pub calls : ℕ
  -- the call that began last, where it has no `End` entry yet
  pub call : Option Call
  -- the items of its entries
  pub entries : Log
  -- its notes since that call began
  pub since : Log
  -- how many more entries and notes it may make without memory
  pub room : ℕ

-- of a hand that noted nothing
abbrev pub no_facts : HandFacts
no_facts = record { calls = 0; call = None; entries = []; since = []; room = 0 }

-- whether a part is the end
abbrev pub is_end : Part → Bool
is_end (part.Part j) = false
is_end part.End = true

-- whether an item tells the entry that ends a call
abbrev pub ends_call : List ℕ → Bool
ends_call x = is_end (made_from x).entry.line.part

-- a call began: it is open, whether the one before it ended or not
abbrev pub after_began : HandFacts → List ℕ → HandFacts
after_began f x = record { calls = (call_from (says_of x)).number + 1; call = Some (call_from (says_of x)); entries = f.entries; since = []; room = room_of x }

-- an entry was made: the one that ends the call leaves none open
abbrev pub after_entered : HandFacts → List ℕ → HandFacts
after_entered f x = record { calls = f.calls; call = if ends_call (says_of x) then None else f.call; entries = f.entries ++ says_of x ∷ []; since = f.since ++ x ∷ []; room = room_of x }

-- the caller ended the call by its own hand: none is open
abbrev pub after_over : HandFacts → List ℕ → HandFacts
after_over f x = record { calls = f.calls; call = None; entries = f.entries; since = f.since ++ x ∷ []; room = room_of x }

-- another note was made
abbrev pub after_other : HandFacts → List ℕ → HandFacts
after_other f x = record { calls = f.calls; call = f.call; entries = f.entries; since = f.since ++ x ∷ []; room = room_of x }

-- the facts after one more note
abbrev pub after_note : HandFacts → List ℕ → HandFacts
after_note f x =
    if kind_of x == began then after_began f x
    else if kind_of x == entered then after_entered f x
    else if kind_of x == over then after_over f x
    else after_other f x

-- what these notes tell of their hand
unfoldable pub facts_of : Log → HandFacts
facts_of notes = fold after_note no_facts notes

-- the items of the entries that a hand noted
abbrev pub entries_noted : Log → Log
entries_noted notes = (facts_of notes).entries

-- whether a hand with these notes has an open call
abbrev pub is_open : Log → Bool
is_open notes = is_some (facts_of notes).call

-- for how many more entries and notes a hand has room
abbrev pub room_noted : Log → ℕ
room_noted notes = (facts_of notes).room
