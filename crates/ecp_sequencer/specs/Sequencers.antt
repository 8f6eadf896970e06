-- What contracts see of a sequencer, and what holds of every sequencer.
use Rattle.std.specs.Prelude.{◌≡◌, ℕ, zero, suc, ◌+◌, ◌-◌, ◌^◌, ◌<◌, ◌≤◌, Bool, List, [], ◌∷◌, ◌++◌, length, map, replicate, slice_get, slice_index_or, Some}
use Rattle.std.specs.List.{sum_by}
use mathlib.Core.List.{IsPrefix}
use Rattle.ecp_shape.specs.declared.shape.Shape.{Shape}
use Rattle.ecp_book.specs.Logs.{Known, Log, history_log, empty_log}
use Rattle.ecp_entry.specs.Told.{items_by}
use Rattle.ecp_history.specs.Journals.{Held}
use Rattle.ecp_sequencer.specs.declared.limits.TheConstants.{ROOM}
use Rattle.ecp_sequencer.specs.Facts.{entries_noted, room_noted}
use Rattle.ecp_sequencer.specs.Hands.{spoken_log, heard_log}
use Rattle.ecp_sequencer.specs.Histories.{IsKept, notes_at, lines_of}
use Rattle.ecp_sequencer.specs.Passes.{PassState}

-- the history, and what each hand noted, by its number
pub record SequencerState : Type 0 where
  pub history : Log
  pub notes : List Log

-- the sequencer's end of the tie to a hand: the hand, what it noted, and its room
pub record DeskState : Type 0 where
  pub hand : ℕ
  pub notes : Log
  pub room : ℕ

-- a desk with these parts
abbrev pub desk_seen : ℕ → Log → ℕ → DeskState
desk_seen hand notes room = record { hand = hand; notes = notes; room = room }

-- the desk hears what its hand speaks, and its log has places for all that the hand has room for
pub record IsDesk (nodes speaks hears : ℕ) (d : DeskState) : Type 0 where
  pub speaks_to : speaks ≡ heard_log nodes d.hand
  pub hears_from : hears ≡ spoken_log nodes d.hand
  pub counted : d.room ≡ room_noted d.notes
  pub most : d.room ≤ ROOM
  pub places : length d.notes + d.room < 2 ^ 32 - 1

-- what the desks heard
abbrev pub notes_of : List DeskState → List Log
notes_of desks = map (λ d. d.notes) desks

-- the room taken is that of all hands; the journal has that many lines to spare, and the history's log that many places
pub record HasRoom (history : Log) (lines : ℕ) (desks : List DeskState) (taken : ℕ) : Type 0 where
  pub counted : taken ≡ sum_by (λ d. d.room) desks
  pub spare : taken ≤ lines
  pub places : length history + taken < 2 ^ 32 - 1

-- what holds of every sequencer
pub record IsSequencer (shape : Shape) (told : Bool) (callers spares log : ℕ) (history : Log) (journal : Held) (desks : List DeskState) (taken : ℕ) : Type 0 where
  pub on_history : log ≡ history_log
  pub lines : journal.lines ≡ lines_of history
  pub numbered : (hand : ℕ) (d : DeskState) → hand < length desks → (slice_index_or desks hand d).hand ≡ hand
  pub kept : IsKept shape told callers spares history (notes_of desks)
  pub room : HasRoom history journal.spare desks taken

-- The pass and the sequencer know the same of the hand: the front begins the history, the notes are equal, and both the front and
-- the history have of the hand just the entries that it noted
pub record Agrees (s : SequencerState) (p : PassState) : Type 0 where
  pub begins : IsPrefix p.front s.history
  pub notes : notes_at s.notes p.hand ≡ p.notes
  pub known : items_by p.hand p.front ≡ entries_noted p.notes
  pub entered : items_by p.hand s.history ≡ entries_noted p.notes

-- so many desks, by the number of their hand, that heard nothing
abbrev pub new_desks : ℕ → List DeskState
new_desks zero = []
new_desks (suc n) = new_desks n ++ desk_seen n [] 0 ∷ []

-- the sequencer of an empty history and so many hands
abbrev pub at_start : ℕ → SequencerState
at_start hands = record { history = []; notes = replicate hands [] }

-- these are the keepers of the logs of the ties from this hand on, in their order, and each is empty
abbrev pub AreTies : ℕ → ℕ → List Known → Type 0
AreTies nodes hand keepers = (m : ℕ) → m < length keepers → slice_get keepers m ≡ Some (empty_log (spoken_log nodes hand + m))
