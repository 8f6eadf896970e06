-- What an event, and a whole call, does to a pass, and what its spare hands note.
use Rattle.std.specs.Prelude.{◌≡◌, ℕ, ◌+◌, ◌≤◌, Bool, List, [], ◌∷◌, ◌++◌, length, map, set, All, Some}
use mathlib.Core.List.{IsPrefix}
use Rattle.ecp_shape.specs.declared.shape.Shape.{Shape}
use Rattle.ecp_book.specs.Logs.{Log}
use Rattle.ecp_entry.specs.declared.deed.Deed.{Deed}
use Rattle.ecp_entry.specs.declared.entry.Entry.{Entry}
use Rattle.ecp_entry.specs.declared.part.Part.TheVariants as part
use Rattle.ecp_entry.specs.Items.{item}
use Rattle.ecp_entry.specs.Told.{items_by}
use Rattle.ecp_history.specs.Legal.{TellsLegal}
use Rattle.ecp_sequencer.specs.declared.limits.TheConstants.{ROOM}
use Rattle.ecp_sequencer.specs.Branches.{IsKnown, IsNone, released}
use Rattle.ecp_sequencer.specs.Histories.{notes_at}
use Rattle.ecp_sequencer.specs.Notes.{Call, note, beginning_of, call_of}
use Rattle.ecp_sequencer.specs.Facts.{facts_of, entries_noted}
use Rattle.ecp_sequencer.specs.Passes.{HandNotes, PassState, with_note}
use Rattle.ecp_sequencer.specs.Sequencers.{SequencerState, Agrees}

-- A pass went from v to w: its caller, hand and places are the same, its front extends, it noted just these notes more, and its new front
-- has of its hand just these entries more. Both fronts have of the hand just what was noted
pub record Steps (v : PassState) (mine : List Entry) (more : Log) (w : PassState) : Type 0 where
  pub caller : w.caller ≡ v.caller
  pub hand : w.hand ≡ v.hand
  pub places : w.places ≡ v.places
  pub spare : w.spare ≡ v.spare
  pub extends : IsPrefix v.front w.front
  pub known : items_by v.hand v.front ≡ entries_noted v.notes
  pub entered : items_by v.hand w.front ≡ items_by v.hand v.front ++ map (item v.hand) mine
  pub noted : w.notes ≡ v.notes ++ more
  pub settled : items_by v.hand w.front ≡ entries_noted w.notes

-- An event, by which a sequencer went from s to t and a pass from v to w. The history grew by just these entries, and the notes of
-- the pass's hand alone by just these; the new front is the whole history, which is legal, and the two agree
pub record Event (shape : Shape) (told : Bool) (s : SequencerState) (v : PassState) (mine : List Entry) (more : Log) (t : SequencerState) (w : PassState) : Type 0 where
  pub history : t.history ≡ s.history ++ map (item v.hand) mine
  pub notes : t.notes ≡ set s.notes v.hand w.notes
  pub steps : Steps v mine more w
  pub front : w.front ≡ t.history
  pub legal : TellsLegal shape told w.front
  pub agrees : Agrees t w

-- Each spare hand of a pass became what f makes of it, by which a sequencer went from s to t and the pass from v to w. The history
-- and the notes of all other hands are the same, the new front is the whole history, and each hand is known at its own place
pub record SparesNoted (f : HandNotes → HandNotes) (s : SequencerState) (v : PassState) (t : SequencerState) (w : PassState) : Type 0 where
  pub history : t.history ≡ s.history
  pub pass : w ≡ record v { front = s.history; spare = map f v.spare }
  pub others : (hand : ℕ) → IsNone v.spare hand → notes_at t.notes hand ≡ notes_at s.notes hand
  pub agrees : Agrees t w
  pub spare : All (IsKnown t w.front) w.spare

-- each spare hand has one note more: that the pass's open call began, with room for so many notes
pub record CallsSpares (s : SequencerState) (v : PassState) (t : SequencerState) (w : PassState) : Type 0 where
  pub call : Call
  pub begun : (facts_of v.notes).call ≡ Some call
  pub noted : SparesNoted (λ h. with_note h (note (length s.history) ROOM (beginning_of call))) s v t w

-- each spare hand whose call was open has one note more: that it is over, with no room
pub record ReleasesSpares (s : SequencerState) (v : PassState) (t : SequencerState) (w : PassState) : Type 0 where
  pub noted : SparesNoted (released (length s.history)) s v t w

-- the entry is of this caller, in this call
pub record IsOfCall (caller : ℕ) (call : Call) (e : Entry) : Type 0 where
  pub by : e.line.caller ≡ caller
  pub of_call : call_of e ≡ call

-- the entry is of this caller, in the open call of a hand with these notes
pub record IsOwn (caller : ℕ) (notes : Log) (e : Entry) : Type 0 where
  pub by : e.line.caller ≡ caller
  pub of_call : (facts_of notes).call ≡ Some (call_of e)

-- the call with this number and deed
abbrev pub call_with : ℕ → Deed → Call
call_with number deed = record { number = number; deed = Some deed }

-- the log ends with this item
abbrev pub EndsWith : Log → List ℕ → Type 0
EndsWith log x = (before : Log) × (log ≡ before ++ x ∷ [])

-- A call with this deed, by which a pass went from v to w. It is the pass's next one. The new front is legal, has just these
-- entries of the hand beyond the old one, each of this call and with its point past the old front, and ends with the `End` entry
pub record Called (shape : Shape) (told : Bool) (v : PassState) (deed : Deed) (parts : List Entry) (last : Entry) (w : PassState) : Type 0 where
  pub more : Log
  pub steps : Steps v (parts ++ last ∷ []) more w
  pub legal : TellsLegal shape told w.front
  pub counted : w.calls ≡ v.calls + 1
  pub own : All (IsOfCall v.caller (call_with v.calls deed)) (parts ++ last ∷ [])
  pub late : All (λ e. length v.front ≤ e.line.point) (parts ++ last ∷ [])
  pub ends : last.line.part ≡ part.End
  pub stands : EndsWith w.front (item v.hand last)
