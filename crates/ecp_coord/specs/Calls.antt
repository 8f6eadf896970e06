-- The open call of a pass, how it begins, and how an event ends it.
use Rattle.std.specs.Prelude.{◌≡◌, ℕ, ◌-◌, ◌≤◌, Bool, List, [], ◌∷◌, length, Some, ⊤}
use mathlib.Core.List.{IsPrefix}
use Rattle.ecp_shape.specs.declared.shape.Shape.{Shape}
use Rattle.ecp_entry.specs.declared.act.Act.{Act}
use Rattle.ecp_entry.specs.declared.deed.Deed.{Deed}
use Rattle.ecp_entry.specs.declared.entry.Entry.{Entry}
use Rattle.ecp_entry.specs.declared.part.Part.{Part}
use Rattle.ecp_entry.specs.declared.part.Part.TheVariants as part
use Rattle.ecp_entry.specs.Entries.{deed_name}
use Rattle.ecp_entry.specs.ReadBack.{line_with, entry_with}
use Rattle.ecp_sequencer.specs.declared.limits.TheConstants.{ROOM}
use Rattle.ecp_sequencer.specs.Notes.{note, beginning_of, entering_of}
use Rattle.ecp_sequencer.specs.Facts.{facts_of, room_noted}
use Rattle.ecp_sequencer.specs.Passes.{IsWhole, PassState}
use Rattle.ecp_sequencer.specs.Sequencers.{SequencerState}
use Rattle.ecp_sequencer.specs.Steps.{Event, call_with}

-- The pass is its caller's own, with all its spare hands. Its last `begin` began a call that asks for this, which has not ended, and its hand
-- has room for an entry
pub record IsOpen (p : PassState) (asked : Deed) : Type 0 where
  pub whole : IsWhole p
  pub begun : 1 ≤ p.calls
  pub call : (facts_of p.notes).call ≡ Some (call_with (p.calls - 1) asked)
  pub room : 1 ≤ room_noted p.notes

-- such a call of which nothing was noted since it began
pub record IsFresh (p : PassState) (asked : Deed) : Type 0 where
  pub is_open : IsOpen p asked
  pub none : (facts_of p.notes).since ≡ []

-- an event by which the pass's next call begins
abbrev pub Begins : Shape → Bool → SequencerState → PassState → Deed → SequencerState → PassState → Type 0
Begins shape told s v asked t w = Event shape told s v [] (note (length s.history) ROOM (beginning_of (call_with v.calls asked)) ∷ []) t w

-- the entry that ends the open call of a pass at a position, of which it speaks. It has no bytes
abbrev pub ended : PassState → Deed → ℕ → Act → Entry
ended p asked position act = entry_with (line_with p.caller (p.calls - 1) position part.End act) (Some asked) (deed_name (Some asked)) []

-- An event that ends the open call of a pass with this act: the history, which the pass's front begins, grows by the one entry that says
-- so, and the pass's hand notes it, in one place of its room
pub record Ends (shape : Shape) (told : Bool) (s : SequencerState) (v : PassState) (asked : Deed) (act : Act) (t : SequencerState) (w : PassState) : Type 0 where
  pub event : Event shape told s v (ended v asked (length s.history) act ∷ [])
      (note (length s.history) (room_noted v.notes - 1) (entering_of v.hand (ended v asked (length s.history) act)) ∷ []) t w
  pub begins : IsPrefix v.front s.history
  pub calls : w.calls ≡ v.calls

-- the pass has an open call, whatever it asks for
abbrev pub HasOpen : PassState → Type 0
HasOpen p = (asked : Deed) × IsOpen p asked

-- The entry of this part of the open call of a pass, with this act and these bytes, which speaks of the history at a point. That of the
-- end, `part.End`, ends the call
abbrev pub closing : PassState → Deed → Part → ℕ → Act → List ℕ → Entry
closing p asked at point act bytes = entry_with (line_with p.caller (p.calls - 1) point at act) (Some asked) (deed_name (Some asked)) bytes

-- An event that makes such an entry, whatever the call asks for, in one place of the hand's room
pub record EndsBy (shape : Shape) (told : Bool) (s : SequencerState) (v : PassState) (at : Part) (point : ℕ) (act : Act) (bytes : List ℕ) (t : SequencerState) (w : PassState) : Type 0 where
  pub asked : Deed
  pub is_open : IsOpen v asked
  pub event : Event shape told s v (closing v asked at point act bytes ∷ []) (note (length s.history) (room_noted v.notes - 1) (entering_of v.hand (closing v asked at point act bytes)) ∷ []) t w
  pub begins : IsPrefix v.front s.history
  pub calls : w.calls ≡ v.calls

-- After the entry of a part the call of a pass that asks for this is open still, and its hand has room for so many entries more. The end leaves
-- no call open
abbrev pub StaysOpen : Part → ℕ → Deed → PassState → Type 0
StaysOpen (part.Part j) room asked w = IsOpen w asked × (room ≤ room_noted w.notes)
StaysOpen part.End room asked w = ⊤

-- an event that makes the entry of this part with this act, at its own position and with no bytes, whatever the call asks for
abbrev pub EndsAny : Shape → Bool → SequencerState → PassState → Part → Act → SequencerState → PassState → Type 0
EndsAny shape told s v at act t w = EndsBy shape told s v at (length s.history) act [] t w

-- the entry of part j of the open call of a pass at a position, of which it speaks. It has no bytes
abbrev pub part_of : PassState → Deed → ℕ → ℕ → Act → Entry
part_of p asked j position act = closing p asked (part.Part j) position act []

-- An event that enters part j of the open call of a pass with this act, as `Ends` says of an end. Where the hand has room for
-- an entry more, the call is open still
pub record Enters (shape : Shape) (told : Bool) (s : SequencerState) (v : PassState) (asked : Deed) (j : ℕ) (act : Act) (t : SequencerState) (w : PassState) : Type 0 where
  pub event : Event shape told s v (part_of v asked j (length s.history) act ∷ [])
      (note (length s.history) (room_noted v.notes - 1) (entering_of v.hand (part_of v asked j (length s.history) act)) ∷ []) t w
  pub begins : IsPrefix v.front s.history
  pub calls : w.calls ≡ v.calls
  pub still_open : 2 ≤ room_noted v.notes → IsOpen w asked
