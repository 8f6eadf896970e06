-- What the event of a plan that is asked for anew leaves of the pass and the plan alone.
use Rattle.std.specs.Prelude.{◌≡◌, ◌+◌, Bool, [], ◌∷◌, ◌++◌, length}
use mathlib.Core.List.{IsPrefix}
use Rattle.ecp_shape.specs.declared.shape.Shape.{Shape}
use Rattle.ecp_book.specs.Logs.{Log}
use Rattle.ecp_entry.specs.declared.act.Act.{Act}
use Rattle.ecp_entry.specs.declared.act.Act.TheVariants as act
use Rattle.ecp_entry.specs.declared.deed.Deed.{Deed}
use Rattle.ecp_entry.specs.declared.part.Part.{Part}
use Rattle.ecp_entry.specs.Items.{item}
use Rattle.ecp_entry.specs.Told.{history_of}
use Rattle.ecp_history.specs.Legal.{TellsLegal}
use Rattle.ecp_plan.specs.declared.plan.Plan.{Plan}
use Rattle.ecp_sequencer.specs.Facts.{facts_of}
use Rattle.ecp_sequencer.specs.Passes.{PassState}
use Rattle.ecp_sequencer.specs.Steps.{Steps}
use Rattle.ecp_coord.specs.Calls.{IsOpen, StaysOpen, closing}
use Rattle.ecp_coord.specs.Plans.{IsPlanned, Moves, found_by_replanning}
use Rattle.ecp_coord.specs.declared.replanned.Replanned.{Replanned}
use Rattle.ecp_coord.specs.declared.replanned.Replanned.TheVariants.{Planned, StillGood, Unrecoverable, TargetDown, Unsteady}

-- the call that was open is open
abbrev pub SameCall : PassState → PassState → Type 0
SameCall v w = (w.calls ≡ v.calls) × ((facts_of w.notes).call ≡ (facts_of v.notes).call)

-- This part of the open call of a pass ended with this act: the history, which the pass's front begins and which is that long, grew by the
-- one entry that says so, and the pass's new front is the whole of it. A call is open after its part, with room for a part more and its end
pub record EndedAt (shape : Shape) (told : Bool) (before : Log) (v : PassState) (at : Part) (what : Act) (w : PassState) : Type 0 where
  pub asked : Deed
  pub is_open : IsOpen v asked
  pub begins : IsPrefix v.front before
  pub more : Log
  pub steps : Steps v (closing v asked at (length before) what [] ∷ []) more w
  pub front : w.front ≡ before ++ item v.hand (closing v asked at (length before) what []) ∷ []
  pub legal : TellsLegal shape told w.front
  pub calls : w.calls ≡ v.calls
  pub stays : StaysOpen at 2 asked w

-- the plan is the one of now for the same block, of the next attempt. It has the position that voided the attempt before it
pub record MovesOn (shape : Shape) (told : Bool) (before : Log) (v : PassState) {N : Type 0} (old new : Plan N) (w : PassState) : Type 0 where
  pub more : Log
  pub steps : Steps v [] more w
  pub front : w.front ≡ before
  pub call : SameCall v w
  pub planned : IsPlanned shape told w new
  pub of_now : new.front.items ≡ before
  pub moves : Moves (history_of before) old new
  pub same : new ≡ record old { attempt = old.attempt + 1; lanes = new.lanes; hops = new.hops; point = new.point; front = new.front; voids = new.voids }

-- the plan stands as it was, and nothing was noted
pub record StaysOn (before : Log) (v : PassState) {N : Type 0} (old new : Plan N) (w : PassState) : Type 0 where
  pub steps : Steps v [] [] w
  pub front : w.front ≡ before
  pub calls : w.calls ≡ v.calls
  pub same : new ≡ old

-- there is no further attempt: the plan's part ended with the reason, and the plan has the position that voided its last attempt
pub record EndsOn (shape : Shape) (told : Bool) (before : Log) (v : PassState) {N : Type 0} (old new : Plan N) (what : Act) (w : PassState) : Type 0 where
  pub ends : EndedAt shape told before v old.part what w
  pub moves : Moves (history_of before) old new
  pub same : new ≡ record old { voids = new.voids }

-- what was done, by the answer. A target that is down is an answer to rebuilds alone
abbrev pub DoesBy : {N : Type 0} → Shape → Bool → Log → PassState → Plan N → Plan N → PassState → Replanned → Type 0
DoesBy shape told before v old new w Planned = MovesOn shape told before v old new w
DoesBy shape told before v old new w StillGood = StaysOn before v old new w
DoesBy shape told before v old new w (Unrecoverable live) = EndsOn shape told before v old new (act.Unrecoverable live) w
DoesBy shape told before v old new w (TargetDown node) = ⊥
DoesBy shape told before v old new w Unsteady = EndsOn shape told before v old new (act.Unsteady new.voids.at) w

-- A crew answers whether a plan stands, by the history that it found, which the pass's front begins, and does what goes with the answer
pub record Replans (shape : Shape) (told : Bool) (v : PassState) {N : Type 0} (old new : Plan N) (w : PassState) (answer : Replanned) : Type 0 where
  pub before : Log
  pub begins : IsPrefix v.front before
  pub right : answer ≡ found_by_replanning shape (history_of before) old
  pub did : DoesBy shape told before v old new w answer
