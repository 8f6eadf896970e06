-- How an open call of a pass goes on, and how it is concluded.
use Rattle.std.specs.Prelude.{◌≡◌, ℕ, ◌-◌, ◌≤◌, Bool, List, [], ◌∷◌, length, MatchOption, ⊤}
use Rattle.ecp_shape.specs.declared.shape.Shape.{Shape}
use Rattle.ecp_book.specs.Logs.{Log}
use Rattle.ecp_entry.specs.declared.act.Act.{Act}
use Rattle.ecp_entry.specs.declared.act.Act.TheVariants.{Data}
use Rattle.ecp_entry.specs.declared.deed.Deed.{Deed}
use Rattle.ecp_entry.specs.declared.entry.Entry.{Entry}
use Rattle.ecp_entry.specs.declared.part.Part.{Part}
use Rattle.ecp_entry.specs.declared.part.Part.TheVariants as part
use Rattle.ecp_entry.specs.Items.{item}
use Rattle.ecp_history.specs.Legal.{TellsLegal}
use Rattle.ecp_plan.specs.declared.plan.Plan.{Plan}
use Rattle.ecp_sequencer.specs.Facts.{room_noted}
use Rattle.ecp_sequencer.specs.Notes.{call_of}
use Rattle.ecp_sequencer.specs.Passes.{PassState}
use Rattle.ecp_sequencer.specs.Steps.{EndsWith, Steps, call_with}
use Rattle.ecp_coord.specs.declared.no_plan.NoPlan.{NoPlan}
use Rattle.ecp_coord.specs.Calls.{IsOpen}
use Rattle.ecp_coord.specs.Plans.{IsPlanned, refusal_of}

-- a pass went on, and made no entry
pub record WentOn (v w : PassState) : Type 0 where
  pub more : Log
  pub steps : Steps v [] more w
  pub calls : w.calls ≡ v.calls

-- it did so in its open call, which asks for this and is open still
pub record GoesFrom (v : PassState) (asked : Deed) (w : PassState) : Type 0 where
  pub more : Log
  pub steps : Steps v [] more w
  pub is_open : IsOpen w asked
  pub calls : w.calls ≡ v.calls

-- After a part of a call the call is open still, with room for its end, and after one with data for another part too. The end leaves none open
abbrev pub LeavesOpen : Part → Act → PassState → Deed → Type 0
LeavesOpen (part.Part j) what w asked = IsOpen w asked × (what ≡ Data → 2 ≤ room_noted w.notes)
LeavesOpen part.End what w asked = ⊤

-- This part of the open call of a pass, which asks for this, ended with one entry: of this act and these bytes, with its point past the old
-- front. The new front is legal, and ends with it
pub record Answers (shape : Shape) (told : Bool) (v : PassState) (asked : Deed) (at : Part) (what : Act) (given : List ℕ) (w : PassState) : Type 0 where
  pub entry : Entry
  pub more : Log
  pub steps : Steps v (entry ∷ []) more w
  pub legal : TellsLegal shape told w.front
  pub calls : w.calls ≡ v.calls
  pub by : entry.line.caller ≡ v.caller
  pub of_call : call_of entry ≡ call_with (v.calls - 1) asked
  pub late : length v.front ≤ entry.line.point
  pub of_part : entry.line.part ≡ at
  pub stands : EndsWith w.front (item v.hand entry)
  pub act : entry.line.act ≡ what
  pub bytes : entry.bytes ≡ given
  pub left : LeavesOpen at what w asked

-- the call itself ended so
abbrev pub Concludes : Shape → Bool → PassState → Deed → Act → List ℕ → PassState → Type 0
Concludes shape told v asked what given w = Answers shape told v asked part.End what given w

-- it has a plan, which was made past the old front
pub record IsPlannedFrom (shape : Shape) (told : Bool) (v : PassState) (asked : Deed) {N : Type 0} (plan : Plan N) (w : PassState) : Type 0 where
  pub goes : GoesFrom v asked w
  pub planned : IsPlanned shape told w plan
  pub late : length v.front ≤ plan.point

-- this part of it has none: where an act says why, it ended with that, and else the call goes on, since no memory was found
abbrev pub EndsUnplanned : Shape → Bool → PassState → Deed → Part → NoPlan → PassState → Type 0
EndsUnplanned shape told v asked at why w = MatchOption (refusal_of why) (WentOn v w) (λ what. Answers shape told v asked at what [] w)

-- for any call that has come to this plan: the plan's part ended so
abbrev pub ReadBy : {N : Type 0} → Shape → Bool → PassState → Plan N → Act → List ℕ → PassState → Type 0
ReadBy shape told p plan what given w = (v : PassState) (asked : Deed) → IsPlannedFrom shape told v asked plan p → Answers shape told v asked plan.part what given w

-- and it made no entry
abbrev pub GoesBy : {N : Type 0} → Shape → Bool → PassState → Plan N → PassState → Type 0
GoesBy shape told p plan w = (v : PassState) (asked : Deed) → IsPlannedFrom shape told v asked plan p → WentOn v w
