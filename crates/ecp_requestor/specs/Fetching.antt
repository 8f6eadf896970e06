-- What a fetch hands out.
use Rattle.std.specs.Prelude.{◌≡◌, ◌≤◌, ◌⊎◌, Bool, [], Option, Some, None, Result, Ok, Err}
use Rattle.ecp_shape.specs.declared.shape.Shape.{Shape}
use Rattle.ecp_book.specs.Logs.{Log}
use Rattle.ecp_entry.specs.declared.act.Act.{Act}
use Rattle.ecp_entry.specs.declared.act.Act.TheVariants as act
use Rattle.ecp_entry.specs.declared.part.Part.{Part}
use Rattle.ecp_plan.specs.declared.plan.Plan.{Plan}
use Rattle.ecp_sequencer.specs.Passes.{PassState}
use Rattle.ecp_sequencer.specs.Steps.{Steps}
use Rattle.ecp_coord.specs.Plans.{IsPlanned}
use Rattle.ecp_store.specs.declared.no_memory.NoMemory.{NoMemory}
use Rattle.ecp_requestor.specs.Blocks.{AssembledState, IsAssembled}
use Rattle.ecp_requestor.specs.Crews.{SameCall, EndedAt}
use Rattle.ecp_requestor.specs.declared.fetched.Fetched.{Fetched}
use Rattle.ecp_requestor.specs.declared.fetched.Fetched.TheVariants.{Whole, Unrecoverable, TargetDown, Unsteady}

-- A pass went on in its open call and made no entry: it is as it was, or it took steps
pub record GoesOn (v w : PassState) : Type 0 where
  pub steps : (w ≡ v) ⊎ ((more : Log) × Steps v [] more w)
  pub call : SameCall v w

-- the plan makes the same block of the same repair, for the same part of the call, by a history that is no shorter
pub record IsLater {N : Type 0} (old new : Plan N) : Type 0 where
  pub repair : new.repair ≡ old.repair
  pub part : new.part ≡ old.part
  pub stripe : new.stripe ≡ old.stripe
  pub row : new.row ≡ old.row
  pub point : old.point ≤ new.point

-- a pass went on, and the plan is its plan, the one that it had or that of a later attempt
pub record Advances (shape : Shape) (told : Bool) (v : PassState) {N : Type 0} (old new : Plan N) (w : PassState) : Type 0 where
  pub goes : GoesOn v w
  pub planned : IsPlanned shape told w new
  pub later : IsLater old new

-- it is the block that the plan makes, by the plan's front
pub record IsBlockOf (shape : Shape) (told : Bool) {N : Type 0} (plan : Plan N) (b : AssembledState) : Type 0 where
  pub stripe : b.stripe ≡ plan.stripe
  pub row : b.row ≡ plan.row
  pub front : b.front ≡ plan.front.items
  pub whole : IsAssembled shape told b

-- this part of the open call of a pass ended with this act, at the end of a history that the pass's front begins
abbrev pub Ended : Shape → Bool → PassState → Part → Act → PassState → Type 0
Ended shape told v at what w = (before : Log) × EndedAt shape told before v at what w

-- What a fetch with this plan hands out: the block by the plan that it has then, or why the plan's part ended. A target that is down is an answer
-- to rebuilds alone
abbrev pub Fetches : {N : Type 0} → Shape → Bool → PassState → Plan N → PassState → Fetched N → Type 0
Fetches shape told v old w (Whole plan block) = Advances shape told v old plan w × IsBlockOf shape told plan block
Fetches shape told v old w (Unrecoverable live) = Ended shape told v old.part (act.Unrecoverable live) w
Fetches shape told v old w (TargetDown node) = ⊥
Fetches shape told v old w (Unsteady voids) = Ended shape told v old.part (act.Unsteady voids.at) w

-- what a look at an attempt says: it goes on, or another one does; why the plan's part ended; or no memory was found for another one
abbrev pub Looks : {N : Type 0} → Shape → Bool → PassState → Plan N → Plan N → PassState → Result (Option (Fetched N)) NoMemory → Type 0
Looks shape told v old new w (Ok None) = Advances shape told v old new w
Looks shape told v old new w (Ok (Some fetched)) = Fetches shape told v old w fetched
Looks shape told v old new w (Err refused) = GoesOn v w

-- it is the block, with this plan
abbrev pub IsWhole : {N : Type 0} → Shape → Bool → Plan N → Fetched N → Type 0
IsWhole shape told plan (Whole by block) = (by ≡ plan) × IsBlockOf shape told plan block
IsWhole shape told plan (Unrecoverable live) = ⊥
IsWhole shape told plan (TargetDown node) = ⊥
IsWhole shape told plan (Unsteady voids) = ⊥
