-- What a plan of a pass is, and how it is made, made anew and ended.
use Rattle.std.specs.Prelude.{◌≡◌, ℕ, suc, ◌+◌, ◌-◌, ◌^◌, ◌<◌, ◌≤◌, ◌==◌, nat_le, nat_lt, Bool, true, false, not, ◌&&◌, ◌||◌, if◌then◌else◌, ◌⊎◌, List, [], ◌∷◌, ◌++◌, length, map, filter, flat_map, drop, vec_capacity, Option, Some, None, is_none, IsSome, MatchOption, Result, Ok, Err, All}
use Rattle.std.specs.List.{list_any, position_from}
use Rattle.std.specs.Option.{option_map_or}
use Rattle.ecp_shape.specs.declared.limits.TheConstants.{MAX_ATTEMPTS, MAX_NAME}
use Rattle.ecp_shape.specs.declared.shape.Shape.{Shape}
use Rattle.ecp_book.specs.Logs.{Log}
use Rattle.ecp_entry.specs.declared.act.Act.{Act}
use Rattle.ecp_entry.specs.declared.act.Act.TheVariants as act
use Rattle.ecp_entry.specs.declared.deed.Deed.{Deed}
use Rattle.ecp_entry.specs.declared.deed.Deed.TheVariants as deed
use Rattle.ecp_entry.specs.declared.entry.Entry.{Entry}
use Rattle.ecp_entry.specs.declared.part.Part.{Part}
use Rattle.ecp_entry.specs.declared.part.Part.TheVariants as part
use Rattle.ecp_entry.specs.Entries.{loss_of, part_numbers}
use Rattle.ecp_entry.specs.Items.{sized}
use Rattle.ecp_entry.specs.Told.{history_of, items_by}
use Rattle.ecp_history.specs.declared.table.block_name.BlockName.{BlockName}
use Rattle.ecp_history.specs.declared.table.file.File.{File}
use Rattle.ecp_history.specs.Calls.{OfBlock, kind_of, place_of}
use Rattle.ecp_history.specs.Follows.{is_voiding}
use Rattle.ecp_history.specs.Fronts.{told_table}
use Rattle.ecp_history.specs.Named.{block_at, deed_block}
use Rattle.ecp_history.specs.Parts.{PartFits}
use Rattle.ecp_history.specs.Recoverable.{IsRecoverable}
use Rattle.ecp_history.specs.table.Steps.{table_of}
use Rattle.ecp_history.specs.table.Tables.{PlainTable, block_count, file_block, file_of, inc_of, is_live, is_live_on, live_rows, rows_of}
use Rattle.ecp_catalog.specs.Stamps.{IsRaised}
use Rattle.ecp_catalog.specs.Standing.{live_among}
use Rattle.ecp_plan.specs.Choice.{IsChoice}
use Rattle.ecp_plan.specs.Plans.{IsSound}
use Rattle.ecp_plan.specs.declared.plan.Plan.{Plan}
use Rattle.ecp_plan.specs.declared.voids.Voids.{Voids}
use Rattle.ecp_sequencer.specs.declared.limits.TheConstants.{ROOM}
use Rattle.ecp_sequencer.specs.Notes.{note, entering_of, says_of}
use Rattle.ecp_sequencer.specs.Notes as noting
use Rattle.ecp_sequencer.specs.Facts.{facts_of, entries_noted, room_noted}
use Rattle.ecp_sequencer.specs.Passes.{PassState}
use Rattle.ecp_sequencer.specs.Steps.{EndsWith, Event}
use Rattle.ecp_coord.specs.declared.ask.Ask.{Ask}
use Rattle.ecp_coord.specs.declared.ask.Ask.TheVariants as ask
use Rattle.ecp_coord.specs.declared.no_plan.NoPlan.{NoPlan}
use Rattle.ecp_coord.specs.declared.no_plan.NoPlan.TheVariants.{NoSuchFile, NoSuchBlock, Unrecoverable, AlreadyLive, Clash, TargetDown, NoMemory}
use Rattle.ecp_coord.specs.declared.replanned.Replanned.{Replanned}
use Rattle.ecp_coord.specs.declared.replanned.Replanned.TheVariants as replanned
use Rattle.ecp_coord.specs.declared.replanned.Replanned.TheVariants.{Planned, StillGood, Unsteady}
use Rattle.ecp_coord.specs.Calls.{EndsAny, IsFresh, IsOpen, closing}
use Rattle.ecp_coord.specs.Coords.{CoordState}
use Rattle.ecp_coord.specs.Voids.{AreVoids, positions_of}

-- the kind of a note of a plan, or of a later attempt of it
abbrev pub planned : ℕ
planned = 3

-- what such a note says: all that the plan has, but for its front, which is the history at its point
abbrev pub plan_says : {N : Type 0} → Plan N → List ℕ
plan_says plan =
    plan.repair ∷ plan.attempt ∷ plan.stripe ∷ plan.row ∷ plan.lanes ∷ plan.block ∷ plan.slice ∷ plan.point ∷
    flat_map sized (part_numbers plan.part ∷ map (λ h. h.row) plan.hops.items ∷ map (λ h. h.node) plan.hops.items ∷ map (λ h. h.inc) plan.hops.items ∷
    map (λ h. h.weight) plan.hops.items ∷ positions_of plan.voids ∷ [])

abbrev pub planning_of : {N : Type 0} → Plan N → List ℕ
planning_of plan = planned ∷ plan_says plan

-- what a hand with these notes noted of plans since its call began
abbrev pub plans_noted : Log → List (List ℕ)
plans_noted notes = map says_of (filter (λ x. noting.kind_of x == planned) (facts_of notes).since)

-- a part of the open call of a pass is due: what must stand before its entry stands in this front
abbrev pub IsDue : Shape → PassState → Deed → Part → Log → Type 0
IsDue shape p asked at front = PartFits shape (history_of front) (closing p asked at 0 act.Data []) at

-- The plan is the last one that the pass's hand noted, in its open call. It is for a part of that call that has a block and is due, which is
-- the end of a read. It is sound, it makes the block that this part asks for, which could be had at its point, and all entries of the hand
-- stand before that. Each attempt before this one came to nothing by an entry at a position that the plan has. There is room for the
-- attempts that are left, for the entry of the part, for that of another part without a plan, and for the end of the call. At its point the row of each helper was live on its node.
-- The block is to be kept nowhere
pub record IsPlanned (shape : Shape) (told : Bool) {N : Type 0} (p : PassState) (plan : Plan N) : Type 0 where
  pub asked : Deed
  pub is_open : IsOpen p asked
  pub last : EndsWith (plans_noted p.notes) (plan_says plan)
  pub sound : IsSound shape told plan
  pub of_block : OfBlock (kind_of (Some asked)) (place_of plan.part)
  pub due : IsDue shape p asked plan.part plan.front.items
  pub block : deed_block shape (told_table shape plan.front.items) plan.part (Some asked) ≡ Some (record { stripe = plan.stripe; row = plan.row })
  pub recoverable : IsRecoverable shape (told_table shape plan.front.items) plan.stripe plan.row
  pub point : plan.point ≡ length plan.front.items
  pub own : items_by p.hand plan.front.items ≡ entries_noted p.notes
  pub attempt : plan.attempt ≡ plan.voids.len + 1
  pub most : plan.attempt ≤ MAX_ATTEMPTS
  pub voids : AreVoids shape (λ t x. is_voiding t plan.stripe x) p.hand plan.front.items plan.voids
  pub room : MAX_ATTEMPTS + 3 ≤ room_noted p.notes + plan.attempt
  pub fits : shape.k ≤ vec_capacity plan.hops
  pub live : All (λ h. is_live_on (told_table shape plan.front.items) plan.stripe h.row h.node ≡ true) plan.hops.items
  pub onto : plan.to ≡ None

-- The helpers are those of a table and of the stamps: the row itself where it is live, and else k live rows whose nodes' turns come first.
-- There is one lane, or one for each helper where that is asked for and the plan is not direct. Each node is named with its incarnation
pub record AreChosen (shape : Shape) (t : PlainTable) (stamps : List ℕ) (cyclic : Bool) {N : Type 0} (plan : Plan N) : Type 0 where
  pub direct : is_live t plan.stripe plan.row ≡ true → map (λ h. h.row) plan.hops.items ≡ plan.row ∷ []
  pub others : is_live t plan.stripe plan.row ≡ false → IsChoice stamps (live_among (rows_of t plan.stripe)) shape.k (map (λ h. h.row) plan.hops.items)
  pub lanes : plan.lanes ≡ (if cyclic then length plan.hops.items else 1)
  pub incs : All (λ h. h.inc ≡ inc_of t h.node) plan.hops.items

-- whether a loss of a node, if there is one, is that of a helper's node
abbrev pub loses_helper : {N : Type 0} → Plan N → Option ℕ → Bool
loses_helper plan None = false
loses_helper plan (Some m) = list_any (λ h. h.node == m) plan.hops.items

-- whether an act gives up the block of a helper
abbrev pub drops_helper : {N : Type 0} → Plan N → Act → Bool
drops_helper plan (act.Drop stripe row) = (stripe == plan.stripe) && list_any (λ h. h.row == row) plan.hops.items
drops_helper plan _ = false

-- whether an entry makes the attempt come to nothing: a node of a helper is lost, or the block of a helper given up
abbrev pub voids_plan : {N : Type 0} → Plan N → Entry → Bool
voids_plan plan e = loses_helper plan (loss_of e) || drops_helper plan e.line.act

-- the position of the first entry since the plan's point that does so
abbrev pub first_void : {N : Type 0} → Plan N → List Entry → Option ℕ
first_void plan history = position_from (voids_plan plan) plan.point (drop plan.point history)

-- ---- what is found by asking for a block

-- whether a block can be had
abbrev pub is_recoverable : Shape → PlainTable → BlockName → Bool
is_recoverable shape t b = is_live t b.stripe b.row || nat_le shape.k (live_rows t b.stripe)

abbrev pub sought_block : Shape → PlainTable → BlockName → Result BlockName NoPlan
sought_block shape t b = if is_recoverable shape t b then Ok b else Err (Unrecoverable (live_rows t b.stripe))

abbrev pub sought_in : Shape → PlainTable → File → ℕ → Result BlockName NoPlan
sought_in shape t f index =
    if nat_lt index (block_count shape f) then sought_block shape t (file_block shape f index) else Err (NoSuchBlock (block_count shape f))

-- by a table: no file has the name; the file has too few blocks; the block is lost, with too few live rows; else the block
abbrev pub sought : Shape → PlainTable → List ℕ → ℕ → Result BlockName NoPlan
sought shape t name index = option_map_or (λ f. sought_in shape t f index) (file_of t name) (Err NoSuchFile)

-- a call asks for this block: for its bytes, or for their digest
abbrev pub AsksBlock : Deed → List ℕ → ℕ → Type 0
AsksBlock asked name index = (asked ≡ deed.Read name index) ⊎ (asked ≡ deed.Sum name index)

-- the open call of a pass asks for this block, and nothing was noted of it yet
pub record AsksWhole (p : PassState) (name : List ℕ) (index : ℕ) : Type 0 where
  pub asked : Deed
  pub asks : AsksBlock asked name index
  pub fresh : IsFresh p asked

-- The open call of a pass is a `cat` of this file, which has such a block in the pass's front, and the part for that block is due. The hand
-- has room for the entry of the part, and for the end of the call
pub record AsksPart (shape : Shape) (p : PassState) (name : List ℕ) (index : ℕ) : Type 0 where
  pub is_open : IsOpen p (deed.Cat name)
  pub room : 2 ≤ room_noted p.notes
  pub due : IsDue shape p (deed.Cat name) (part.Part (suc index)) p.front
  pub there : IsSome (block_at shape (told_table shape p.front) name index)
  pub numbered : suc index < 2 ^ 32

-- the open call of a pass asks for this block at its end, or at the part for it
abbrev pub IsSought : Shape → PassState → Part → List ℕ → ℕ → Type 0
IsSought shape p at name index = ((at ≡ part.End) × AsksWhole p name index) ⊎ ((at ≡ part.Part (suc index)) × AsksPart shape p name index)

-- The open call of a pass asks for this plan: nothing was noted yet of a read or a sum of this block, whose name has 1 to 64 bytes; or the
-- part of a `cat` that this block is for is due
abbrev pub CanPlan : Shape → PassState → Ask → Type 0
CanPlan shape p (ask.Read name index) = (1 ≤ length name.now) × (length name.now ≤ MAX_NAME) × IsFresh p (deed.Read name.now index)
CanPlan shape p (ask.Sum name index) = (1 ≤ length name.now) × (length name.now ≤ MAX_NAME) × IsFresh p (deed.Sum name.now index)
CanPlan shape p (ask.CatPart index) = (name : List ℕ) × AsksPart shape p name index

-- the part of the call that the plan is for
abbrev pub part_for : Ask → Part
part_for (ask.Read name index) = part.End
part_for (ask.Sum name index) = part.End
part_for (ask.CatPart index) = part.Part (suc index)

-- the number of the block in its file
abbrev pub index_of : Ask → ℕ
index_of (ask.Read name index) = index
index_of (ask.Sum name index) = index
index_of (ask.CatPart index) = index

-- a block of the file of this name is asked for: of a `cat` it is the one that the call asks for
abbrev pub IsOfFile : PassState → Ask → List ℕ → Type 0
IsOfFile p (ask.Read name index) file = file ≡ name.now
IsOfFile p (ask.Sum name index) file = file ≡ name.now
IsOfFile p (ask.CatPart index) file = IsOpen p (deed.Cat file)

-- the act that says in the history why a call has no plan. Want of memory says nothing, and the others come of rebuilds, whose parts they end
abbrev pub refusal_of : NoPlan → Option Act
refusal_of NoSuchFile = Some act.NoSuchFile
refusal_of (NoSuchBlock count) = Some (act.NoSuchBlock count)
refusal_of (Unrecoverable live) = Some (act.Unrecoverable live)
refusal_of AlreadyLive = None
refusal_of (Clash row) = None
refusal_of (TargetDown node) = None
refusal_of NoMemory = None

-- the answer is that of the table, or want of memory
abbrev pub Answers : {N : Type 0} → Result BlockName NoPlan → Result (Plan N) NoPlan → Type 0
Answers found (Ok plan) = found ≡ Ok (record { stripe = plan.stripe; row = plan.row })
Answers found (Err why) = (why ≡ NoMemory) ⊎ (found ≡ Err why)

-- ---- the events

-- The plan is made now: its front is the history, and its helpers are those of the history's table and the stamps, which are raised for
-- them
pub record MadeNow (shape : Shape) (s t : CoordState) {N : Type 0} (plan : Plan N) : Type 0 where
  pub front : plan.front.items ≡ s.sequence.history
  pub chosen : AreChosen shape (told_table shape s.sequence.history) s.stamps.stamps s.cyclic plan
  pub raised : IsRaised s.stamps t.stamps (map (λ h. h.node) plan.hops.items)

-- a new repair: attempt 1 of it, noted by the pass's hand, which takes the room for later attempts. Its slices are those of the coordinator
pub record Plans (shape : Shape) (told : Bool) (s : CoordState) (v : PassState) {N : Type 0} (plan : Plan N) (t : CoordState) (w : PassState) : Type 0 where
  pub event : Event shape told s.sequence v [] (note (length s.sequence.history) ROOM (planning_of plan) ∷ []) t.sequence w
  pub planned : IsPlanned shape told w plan
  pub made : MadeNow shape s t plan
  pub numbered : (plan.repair ≡ s.repairs) × (plan.attempt ≡ 1)
  pub sliced : plan.slice ≡ s.slice
  pub rest : t ≡ record s { sequence = t.sequence; stamps = t.stamps; repairs = s.repairs + 1 }
  pub calls : w.calls ≡ v.calls

-- There is no plan. Where there is an act that says why, it ends this part of the open call; else nothing is noted
pub record RefusesPlan (shape : Shape) (told : Bool) (s : CoordState) (v : PassState) (at : Part) (said : Option Act) (t : CoordState) (w : PassState) : Type 0 where
  pub event : MatchOption said (Event shape told s.sequence v [] [] t.sequence w) (λ what. EndsAny shape told s.sequence v at what t.sequence w)
  pub rest : t ≡ record s { sequence = t.sequence }
  pub calls : w.calls ≡ v.calls

-- the block of a plan
abbrev pub block_of : {N : Type 0} → Plan N → BlockName
block_of plan = record { stripe = plan.stripe; row = plan.row }

-- what is found where a plan does not stand: the block cannot be had any more; too many attempts came to nothing; else there is another
-- attempt
abbrev pub found_by_moving : {N : Type 0} → Shape → PlainTable → Plan N → Replanned
found_by_moving shape t plan =
    if not (is_recoverable shape t (block_of plan)) then replanned.Unrecoverable (live_rows t plan.stripe)
    else if plan.voids.len + 1 == MAX_ATTEMPTS then Unsteady
    else Planned

-- what is found by asking whether a plan still stands: no helper was lost since its point, nor its block given up; else as above
abbrev pub found_by_replanning : {N : Type 0} → Shape → List Entry → Plan N → Replanned
found_by_replanning shape history plan =
    if is_none (first_void plan history) then StillGood else found_by_moving shape (table_of shape history) plan

-- the act that says in the history why a plan is not made anew, where that ends the call. `TargetDown` comes of rebuilds, whose parts it ends
abbrev pub end_of : Voids → Replanned → Option Act
end_of voids (replanned.Unrecoverable live) = Some (act.Unrecoverable live)
end_of voids Unsteady = Some (act.Unsteady voids.at)
end_of voids _ = None

-- the plan has one voided position more, the first since its point
pub record Moves {N : Type 0} (history : List Entry) (old new : Plan N) : Type 0 where
  pub at : ℕ
  pub first : first_void old history ≡ Some at
  pub kept : positions_of new.voids ≡ positions_of old.voids ++ at ∷ []

-- the next attempt of a repair: the plan of now for the same block, with the position that voided the attempt before it
pub record Replans (shape : Shape) (told : Bool) (s : CoordState) (v : PassState) {N : Type 0} (old new : Plan N) (t : CoordState) (w : PassState) : Type 0 where
  pub event : Event shape told s.sequence v [] (note (length s.sequence.history) (room_noted v.notes - 1) (planning_of new) ∷ []) t.sequence w
  pub planned : IsPlanned shape told w new
  pub made : MadeNow shape s t new
  pub moves : Moves (history_of s.sequence.history) old new
  pub same : new ≡ record old { attempt = old.attempt + 1; lanes = new.lanes; hops = new.hops; point = new.point; front = new.front; voids = new.voids }
  pub rest : t ≡ record s { sequence = t.sequence; stamps = t.stamps }
  pub calls : w.calls ≡ v.calls

-- this part of the open call of a pass ends with this act, whatever it asks for
pub record EndsOpen (shape : Shape) (told : Bool) (s : CoordState) (v : PassState) (at : Part) (what : Act) (t : CoordState) (w : PassState) : Type 0 where
  pub ends : EndsAny shape told s.sequence v at what t.sequence w
  pub rest : t ≡ record s { sequence = t.sequence }

-- there is no further attempt: the plan's part ends with the reason, and the plan has the position that voided its last attempt
pub record GivesUp (shape : Shape) (told : Bool) (s : CoordState) (v : PassState) {N : Type 0} (old new : Plan N) (what : Act) (t : CoordState) (w : PassState) : Type 0 where
  pub ends : EndsOpen shape told s v old.part what t w
  pub moves : Moves (history_of s.sequence.history) old new
  pub same : new ≡ record old { voids = new.voids }

-- the plan stands: nothing is noted, and the plan is as it was
pub record Stands (shape : Shape) (told : Bool) (s : CoordState) (v : PassState) {N : Type 0} (old new : Plan N) (t : CoordState) (w : PassState) : Type 0 where
  pub event : Event shape told s.sequence v [] [] t.sequence w
  pub same : new ≡ old
  pub rest : t ≡ record s { sequence = t.sequence }
  pub calls : w.calls ≡ v.calls

-- what was done, by the answer. `TargetDown` comes of rebuilds alone
abbrev pub Did : {N : Type 0} → Shape → Bool → CoordState → PassState → Plan N → Plan N → CoordState → PassState → Replanned → Type 0
Did shape told s v old new t w Planned = Replans shape told s v old new t w
Did shape told s v old new t w StillGood = Stands shape told s v old new t w
Did shape told s v old new t w (replanned.Unrecoverable live) = GivesUp shape told s v old new (act.Unrecoverable live) t w
Did shape told s v old new t w (replanned.TargetDown node) = ⊥
Did shape told s v old new t w Unsteady = GivesUp shape told s v old new (act.Unsteady new.voids.at) t w

-- the entry that answers a part of the open call with the bytes of a block, which it had at a point
abbrev pub answer_of : PassState → Deed → Part → ℕ → List ℕ → Entry
answer_of p asked at point bytes = closing p asked at point act.Data bytes

-- the plan's part of the open call of a pass ends with the bytes of its block, which speak of the plan's point
pub record Finishes (shape : Shape) (told : Bool) (s : CoordState) (v : PassState) {N : Type 0} (plan : Plan N) (bytes : List ℕ) (t : CoordState) (w : PassState) : Type 0 where
  pub asked : Deed
  pub is_open : IsOpen v asked
  pub event : Event shape told s.sequence v (answer_of v asked plan.part plan.point bytes ∷ [])
      (note (length s.sequence.history) (room_noted v.notes - 1) (entering_of v.hand (answer_of v asked plan.part plan.point bytes)) ∷ []) t.sequence w
  pub rest : t ≡ record s { sequence = t.sequence }
  pub calls : w.calls ≡ v.calls
