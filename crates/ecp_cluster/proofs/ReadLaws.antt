-- A read, from its plan to its end.
use Rattle.std.proofs.Common.{◌≡◌, ℕ, ◌+◌, ◌-◌, ◌≤◌, Bool, List, [], ◌∷◌, ◌++◌, length, Option, Some, None, Result, Ok, Err, IfOk, IfErr, OnErr, refl, sym, ◌∙◌, ap, subst, arith, inl, inr, append-nil}
use Rattle.std.specs.Prelude.{MatchOption}
use Rattle.ecp_shape.specs.declared.shape.Shape.{Shape}
use Rattle.ecp_book.specs.Logs.{Log}
use Rattle.ecp_book.proofs.Prefixes.{prefix_length}
use Rattle.ecp_entry.specs.declared.act.Act.{Act}
use Rattle.ecp_entry.specs.declared.act.Act.TheVariants as act
use Rattle.ecp_entry.specs.declared.deed.Deed.{Deed}
use Rattle.ecp_entry.specs.declared.deed.Deed.TheVariants as deed
use Rattle.ecp_entry.specs.declared.entry.Entry.{Entry}
use Rattle.ecp_entry.specs.declared.part.Part.{Part}
use Rattle.ecp_entry.specs.declared.part.Part.TheVariants as part
use Rattle.ecp_entry.specs.Items.{item}
use Rattle.ecp_entry.specs.Told.{items_by}
use Rattle.ecp_plan.specs.declared.plan.Plan.{Plan}
use Rattle.ecp_sequencer.specs.Facts.{HandFacts, facts_of, room_noted}
use Rattle.ecp_sequencer.specs.Notes.{note, entering_of}
use Rattle.ecp_sequencer.specs.Passes.{IsWhole, PassState}
use Rattle.ecp_sequencer.specs.Sequencers.{SequencerState}
use Rattle.ecp_sequencer.specs.Steps.{Event, Steps, call_with}
use Rattle.ecp_sequencer.proofs.NoteLaws.{facts-other}
use Rattle.ecp_sequencer.proofs.StepLaws.{steps_both, steps_none, steps_whole}
use Rattle.ecp_coord.specs.declared.ask.Ask.{Ask}
use Rattle.ecp_coord.specs.declared.ask.Ask.TheVariants as ask
use Rattle.ecp_coord.specs.declared.no_plan.NoPlan.{NoPlan}
use Rattle.ecp_coord.specs.declared.no_plan.NoPlan.TheVariants as no
use Rattle.ecp_coord.specs.Calls.{EndsAny, HasOpen, IsOpen, StaysOpen, closing}
use Rattle.ecp_coord.specs.Coords.{CoordState}
use Rattle.ecp_coord.specs.Plans.{CanPlan, Plans, RefusesPlan, part_for, planning_of, refusal_of}
use Rattle.ecp_coord.specs.Plans as plans
use Rattle.ecp_coord.proofs.StillLaws.{stays_open}
use Rattle.ecp_requestor.specs.Crews.{EndedAt, SameCall}
use Rattle.ecp_requestor.specs.Fetching.{Advances, Ended, GoesOn}
use Rattle.ecp_cluster.specs.Concluded.{Answers, EndsUnplanned, GoesBy, IsPlannedFrom, LeavesOpen, ReadBy, WentOn}
use Rattle.ecp_cluster.specs.declared.answer.Answer.{Answer}
use Rattle.ecp_cluster.proofs.CallLaws.{same_asked, waited}

-- ---- what a call asks for

-- it asks for what it asked for before
still_asks : (v w : PassState) (a b : Deed) → IsOpen v a → IsOpen w b → SameCall v w → b ≡ a
still_asks v w a b is now same = same_asked (facts_of w.notes).call (w.calls - 1) (v.calls - 1) b a now.call (same.1 ∙ is.call)

-- ---- whether it is open still

-- the hand of a pass has room for the entry of this part, and for the end of the call behind it
abbrev RoomFor : Part → PassState → Type 0
RoomFor (part.Part j) v = 2 ≤ room_noted v.notes
RoomFor part.End v = Unit {0}

-- what a part without data leaves, and what one of a plan does
leaves_end : (w : PassState) (asked : Deed) (at : Part) (what : Act) → (what ≡ act.Data → ⊥) → StaysOpen at 1 asked w → LeavesOpen at what w asked
leaves_end w asked part.End what off stays = tt
leaves_end w asked (part.Part j) what off stays = (stays.0, λ is. absurd (off is))

leaves_more : (w : PassState) (asked : Deed) (at : Part) (what : Act) → StaysOpen at 2 asked w → LeavesOpen at what w asked
leaves_more w asked part.End what stays = tt
leaves_more w asked (part.Part j) what stays = (stays.0, λ is. stays.1)

-- a part that is entered in that room leaves the call open
stays_for : (v w : PassState) (asked : Deed) (at : Part) (position : ℕ) (what : Act) → IsOpen v asked → RoomFor at v
    → w.notes ≡ v.notes ++ note position (room_noted v.notes - 1) (entering_of v.hand (closing v asked at position what [])) ∷ [] → w.calls ≡ v.calls → IsWhole w → StaysOpen at 1 asked w
stays_for v w asked part.End position what is some noted calls whole = tt
stays_for v w asked (part.Part j) position what is some noted calls whole = stays_open v w asked (part.Part j) position position 1 what [] is noted calls whole (omega arith) (omega (arith, some))

-- a part may be planned where it has that room
pub room_by : (shape : Shape) (v : PassState) (a : Ask) → CanPlan shape v a → RoomFor (part_for a) v
room_by shape v (ask.Read name index) can = tt
room_by shape v (ask.Sum name index) can = tt
room_by shape v (ask.CatPart index) can = can.1.room

-- a refusal is no data
no_data_refused : (why : NoPlan) (what : Act) → refusal_of why ≡ Some what → what ≡ act.Data → ⊥
no_data_refused no.NoSuchFile what is says = cc (is, says)
no_data_refused (no.NoSuchBlock count) what is says = cc (is, says)
no_data_refused (no.Unrecoverable live) what is says = cc (is, says)
no_data_refused no.AlreadyLive what is says = cc is
no_data_refused (no.Clash row) what is says = cc is
no_data_refused (no.TargetDown node) what is says = cc is
no_data_refused no.NoMemory what is says = cc is

-- ---- the plan

-- this part of it ended, by one event
parted : (shape : Shape) (told : Bool) (s t : SequencerState) (v w : PassState) (asked : Deed) (at : Part) (what : Act) → IsOpen v asked → RoomFor at v → (what ≡ act.Data → ⊥) → EndsAny shape told s v at what t w
    → Answers shape told v asked at what [] w
parted shape told s t v w asked at what is some off ends =
    let same : ends.asked ≡ asked = still_asks v v asked ends.asked is ends.is_open (refl, refl) in
    record {
      entry = closing v ends.asked at (length s.history) what [];
      more = _;
      steps = ends.event.steps;
      legal = ends.event.legal;
      calls = ends.calls;
      by = refl;
      of_call = ap (λ (d : Deed). call_with (v.calls - 1) d) same;
      late = prefix_length v.front s.history ends.begins;
      of_part = refl;
      stands = (s.history, ends.event.front ∙ ends.event.history);
      act = refl;
      bytes = refl;
      left = leaves_end w asked at what off (stays_for v w asked at (length s.history) what is some
          (subst (λ (d : Deed). w.notes ≡ v.notes ++ note (length s.history) (room_noted v.notes - 1) (entering_of v.hand (closing v d at (length s.history) what [])) ∷ []) same ends.event.steps.noted) ends.calls (steps_whole v w _ _ ends.event.steps is.whole));
    }

unplanned_by : (shape : Shape) (told : Bool) (s t : SequencerState) (v w : PassState) (asked : Deed) (at : Part) (said : Option Act) → IsOpen v asked → RoomFor at v
    → ((what : Act) → said ≡ Some what → what ≡ act.Data → ⊥) → w.calls ≡ v.calls
    → MatchOption said (Event shape told s v [] [] t w) (λ what. EndsAny shape told s v at what t w) → MatchOption said (WentOn v w) (λ what. Answers shape told v asked at what [] w)
unplanned_by shape told s t v w asked at None is some off calls event = waited shape told s t v w event calls
unplanned_by shape told s t v w asked at (Some what) is some off calls ends = parted shape told s t v w asked at what is some (off what refl) ends

pub unplanned : (shape : Shape) (told : Bool) (s t : CoordState) (v w : PassState) (asked : Deed) (at : Part) (why : NoPlan) → IsOpen v asked → RoomFor at v
    → RefusesPlan shape told s v at (refusal_of why) t w → EndsUnplanned shape told v asked at why w
unplanned shape told s t v w asked at why is some r = unplanned_by shape told s.sequence t.sequence v w asked at (refusal_of why) is some (no_data_refused why) r.calls r.event

-- the answer that says so, or want of memory
pub refused_ok : {E : Type 0} (shape : Shape) (told : Bool) (v w : PassState) (asked : Deed) (at : Part) (said : Option Act) (result : Result Answer E)
    → IfOk result (λ a. (said ≡ Some a.act) × (a.bytes ≡ [])) → MatchOption said (WentOn v w) (λ what. Answers shape told v asked at what [] w) → IfOk result (λ a. Answers shape told v asked at a.act a.bytes w)
refused_ok shape told v w asked at said (Ok a) says ended =
    subst (λ (xs : List ℕ). Answers shape told v asked at a.act xs w) (sym says.1)
    (subst (λ (o : Option Act). MatchOption o (WentOn v w) (λ what. Answers shape told v asked at what [] w)) says.0 ended)
refused_ok shape told v w asked at said (Err e) says ended = tt

pub refused_err : {E : Type 0} (shape : Shape) (told : Bool) (v w : PassState) (asked : Deed) (at : Part) (said : Option Act) (result : Result Answer E)
    → OnErr result (said ≡ None) → MatchOption said (WentOn v w) (λ what. Answers shape told v asked at what [] w) → OnErr result (WentOn v w)
refused_err shape told v w asked at said (Ok a) none went = tt
refused_err shape told v w asked at said (Err e) none went =
    subst (λ (o : Option Act). MatchOption o (WentOn v w) (λ what. Answers shape told v asked at what [] w)) none went

pub planned_from : (shape : Shape) (told : Bool) {N : Type 0} (s t : CoordState) (v w : PassState) (asked : Deed) (plan : Plan N) → IsOpen v asked → Plans shape told s v plan t w
    → IsPlannedFrom shape told v asked plan w
planned_from shape told s t v w asked plan is p =
    let call : (facts_of w.notes).call ≡ (facts_of v.notes).call =
    ap (λ (ns : Log). (facts_of ns).call) p.event.steps.noted
    ∙ ap (λ (f : HandFacts). f.call) (facts-other v.notes (length s.sequence.history) _ (planning_of plan) (omega arith)) in
    let same : p.planned.asked ≡ asked = still_asks v w asked p.planned.asked is p.planned.is_open (p.calls, call) in
    let whole : w.front ≡ plan.front.items = p.event.front ∙ p.event.history ∙ append-nil s.sequence.history ∙ sym p.made.front in
    record {
      goes = record { more = _; steps = p.event.steps; is_open = subst (λ (d : Deed). IsOpen w d) same p.planned.is_open; calls = p.calls };
      planned = p.planned;
      late = omega (arith, prefix_length v.front w.front p.event.steps.extends, ap (λ (xs : Log). length xs) whole, p.planned.point);
    }

-- whether there is one or not
pub planned_either : (shape : Shape) (told : Bool) {N : Type 0} (s t : CoordState) (v w : PassState) (asked : Deed) (result : Result (Plan N) NoPlan) → IsOpen v asked
    → IfOk result (λ plan. Plans shape told s v plan t w) → IfOk result (λ plan. IsPlannedFrom shape told v asked plan w)
planned_either shape told s t v w asked (Ok plan) is p = planned_from shape told s t v w asked plan is p
planned_either shape told s t v w asked (Err why) is p = tt

pub unplanned_either : (shape : Shape) (told : Bool) {N : Type 0} (s t : CoordState) (v w : PassState) (asked : Deed) (at : Part) (result : Result (Plan N) NoPlan) → IsOpen v asked → RoomFor at v
    → IfErr result (λ why. RefusesPlan shape told s v at (refusal_of why) t w) → IfErr result (λ why. EndsUnplanned shape told v asked at why w)
unplanned_either shape told s t v w asked at (Ok plan) is some r = tt
unplanned_either shape told s t v w asked at (Err why) is some r = unplanned shape told s t v w asked at why is some r

-- ---- the fetch

module _ (shape : Shape) (told : Bool) {N : Type 0} (v p : PassState) (asked : Deed) (plan : Plan N) (from : IsPlannedFrom shape told v asked plan p) where
  -- what a pass did that went on
  steps_on : (w : PassState) → GoesOn p w → (more : Log) × Steps p [] more w
  steps_on w goes = elim goes.steps [
    | inl same ↦ ([], subst (λ (x : PassState). Steps p [] [] x) (sym same) (steps_none p (ap (λ (h : ℕ). items_by h p.front) from.goes.steps.hand ∙ from.goes.steps.settled)))
    | inr took ↦ took
  ]

  asks_on : (w : PassState) (now : Deed) → GoesOn p w → IsOpen w now → IsOpen w asked
  asks_on w now goes is = subst (λ (d : Deed). IsOpen w d) (still_asks p w asked now from.goes.is_open is goes.call) is

  pub goes_on_from : (plan2 : Plan N) (w : PassState) → Advances shape told p plan plan2 w → IsPlannedFrom shape told v asked plan2 w
  goes_on_from plan2 w a =
      let took = steps_on w a.goes in
      record {
        goes = record {
          more = from.goes.more ++ took.0;
          steps = steps_both v p w [] [] from.goes.more took.0 from.goes.steps took.1;
          is_open = asks_on w a.planned.asked a.goes a.planned.is_open;
          calls = a.goes.call.0 ∙ from.goes.calls;
        };
        planned = a.planned;
        late = omega (arith, from.late, a.later.point);
      }

  -- a plan has room for its part, and for what may come of the call behind it
  enough : 3 ≤ room_noted p.notes
  enough = omega (arith, from.planned.room, from.planned.most)

  pub ended_from : (before : Log) (what : Act) (w : PassState) → EndedAt shape told before p plan.part what w → Answers shape told v asked plan.part what [] w
  ended_from before what w e =
      let same : e.asked ≡ asked = still_asks p p asked e.asked from.goes.is_open e.is_open (refl, refl) in
      let x : Entry = closing p e.asked plan.part (length before) what [] in
      record {
        entry = x;
        more = from.goes.more ++ e.more;
        steps = steps_both v p w [] (x ∷ []) from.goes.more e.more from.goes.steps e.steps;
        legal = e.legal;
        calls = e.calls ∙ from.goes.calls;
        by = from.goes.steps.caller;
        of_call = ap (λ (n : ℕ). call_with (n - 1) e.asked) from.goes.calls ∙ ap (λ (d : Deed). call_with (v.calls - 1) d) same;
        late = omega (arith, prefix_length v.front p.front from.goes.steps.extends, prefix_length p.front before e.begins);
        of_part = refl;
        stands = (before, e.front ∙ ap (λ (h : ℕ). before ++ item h x ∷ []) from.goes.steps.hand);
        act = refl;
        bytes = refl;
        left = leaves_more w asked plan.part what (subst (λ (d : Deed). StaysOpen plan.part 2 d w) same e.stays);
      }

  pub given_from : (s t : CoordState) (bytes : List ℕ) (w : PassState) → plans.Finishes shape told s p plan bytes t w → Answers shape told v asked plan.part act.Data bytes w
  given_from s t bytes w f =
      let same : f.asked ≡ asked = still_asks p p asked f.asked from.goes.is_open f.is_open (refl, refl) in
      let x : Entry = closing p f.asked plan.part plan.point act.Data bytes in
      record {
        entry = x;
        more = _;
        steps = steps_both v p w [] (x ∷ []) from.goes.more _ from.goes.steps f.event.steps;
        legal = f.event.legal;
        calls = f.calls ∙ from.goes.calls;
        by = from.goes.steps.caller;
        of_call = ap (λ (n : ℕ). call_with (n - 1) f.asked) from.goes.calls ∙ ap (λ (d : Deed). call_with (v.calls - 1) d) same;
        late = from.late;
        of_part = refl;
        stands = (s.sequence.history, f.event.front ∙ f.event.history ∙ ap (λ (h : ℕ). s.sequence.history ++ item h x ∷ []) from.goes.steps.hand);
        act = refl;
        bytes = refl;
        left = leaves_more w asked plan.part act.Data (subst (λ (d : Deed). StaysOpen plan.part 2 d w) same
            (stays_open p w f.asked plan.part (length s.sequence.history) plan.point 2 act.Data bytes f.is_open f.event.steps.noted f.calls (steps_whole p w _ _ f.event.steps f.is_open.whole) (omega arith) (omega (arith, enough))));
      }

-- with the bytes of the block that was fetched
pub given_by : (shape : Shape) (told : Bool) {N : Type 0} (v p : PassState) (asked : Deed) (plan : Plan N) (from : IsPlannedFrom shape told v asked plan p) (s t : CoordState) (bytes seen : List ℕ) (w : PassState)
    → seen ≡ bytes → plans.Finishes shape told s p plan seen t w → Answers shape told v asked plan.part act.Data bytes w
given_by shape told v p asked plan from s t bytes seen w same f =
    subst (λ (xs : List ℕ). Answers shape told v asked plan.part act.Data xs w) same (given_from shape told v p asked plan from s t seen w f)

-- a pass that went on from its plan, without another
pub went_from : (shape : Shape) (told : Bool) {N : Type 0} (v p w : PassState) (asked : Deed) (plan : Plan N) → IsPlannedFrom shape told v asked plan p → GoesOn p w → WentOn v w
went_from shape told v p w asked plan from goes =
    let took = steps_on shape told v p asked plan from w goes in
    record {
      more = from.goes.more ++ took.0;
      steps = steps_both v p w [] [] from.goes.more took.0 from.goes.steps took.1;
      calls = goes.call.0 ∙ from.goes.calls;
    }

-- an answer with the act and the bytes of an entry
pub answers_as : (shape : Shape) (told : Bool) (v w : PassState) (asked : Deed) (at : Part) (what a : Act) (given : List ℕ) → a ≡ what → given ≡ [] → Answers shape told v asked at what [] w
    → Answers shape told v asked at a given w
answers_as shape told v w asked at what a given is none said =
    subst (λ (x : Act). Answers shape told v asked at x given w) (sym is) (subst (λ (xs : List ℕ). Answers shape told v asked at what xs w) (sym none) said)

-- a part that a fetch ended, with the act and the bytes of an answer
pub ended_by : (shape : Shape) (told : Bool) {N : Type 0} (v p : PassState) (asked : Deed) (plan : Plan N) (from : IsPlannedFrom shape told v asked plan p) (what a : Act) (given : List ℕ) (w : PassState)
    → Ended shape told p plan.part what w → a ≡ what → given ≡ [] → Answers shape told v asked plan.part a given w
ended_by shape told v p asked plan from what a given w e is none =
    answers_as shape told v w asked plan.part what a given is none (ended_from shape told v p asked plan from e.0 what w e.1)

-- ---- the call with its plan

-- a call that asks for a plan is open
pub open_by : (shape : Shape) (p : PassState) (a : Ask) → CanPlan shape p a → HasOpen p
open_by shape p (ask.Read name index) can = (deed.Read name.now index, can.2.is_open)
open_by shape p (ask.Sum name index) can = (deed.Sum name.now index, can.2.is_open)
open_by shape p (ask.CatPart index) can = (deed.Cat can.0, can.1.is_open)

-- a call that has its plan, read by it
pub read_either : {N E : Type 0} (shape : Shape) (told : Bool) (v p w : PassState) (asked : Deed) (at : Part) (plan : Plan N) (result : Result Answer E) → plan.part ≡ at → IsPlannedFrom shape told v asked plan p
    → IfOk result (λ a. ReadBy shape told p plan a.act a.bytes w) → IfOk result (λ a. Answers shape told v asked at a.act a.bytes w)
read_either shape told v p w asked at plan (Ok a) is from by = subst (λ (r : Part). Answers shape told v asked r a.act a.bytes w) is (by v asked from)
read_either shape told v p w asked at plan (Err e) is from by = tt

pub goes_either : {N E : Type 0} (shape : Shape) (told : Bool) (v p w : PassState) (asked : Deed) (plan : Plan N) (result : Result Answer E) → IsPlannedFrom shape told v asked plan p
    → OnErr result (GoesBy shape told p plan w) → OnErr result (WentOn v w)
goes_either shape told v p w asked plan (Ok a) from by = tt
goes_either shape told v p w asked plan (Err e) from by = by v asked from
