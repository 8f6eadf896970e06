-- A plan that does not stand: the plan of the next attempt, or the entry that ends the call.
use Rattle.std.proofs.Common.{◌≡◌, ℕ, zero, suc, ◌+◌, ◌-◌, ◌<◌, ◌≤◌, ◌==◌, Bool, true, false, cond, not, List, [], ◌∷◌, ◌++◌, length, map, take, drop, get_or, replicate, Option, Some, None, IsSome, refl, sym, ◌∙◌, ap, subst, arith, inl, inr, append-nil, length-drop, length-append, length-take-le}
use Rattle.std.specs.Prelude.{All, IsSomeAnd, IsTrue, MatchOption, nat_le, ⊤}
use Rattle.std.specs.List.Sorted.{IsStrictlyIncreasing}
use mathlib.Core.List.{IsPrefix}
use Rattle.std.proofs.lemmas.Bool.Decides.{nat_tests}
use Rattle.std.proofs.lemmas.List.{length-map, get_or-map, take-append-drop}
use Rattle.ecp_shape.specs.declared.limits.TheConstants.{MAX_ATTEMPTS, MAX_NODES}
use Rattle.ecp_shape.specs.declared.shape.Shape.{Shape}
use Rattle.ecp_book.specs.Logs.{Known, Log}
use Rattle.ecp_entry.specs.declared.act.Act.{Act}
use Rattle.ecp_entry.specs.declared.act.Act.TheVariants as act
use Rattle.ecp_entry.specs.declared.deed.Deed.{Deed}
use Rattle.ecp_entry.specs.declared.deed.Deed.TheVariants as deed
use Rattle.ecp_entry.specs.declared.entry.Entry.{Entry}
use Rattle.ecp_entry.specs.declared.part.Part.{Part}
use Rattle.ecp_entry.specs.declared.part.Part.TheVariants as part
use Rattle.ecp_entry.specs.Told.{history_of}
use Rattle.ecp_entry.proofs.ToldLaws.{history_of-append}
use Rattle.ecp_history.specs.declared.table.block_name.BlockName.{BlockName}
use Rattle.ecp_history.specs.Acts.{LacksRows, ReadUnsteady, UnsteadyFor}
use Rattle.ecp_history.specs.Calls.{Kind, OfBlock, ToRead, kind_of, place_of}
use Rattle.ecp_history.specs.Follows.{AreOvertaking, follows, is_voiding, passes_at}
use Rattle.ecp_history.specs.Files.{is_stored}
use Rattle.ecp_history.specs.Fronts.{told_table}
use Rattle.ecp_history.specs.Legal.{IsLegal, MayFollow}
use Rattle.ecp_history.specs.Named.{deed_block}
use Rattle.ecp_history.specs.Parts.{PartFits, refuses}
use Rattle.ecp_history.specs.Recoverable.{IsRecoverable}
use Rattle.ecp_history.specs.table.Steps.{table_of}
use Rattle.ecp_history.specs.table.Tables.{PlainTable, is_live, live_rows, standing_of}
use Rattle.ecp_plan.specs.declared.hop.Hop.{Hop}
use Rattle.ecp_plan.specs.declared.plan.Plan.{Plan}
use Rattle.ecp_plan.specs.declared.voids.Voids.{Voids}
use Rattle.ecp_catalog.specs.Catalogs.{earliest, first_loss}
use Rattle.ecp_catalog.specs.Stamps.{IsRaised, StampsSeen}
use Rattle.ecp_sequencer.specs.Facts.{room_noted}
use Rattle.ecp_sequencer.specs.Notes.{note}
use Rattle.ecp_sequencer.specs.Passes.{PassState}
use Rattle.ecp_sequencer.specs.Sequencers.{SequencerState}
use Rattle.ecp_sequencer.specs.Steps.{Event}
use Rattle.ecp_coord.specs.declared.replanned.Replanned.{Replanned}
use Rattle.ecp_coord.specs.declared.replanned.Replanned.TheVariants as re
use Rattle.ecp_coord.specs.Attempts.{IsNext}
use Rattle.ecp_coord.specs.Calls.{EndsAny, IsOpen, closing}
use Rattle.ecp_coord.specs.Coords.{CoordParts, IsCoord}
use Rattle.ecp_coord.specs.Helping.{CanHelp}
use Rattle.ecp_coord.specs.Plans.{Did, IsDue, IsPlanned, Moves, Replans, Stands, block_of, end_of, first_void, found_by_moving, is_recoverable, planning_of}
use Rattle.ecp_coord.specs.Voids.{AreVoids, positions_of}
use Rattle.ecp_coord.proofs.AnyLaws.{or_none}
use Rattle.ecp_coord.proofs.AttemptLaws.{state}
use Rattle.ecp_coord.proofs.DueLaws.{due_goes}
use Rattle.ecp_coord.proofs.EndLaws.{may_close}
use Rattle.ecp_coord.proofs.EndWithLaws.{one_asked}
use Rattle.ecp_coord.proofs.FirstLaws.{first_void_is}
use Rattle.ecp_coord.proofs.FollowLaws.{IsMet, follows_upto}
use Rattle.ecp_coord.proofs.HelpLaws.{can_help}
use Rattle.ecp_coord.proofs.LoseLaws.{length_told}
use Rattle.ecp_coord.proofs.NextLaws.{noted_met}
use Rattle.ecp_coord.proofs.PlanLaws.{IsFit, made_chosen, made_live, made_sound, made_stamped, planned_is, recoverable}
use Rattle.ecp_coord.proofs.PlanningLaws.{event_met}
use Rattle.ecp_coord.proofs.StandLaws.{block_stands, stands_lost}
use Rattle.ecp_coord.proofs.StayLaws.{block_stays}
use Rattle.ecp_coord.proofs.VoidLaws.{voids_more}

-- a plan with other positions, and with another front
abbrev pub with_voids : {N : Type 0} → Plan N → Voids → Plan N
with_voids plan vs = record plan { voids = vs }

abbrev pub with_plan_front : {N : Type 0} → Plan N → Known → Plan N
with_plan_front plan front = record plan { front = front }

-- a pass with another front
abbrev pub with_front : PassState → Log → PassState
with_front v front = record v { front = front }

-- the plan stands, as it was before the meeting
pub stands_now : {N : Type 0} (shape : Shape) (told : Bool) (s x t : SequencerState) (v q w : PassState) (y : StampsSeen) (repairs stripes slice : ℕ) (cyclic : Bool) (nodes : List Log) (plan : Plan N)
    (front : Known) → x ≡ s → q ≡ v → front ≡ plan.front → Event shape told x q [] [] t w → w ≡ with_front q x.history
    → Stands shape told (state s y repairs stripes slice cyclic nodes) v plan (with_plan_front plan front) (state t y repairs stripes slice cyclic nodes) w
stands_now shape told s x t v q w y repairs stripes slice cyclic nodes plan front same_x same_q same_front event renewed = record {
  event = event_met shape told s x t v q w same_x same_q [] event;
  same = ap (with_plan_front plan) same_front;
  rest = refl;
  calls = ap (λ (r : PassState). r.calls) renewed ∙ ap (λ (r : PassState). r.calls) same_q;
}

-- what ends a call stores no file
pub end_stores : (vs : Voids) (found : Replanned) (what : Act) → end_of vs found ≡ Some what → is_stored what ≡ false
end_stores vs re.Planned what says = absurd (cc)
end_stores vs re.StillGood what says = absurd (cc)
end_stores vs (re.Unrecoverable live) what says = let same : act.Unrecoverable live ≡ what = cc in ap is_stored (sym same)
end_stores vs (re.TargetDown node) what says = absurd (cc)
end_stores vs re.Unsteady what says = let same : act.Unsteady vs.at ≡ what = cc in ap is_stored (sym same)

-- there is an attempt left
pub few_attempts : (attempt kept : ℕ) → attempt ≡ kept + 1 → attempt ≤ MAX_ATTEMPTS → kept + 1 == MAX_ATTEMPTS ≡ false → attempt < MAX_ATTEMPTS
few_attempts attempt kept is most off = grind (arith, nat_tests)

-- a block that a call asks for and that is not live is lost
asked_stands : (shape : Shape) (told : Bool) (s : SequencerState) (v : PassState) (callers spares : ℕ) (p : CoordParts) (is : IsCoord shape told callers spares s p) (met : IsMet shape told callers spares s v)
    (asked : Deed) (at : Part) (b : BlockName) → deed_block shape (table_of shape (history_of s.history)) at (Some asked) ≡ Some b → IsSome (standing_of (table_of shape (history_of s.history)) b.stripe b.row)
asked_stands shape told s v callers spares p is met (deed.Put name len) at b named = absurd (cc)
asked_stands shape told s v callers spares p is met (deed.Read name index) at b named = block_stands shape told p.catalog (history_of s.history) name index b is.range met.kept.legal.legal is.outline named
asked_stands shape told s v callers spares p is met (deed.Sum name index) at b named = block_stands shape told p.catalog (history_of s.history) name index b is.range met.kept.legal.legal is.outline named
asked_stands shape told s v callers spares p is met (deed.Cat name) (part.Part zero) b named = absurd (cc)
asked_stands shape told s v callers spares p is met (deed.Cat name) (part.Part (suc j)) b named = block_stands shape told p.catalog (history_of s.history) name j b is.range met.kept.legal.legal is.outline named
asked_stands shape told s v callers spares p is met (deed.Cat name) part.End b named = absurd (cc)
asked_stands shape told s v callers spares p is met (deed.Lose node) at b named = absurd (cc)
asked_stands shape told s v callers spares p is met (deed.Join node) at b named = absurd (cc)
asked_stands shape told s v callers spares p is met (deed.Rebuild from to) at b named = absurd (cc)
asked_stands shape told s v callers spares p is met (deed.Stat name) at b named = absurd (cc)

module _ (shape : Shape) (told : Bool) (callers spares : ℕ) (s : SequencerState) (v : PassState) (p : CoordParts) (is : IsCoord shape told callers spares s p) (met : IsMet shape told callers spares s v) where
  module _ {N : Type 0} (plan : Plan N) (planned : IsPlanned shape told v plan) (begins : IsPrefix plan.front.items s.history) where
    -- the helpers' nodes are there
    nodes_there : All (λ (h : Hop N). h.node < length p.catalog.nodes) plan.hops.items
    nodes_there k d lt =
        let low = planned.sound.sound.helpers.known.on_nodes k 0 (omega (arith, lt, length-map plan.hops.items (λ (h : Hop N). h.node))) in
        omega (arith, low, get_or-map (λ (h : Hop N). h.node) plan.hops.items k d 0 lt, is.each_node)

    pub first_is : earliest (map (λ (h : Hop N). first_loss p.catalog.nodes plan.point h.node) plan.hops.items) ≡ first_void plan (history_of s.history)
    first_is = first_void_is plan shape told p.catalog (history_of s.history) is.outline is.no_drops nodes_there

    whole_is : history_of s.history ≡ history_of plan.front.items ++ history_of begins.0
    whole_is = ap (λ (xs : Log). history_of xs) (sym begins.1) ∙ history_of-append plan.front.items begins.0

    -- the call asks for the same block
    pub asked_now : deed_block shape (table_of shape (history_of s.history)) plan.part (Some planned.asked) ≡ Some (block_of plan)
    asked_now =
        subst (λ (es : List Entry). deed_block shape (table_of shape es) plan.part (Some planned.asked) ≡ Some (block_of plan)) (sym whole_is)
        (block_stays shape told planned.asked plan.part (block_of plan) (history_of plan.front.items) (history_of begins.0) (subst (IsLegal shape told) whole_is met.kept.legal.legal) planned.block)

    -- what must stand before the part stands there
    due_now : (what : Act) → refuses what ≡ false → PartFits shape (history_of s.history) (closing v planned.asked plan.part (length (history_of s.history)) what []) plan.part
    due_now what off = due_goes shape v planned.asked plan.part plan.front.items s.history begins planned.of_block planned.due (length (history_of s.history)) what [] off

    pub next_can : is_recoverable shape (table_of shape (history_of s.history)) (block_of plan) ≡ true → CanHelp p.catalog (block_of plan)
    next_can had = can_help shape told p.catalog (history_of s.history) is.outline is.each_node (block_of plan) is.range met.kept.legal.legal planned.sound.sound.of_row had

    module _ (at : ℕ) (first : first_void plan (history_of s.history) ≡ Some at) (vs : Voids) (len : vs.len ≡ plan.voids.len + 1) (kept : positions_of vs ≡ positions_of plan.voids ++ at ∷ [])
        (rest : drop vs.len vs.at ≡ drop (plan.voids.len + 1) plan.voids.at) where
      pub all_kept : AreVoids shape (λ t x. is_voiding t plan.stripe x) v.hand s.history vs
      all_kept = voids_more shape told callers spares s v met is.no_drops plan planned begins at first vs len kept rest

      pub moves : (new : Plan N) → new.voids ≡ vs → Moves (history_of s.history) plan new
      moves new same = record { at = at; first = first; kept = ap positions_of same ∙ kept }

      -- ---- the next attempt

      pub next_stamped : (x : StampsSeen) (cyclic : Bool) (new : Plan N) → IsNext p.catalog x.stamps cyclic s.history (record plan { voids = vs }) new → All (λ (h : Hop N). h.node < MAX_NODES) new.hops.items
      next_stamped x cyclic new next = made_stamped shape told p.catalog s.history is.range met.kept.legal is.outline is.each_node x.stamps cyclic new next.made

      pub next_replans : (t : SequencerState) (w : PassState) (x y : StampsSeen) (repairs stripes slice : ℕ) (cyclic : Bool) (nodes : List Log) (new : Plan N)
          → IsNext p.catalog x.stamps cyclic s.history (record plan { voids = vs }) new → is_recoverable shape (table_of shape (history_of s.history)) (block_of plan) ≡ true
          → plan.voids.len + 1 == MAX_ATTEMPTS ≡ false → Event shape told s v [] (note (length s.history) (room_noted v.notes - 1) (planning_of new) ∷ []) t w → w.calls ≡ v.calls
          → IsRaised x y (map (λ h. h.node) new.hops.items)
          → Replans shape told (state s x repairs stripes slice cyclic nodes) v plan new (state t y repairs stripes slice cyclic nodes) w
      next_replans t w x y repairs stripes slice cyclic nodes new next had room_left event calls raised =
          let u : PlainTable = table_of shape (history_of s.history) in
          let front : new.front.items ≡ s.history = ap (λ (k : Known). k.items) next.made.front in
          let stripe : new.stripe ≡ plan.stripe = ap (λ (q : Plan N). q.stripe) next.same in
          let row : new.row ≡ plan.row = ap (λ (q : Plan N). q.row) next.same in
          let at_part : new.part ≡ plan.part = ap (λ (q : Plan N). q.part) next.same in
          let block : block_of new ≡ block_of plan = ap (λ (q : Plan N). block_of q) next.same in
          let size : new.block ≡ plan.block = ap (λ (q : Plan N). q.block) next.same in
          let cut : new.slice ≡ plan.slice = ap (λ (q : Plan N). q.slice) next.same in
          let tries : new.voids ≡ vs = ap (λ (q : Plan N). q.voids) next.same in
          let count : new.voids.len ≡ vs.len = ap (λ (z : Voids). z.len) tries in
          let attempt : new.attempt ≡ plan.attempt + 1 = ap (λ (q : Plan N). q.attempt) next.same in
          let own : is_recoverable shape u (block_of new) ≡ true = ap (is_recoverable shape u) block ∙ had in
          let more : plan.voids.len + 1 < MAX_ATTEMPTS = few plan.voids.len room_left (omega (arith, planned.attempt, planned.most)) in
          let fit : IsFit shape told planned.asked v new = record {
            sound = made_sound shape told p.catalog s.history is.range met.kept.legal is.outline is.each_node x.stamps cyclic new next.made (omega (arith, row, planned.sound.sound.of_row))
                (size ∙ planned.sound.sound.len_is) (omega (arith, cut, planned.sound.sound.some)) (omega (arith, cut, planned.sound.sound.within, planned.sound.sound.len_is)) own;
            of_block = subst (λ (r : Part). OfBlock (kind_of (Some planned.asked)) (place_of r)) (sym at_part) planned.of_block;
            due = subst (λ (items : Log). IsDue shape v planned.asked new.part items) (sym front)
                (subst (λ (r : Part). IsDue shape v planned.asked r s.history) (sym at_part)
                (due_goes shape v planned.asked plan.part plan.front.items s.history begins planned.of_block planned.due 0 act.Data [] refl));
            block = ap (λ (r : Part). deed_block shape (told_table shape new.front.items) r (Some planned.asked)) at_part
                ∙ ap (λ (items : Log). deed_block shape (told_table shape items) plan.part (Some planned.asked)) front ∙ asked_now ∙ ap (λ (b : BlockName). Some b) (sym block);
            recoverable = subst (λ (items : Log). IsRecoverable shape (told_table shape items) new.stripe new.row) (sym front) (recoverable shape u (block_of new) own);
            attempt = omega (arith, attempt, planned.attempt, count, len);
            most = omega (arith, attempt, planned.attempt, more);
            voids = subst (λ (n : ℕ). AreVoids shape (λ tab e. is_voiding tab n e) v.hand new.front.items new.voids) (sym stripe)
                (subst (λ (items : Log). AreVoids shape (λ tab e. is_voiding tab plan.stripe e) v.hand items new.voids) (sym front)
                (subst (λ (z : Voids). AreVoids shape (λ tab e. is_voiding tab plan.stripe e) v.hand s.history z) (sym tries) all_kept));
            fits = omega (arith, next.made.fits, ap (λ (z : Shape). z.k) is.outline.sizes);
            live = made_live shape told p.catalog s.history is.range met.kept.legal is.outline is.each_node x.stamps cyclic new next.made;
            onto = ap (λ (q : Plan N). q.to) next.same ∙ planned.onto;
          } in
          record {
            event = event;
            planned = planned_is shape told s t v w planned.asked (room_noted v.notes - 1) new event calls planned.is_open (omega (arith, planned.room, planned.attempt, more))
                (omega (arith, planned.room, attempt, planned.attempt, more)) front next.made.point fit;
            made = record {
              front = front;
              chosen = made_chosen shape told p.catalog s.history is.range met.kept.legal is.outline is.each_node x.stamps cyclic new next.made;
              raised = raised;
            };
            moves = moves new tries;
            same = next.same ∙ ap (λ (z : Voids). let q : Plan N = record plan { attempt = plan.attempt + 1; lanes = new.lanes; hops = new.hops; point = new.point; front = new.front; voids = z } in q) (sym tries);
            rest = refl;
            calls = calls;
          }
        where
          few : (n : ℕ) → n + 1 == MAX_ATTEMPTS ≡ false → n + 1 ≤ MAX_ATTEMPTS → n + 1 < MAX_ATTEMPTS
          few n off most = grind (arith, nat_tests)

      -- the same, as the calls say it
      pub next_met : (x : SequencerState) (stamps : List ℕ) (cyclic : Bool) (front : Known) (new : Plan N) → x ≡ s → front ≡ plan.front
          → IsNext p.catalog stamps cyclic x.history (with_plan_front (with_voids plan vs) front) new → IsNext p.catalog stamps cyclic s.history (with_voids plan vs) new
      next_met x stamps cyclic front new same_x same_front next =
          subst (λ (f : Known). IsNext p.catalog stamps cyclic s.history (with_plan_front (with_voids plan vs) f) new) same_front
          (subst (λ (y : SequencerState). IsNext p.catalog stamps cyclic y.history (with_plan_front (with_voids plan vs) front) new) same_x next)

      pub replans_now : (x t : SequencerState) (q w : PassState) (y z : StampsSeen) (repairs stripes slice : ℕ) (cyclic : Bool) (nodes : List Log) (new : Plan N) → x ≡ s → q ≡ v
          → IsNext p.catalog y.stamps cyclic s.history (with_voids plan vs) new → is_recoverable shape (table_of shape (history_of s.history)) (block_of plan) ≡ true
          → plan.voids.len + 1 == MAX_ATTEMPTS ≡ false → Event shape told x q [] (note (length x.history) (room_noted q.notes - 1) (planning_of new) ∷ []) t w → w.calls ≡ q.calls
          → IsRaised y z (map (λ h. h.node) new.hops.items)
          → Replans shape told (state s y repairs stripes slice cyclic nodes) v plan new (state t z repairs stripes slice cyclic nodes) w
      replans_now x t q w y z repairs stripes slice cyclic nodes new same_x same_q next had room_left event calls raised =
          next_replans t w y z repairs stripes slice cyclic nodes new next had room_left (noted_met shape told s x t v q w same_x (planning_of new) same_q event)
          (calls ∙ ap (λ (r : PassState). r.calls) same_q) raised

      -- ---- the end of the call

      lost : is_recoverable shape (table_of shape (history_of s.history)) (block_of plan) ≡ false
          → LacksRows shape (table_of shape (history_of s.history)) (live_rows (table_of shape (history_of s.history)) plan.stripe) (block_of plan)
      lost off =
          let parts = or_none (is_live (table_of shape (history_of s.history)) plan.stripe plan.row) (nat_le shape.k (live_rows (table_of shape (history_of s.history)) plan.stripe)) off in
          record {
            lost = stands_lost (table_of shape (history_of s.history)) plan.stripe plan.row (asked_stands shape told s v callers spares p is met planned.asked plan.part (block_of plan) asked_now) parts.0;
            counted = refl;
            few = (let low : nat_le shape.k (live_rows (table_of shape (history_of s.history)) plan.stripe) ≡ false = parts.1 in grind (arith, nat_tests));
          }

      pub lost_follows : is_recoverable shape (table_of shape (history_of s.history)) (block_of plan) ≡ false
          → MayFollow shape told (history_of s.history) (closing v planned.asked plan.part (length (history_of s.history)) (act.Unrecoverable (live_rows (table_of shape (history_of s.history)) plan.stripe)) [])
      lost_follows off =
          may_close shape told (history_of s.history) v planned.asked plan.part (act.Unrecoverable (live_rows (table_of shape (history_of s.history)) plan.stripe)) met.session planned.of_block refl
          (due_now (act.Unrecoverable (live_rows (table_of shape (history_of s.history)) plan.stripe)) refl)
          (subst (λ (o : Option BlockName). IsSomeAnd o (LacksRows shape (table_of shape (history_of s.history)) (live_rows (table_of shape (history_of s.history)) plan.stripe))) (sym asked_now) (lost off))

      -- sixteen positions
      full_at : vs.len ≡ MAX_ATTEMPTS → positions_of vs ≡ vs.at
      full_at full =
          let none : drop vs.len vs.at ≡ [] = all_kept.rest ∙ ap (λ (n : ℕ). replicate (MAX_ATTEMPTS - n) 0) full in
          sym (append-nil (take vs.len vs.at)) ∙ ap (λ (xs : List ℕ). take vs.len vs.at ++ xs) (sym none) ∙ take-append-drop vs.len vs.at

      full_length : vs.len ≡ MAX_ATTEMPTS → length vs.at ≡ MAX_ATTEMPTS
      full_length full =
          let before : plan.voids.len ≡ 15 = omega (arith, full, len) in
          let one : length (drop plan.voids.len plan.voids.at) ≡ 1 = ap (λ (xs : List ℕ). length xs) (planned.voids.rest ∙ ap (λ (n : ℕ). replicate (MAX_ATTEMPTS - n) 0) before) in
          let old : length plan.voids.at ≡ 16 = omega (arith, one, length-drop plan.voids.len plan.voids.at, before) in
          let some : length (positions_of plan.voids) ≡ plan.voids.len = length-take-le plan.voids.len plan.voids.at (omega (arith, old, before)) in
          let all : length (positions_of vs) ≡ length (positions_of plan.voids ++ at ∷ []) = ap (λ (xs : List ℕ). length xs) kept in
          let same : length (positions_of vs) ≡ length vs.at = ap (λ (xs : List ℕ). length xs) (full_at full) in
          omega (arith, some, all, same, before, length-append (positions_of plan.voids) (at ∷ []))

      overtaken : (e : Entry) → e.line.caller ≡ v.caller → vs.len ≡ MAX_ATTEMPTS
          → AreOvertaking shape (history_of s.history) (follows (history_of s.history) e) (λ t x. is_voiding t plan.stripe x) vs.at
      overtaken e by full = record {
        for_each = full_length full;
        rising = subst IsStrictlyIncreasing (full_at full) all_kept.rising;
        within = subst (All (λ u. (follows (history_of s.history) e ≤ u) × (u < length (history_of s.history)))) (full_at full) (λ k d lt. (
          follows_upto shape told callers spares s v e (get_or (positions_of vs) k d) met is.idle by (all_kept.late k d lt),
          (let low = all_kept.within k d lt in omega (arith, low, length_told s.history)),
        ));
        each = subst (All (λ u. IsTrue (passes_at shape (history_of s.history) (λ t x. is_voiding t plan.stripe x) u))) (full_at full) all_kept.each;
      }

      abbrev Unsteadily : Kind → Type 0
      Unsteadily k = UnsteadyFor shape (history_of s.history) (table_of shape (history_of s.history)) (closing v planned.asked plan.part (length (history_of s.history)) (act.Unsteady vs.at) []) vs.at k

      pub unsteady_follows : is_recoverable shape (table_of shape (history_of s.history)) (block_of plan) ≡ true → vs.len ≡ MAX_ATTEMPTS
          → MayFollow shape told (history_of s.history) (closing v planned.asked plan.part (length (history_of s.history)) (act.Unsteady vs.at) [])
      unsteady_follows had full =
          let e : Entry = closing v planned.asked plan.part (length (history_of s.history)) (act.Unsteady vs.at) [] in
          let u : PlainTable = table_of shape (history_of s.history) in
          may_close shape told (history_of s.history) v planned.asked plan.part (act.Unsteady vs.at) met.session (inl planned.of_block) refl (due_now (act.Unsteady vs.at) refl)
          (of_kind planned.of_block
          (subst (λ (o : Option BlockName). IsSomeAnd o (ReadUnsteady shape (history_of s.history) u e vs.at)) (sym asked_now)
          (record { recoverable = recoverable shape u (block_of plan) had; voids = overtaken e refl full })))
        where
          of_kind : OfBlock (kind_of (Some planned.asked)) (place_of plan.part) → Unsteadily ToRead → Unsteadily (kind_of (Some planned.asked))
          of_kind (inl of) is = subst Unsteadily (sym of.0) is
          of_kind (inr of) is = subst Unsteadily (sym of.0) is

      -- what is found decides
      abbrev Goes : Replanned → Type 0
      Goes r = MatchOption (end_of vs r) ⊤ (λ what. (asked : Deed) → IsOpen v asked → MayFollow shape told (history_of s.history) (closing v asked plan.part (length (history_of s.history)) what []))

      pub moving_follows : (found : Replanned) → found ≡ found_by_moving shape (table_of shape (history_of s.history)) plan
          → MatchOption (end_of vs found) ⊤ (λ what. (asked : Deed) → IsOpen v asked → MayFollow shape told (history_of s.history) (closing v asked plan.part (length (history_of s.history)) what []))
      moving_follows found found_is = subst Goes (sym found_is) (by_had (is_recoverable shape (table_of shape (history_of s.history)) (block_of plan)) refl) where
        for_all : (what : Act) → MayFollow shape told (history_of s.history) (closing v planned.asked plan.part (length (history_of s.history)) what [])
            → (asked : Deed) → IsOpen v asked → MayFollow shape told (history_of s.history) (closing v asked plan.part (length (history_of s.history)) what [])
        for_all what goes asked open_call =
            subst (λ (d : Deed). MayFollow shape told (history_of s.history) (closing v d plan.part (length (history_of s.history)) what [])) (one_asked v planned.asked asked planned.is_open open_call) goes

        by_full : (full : Bool) → plan.voids.len + 1 == MAX_ATTEMPTS ≡ full → is_recoverable shape (table_of shape (history_of s.history)) (block_of plan) ≡ true → Goes (cond full re.Unsteady re.Planned)
        by_full false off had = tt
        by_full true on had = for_all (act.Unsteady vs.at) (unsteady_follows had (let same : plan.voids.len + 1 ≡ MAX_ATTEMPTS = grind (arith, nat_tests) in len ∙ same))

        by_had : (had : Bool) → is_recoverable shape (table_of shape (history_of s.history)) (block_of plan) ≡ had
            → Goes (cond (not had) (re.Unrecoverable (live_rows (table_of shape (history_of s.history)) plan.stripe)) (cond (plan.voids.len + 1 == MAX_ATTEMPTS) re.Unsteady re.Planned))
        by_had false off = for_all (act.Unrecoverable (live_rows (table_of shape (history_of s.history)) plan.stripe)) (lost_follows off)
        by_had true on = by_full (plan.voids.len + 1 == MAX_ATTEMPTS) refl on

      pub moving_goes : (found : Replanned) → found ≡ found_by_moving shape (table_of shape (history_of s.history)) plan → (what : Act) → end_of vs found ≡ Some what
          → (asked : Deed) → IsOpen v asked → MayFollow shape told (history_of s.history) (closing v asked plan.part (length s.history) what [])
      moving_goes found found_is what says asked open_call =
          subst (λ (n : ℕ). MayFollow shape told (history_of s.history) (closing v asked plan.part n what [])) (length_told s.history)
          (subst (λ (o : Option Act). MatchOption o ⊤ (λ a. (d : Deed) → IsOpen v d → MayFollow shape told (history_of s.history) (closing v d plan.part (length (history_of s.history)) a []))) says (moving_follows found found_is) asked open_call)

      -- the same, as the calls say it
      pub goes_met : (x : SequencerState) (q : PassState) (point : ℕ) → x ≡ s → q ≡ v → point ≡ length x.history → (found : Replanned)
          → found ≡ found_by_moving shape (table_of shape (history_of s.history)) plan → (what : Act) → end_of vs found ≡ Some what
          → (asked : Deed) → IsOpen q asked → MayFollow shape told (history_of x.history) (closing q asked plan.part point what [])
      goes_met x q point same_x same_q here found found_is what says =
          subst (λ (y : SequencerState). (asked : Deed) → IsOpen q asked → MayFollow shape told (history_of y.history) (closing q asked plan.part point what [])) (sym same_x)
          (subst (λ (r : PassState). (asked : Deed) → IsOpen r asked → MayFollow shape told (history_of s.history) (closing r asked plan.part point what [])) (sym same_q)
          (subst (λ (n : ℕ). (asked : Deed) → IsOpen v asked → MayFollow shape told (history_of s.history) (closing v asked plan.part n what [])) (sym (here ∙ ap (λ (y : SequencerState). length y.history) same_x))
          (moving_goes found found_is what says)))

      -- what is done where the call ends
      pub given_up : (t : SequencerState) (w : PassState) (x : StampsSeen) (repairs stripes slice : ℕ) (cyclic : Bool) (nodes : List Log) (found : Replanned) (what : Act) → end_of vs found ≡ Some what
          → EndsAny shape told s v plan.part what t w
          → Did shape told (state s x repairs stripes slice cyclic nodes) v plan (record plan { voids = vs }) (state t x repairs stripes slice cyclic nodes) w found
      given_up t w x repairs stripes slice cyclic nodes re.Planned what says ends = absurd (cc)
      given_up t w x repairs stripes slice cyclic nodes re.StillGood what says ends = absurd (cc)
      given_up t w x repairs stripes slice cyclic nodes (re.Unrecoverable live) what says ends =
          let same : act.Unrecoverable live ≡ what = cc in
          record { ends = record { ends = subst (λ (a : Act). EndsAny shape told s v plan.part a t w) (sym same) ends; rest = refl }; moves = moves (record plan { voids = vs }) refl; same = refl }
      given_up t w x repairs stripes slice cyclic nodes (re.TargetDown node) what says ends = absurd (cc)
      given_up t w x repairs stripes slice cyclic nodes re.Unsteady what says ends =
          let same : act.Unsteady vs.at ≡ what = cc in
          record { ends = record { ends = subst (λ (a : Act). EndsAny shape told s v plan.part a t w) (sym same) ends; rest = refl }; moves = moves (record plan { voids = vs }) refl; same = refl }

      -- the same, as the calls say it
      pub given_up_now : (t : SequencerState) (w : PassState) (y : StampsSeen) (repairs stripes slice : ℕ) (cyclic : Bool) (nodes : List Log) (front : Known) (found : Replanned) (what : Act)
          → front ≡ plan.front → end_of vs found ≡ Some what → EndsAny shape told s v plan.part what t w
          → Did shape told (state s y repairs stripes slice cyclic nodes) v plan (with_plan_front (with_voids plan vs) front) (state t y repairs stripes slice cyclic nodes) w found
      given_up_now t w y repairs stripes slice cyclic nodes front found what same_front says ends =
          subst (λ (f : Known). Did shape told (state s y repairs stripes slice cyclic nodes) v plan (with_plan_front (with_voids plan vs) f) (state t y repairs stripes slice cyclic nodes) w found)
          (sym same_front) (given_up t w y repairs stripes slice cyclic nodes found what says ends)

      -- what is found where the call goes on
      pub goes_on : (found : Replanned) → found ≡ found_by_moving shape (table_of shape (history_of s.history)) plan → end_of vs found ≡ None
          → (found ≡ re.Planned) × (is_recoverable shape (table_of shape (history_of s.history)) (block_of plan) ≡ true) × (plan.voids.len + 1 == MAX_ATTEMPTS ≡ false)
      goes_on found found_is none = by_had (is_recoverable shape (table_of shape (history_of s.history)) (block_of plan)) (plan.voids.len + 1 == MAX_ATTEMPTS) refl refl found_is where
        by_had : (had full : Bool) → is_recoverable shape (table_of shape (history_of s.history)) (block_of plan) ≡ had → plan.voids.len + 1 == MAX_ATTEMPTS ≡ full
            → found ≡ cond (not had) (re.Unrecoverable (live_rows (table_of shape (history_of s.history)) plan.stripe)) (cond full re.Unsteady re.Planned)
            → (found ≡ re.Planned) × (is_recoverable shape (table_of shape (history_of s.history)) (block_of plan) ≡ true) × (plan.voids.len + 1 == MAX_ATTEMPTS ≡ false)
        by_had false full off on says = let ends = sym none ∙ ap (end_of vs) says in absurd (cc)
        by_had true true on at_end says = let ends = sym none ∙ ap (end_of vs) says in absurd (cc)
        by_had true false on before says = (says, on, before)
