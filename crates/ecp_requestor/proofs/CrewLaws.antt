-- What a crew's answer leaves of a fetch, and that the coordinator's event is such an answer.
use Rattle.std.proofs.Common.{◌≡◌, ℕ, ◌-◌, ◌<◌, ◌≤◌, inr, Bool, List, [], ◌∷◌, length, drop, Some, refl, sym, ◌∙◌, ap, subst, arith, append-nil, length-drop}
use mathlib.Core.List.{IsPrefix}
use Rattle.std.specs.List.{position_from}
use Rattle.std.proofs.lemmas.List.{length-map}
use Rattle.ecp_shape.specs.declared.shape.Shape.{Shape}
use Rattle.ecp_book.specs.Logs.{Log}
use Rattle.ecp_entry.specs.declared.act.Act.{Act}
use Rattle.ecp_entry.specs.declared.act.Act.TheVariants as act
use Rattle.ecp_entry.specs.Told.{Made, history_of, made_of, made_from}
use Rattle.ecp_plan.specs.declared.plan.Plan.{Plan}
use Rattle.ecp_sequencer.specs.Facts.{HandFacts, facts_of, room_noted}
use Rattle.ecp_sequencer.specs.Passes.{PassState}
use Rattle.ecp_sequencer.proofs.NoteLaws.{facts-other}
use Rattle.ecp_sequencer.proofs.StepLaws.{steps_whole}
use Rattle.ecp_coord.specs.Coords.{CoordState}
use Rattle.ecp_coord.specs.Plans.{IsPlanned, Moves, Did, found_by_replanning, planning_of, voids_plan}
use Rattle.ecp_coord.specs.Plans as plans
use Rattle.ecp_coord.specs.declared.replanned.Replanned.{Replanned}
use Rattle.ecp_coord.specs.declared.replanned.Replanned.TheVariants.{Planned, StillGood, Unrecoverable, TargetDown, Unsteady}
use Rattle.ecp_coord.proofs.SameLaws.{planned_by}
use Rattle.ecp_coord.proofs.StillLaws.{stays_open}
use Rattle.ecp_requestor.specs.Crews.{MovesOn, StaysOn, EndsOn, Replans}
use Rattle.ecp_requestor.specs.Fetching.{IsLater, Advances}

-- a list in which a place was found is not empty
some_there : {X : Type 0} (test : X → Bool) (i at : ℕ) (xs : List X) → position_from test i xs ≡ Some at → 1 ≤ length xs
some_there test i at [] found = absurd (cc found)
some_there test i at (x ∷ xs) found = omega arith

length-told : (items : Log) → length (history_of items) ≡ length items
length-told items = length-map (made_of items) (λ (m : Made). m.entry) ∙ length-map items made_from

-- what voided an attempt stands past its point
pub moves_past : {N : Type 0} (before : Log) (old new : Plan N) → Moves (history_of before) old new → old.point < length before
moves_past before old new m =
    let some : 1 ≤ length (drop old.point (history_of before)) = some_there (voids_plan old) old.point m.at (drop old.point (history_of before)) m.first in
    omega (arith, some, length-drop old.point (history_of before), length-told before)

-- ---- what an answer leaves

module _ (shape : Shape) (told : Bool) {N : Type 0} where
  pub stays_on : (before : Log) (v w : PassState) (old new : Plan N) → IsPlanned shape told v old → StaysOn before v old new w → Advances shape told v old new w
  stays_on before v w old new planned s =
      let notes : w.notes ≡ v.notes = s.steps.noted ∙ append-nil v.notes in
      record {
        goes = record { steps = inr ([], s.steps); call = (s.calls, ap (λ (ns : Log). (facts_of ns).call) notes) };
        planned = subst (IsPlanned shape told w) (sym s.same) (planned_by shape told v w old notes s.steps.caller s.steps.hand s.calls (steps_whole v w [] [] s.steps planned.is_open.whole) planned);
        later = subst (IsLater old) (sym s.same) (record { repair = refl; part = refl; stripe = refl; row = refl; point = omega arith });
      }

  pub moves_on : (before : Log) (v w : PassState) (old new : Plan N) → MovesOn shape told before v old new w → Advances shape told v old new w
  moves_on before v w old new m = record {
    goes = record { steps = inr (m.more, m.steps); call = m.call };
    planned = m.planned;
    later = record {
      repair = ap (λ (p : Plan N). p.repair) m.same;
      part = ap (λ (p : Plan N). p.part) m.same;
      stripe = ap (λ (p : Plan N). p.stripe) m.same;
      row = ap (λ (p : Plan N). p.row) m.same;
      point = omega (arith, moves_past before old new m.moves, m.planned.point, ap length m.of_now);
    };
  }

  -- ---- the coordinator's event

  module _ (s t : CoordState) (v w : PassState) (old new : Plan N) where
    moved : plans.Replans shape told s v old new t w → MovesOn shape told s.sequence.history v old new w
    moved p = record {
      more = _;
      steps = p.event.steps;
      front = p.event.front ∙ p.event.history ∙ append-nil s.sequence.history;
      call = (
        p.calls,
        ap (λ (ns : Log). (facts_of ns).call) p.event.steps.noted
            ∙ ap (λ (f : HandFacts). f.call) (facts-other v.notes (length s.sequence.history) (room_noted v.notes - 1) (planning_of new) (omega arith)),
      );
      planned = p.planned;
      of_now = p.made.front;
      moves = p.moves;
      same = p.same;
    }

    stayed : plans.Stands shape told s v old new t w → StaysOn s.sequence.history v old new w
    stayed p = record { steps = p.event.steps; front = p.event.front ∙ p.event.history ∙ append-nil s.sequence.history; calls = p.calls; same = p.same }

    gave_up : (what : Act) → IsPlanned shape told v old → plans.GivesUp shape told s v old new what t w → EndsOn shape told s.sequence.history v old new what w
    gave_up what planned p =
        let e = p.ends.ends in
        record {
          ends = record {
            asked = e.asked;
            is_open = e.is_open;
            begins = e.begins;
            more = _;
            steps = e.event.steps;
            front = e.event.front ∙ e.event.history;
            legal = e.event.legal;
            calls = e.calls;
            stays = stays_open v w e.asked old.part (length s.sequence.history) (length s.sequence.history) 2 what [] e.is_open e.event.steps.noted e.calls (steps_whole v w _ _ e.event.steps e.is_open.whole) (omega arith)
                (omega (arith, planned.room, planned.most));
          };
          moves = p.moves;
          same = p.same;
        }

    abbrev Right : Replanned → Type 0
    Right answer = answer ≡ found_by_replanning shape (history_of s.sequence.history) old

    pub crew_of : (answer : Replanned) → IsPlanned shape told v old → Right answer → Did shape told s v old new t w answer → Replans shape told v old new w answer
    crew_of Planned planned right did =
        let m = moved did in
        record { before = s.sequence.history; begins = subst (IsPrefix v.front) m.front m.steps.extends; right = right; did = m }
    crew_of StillGood planned right did =
        let m = stayed did in
        record { before = s.sequence.history; begins = subst (IsPrefix v.front) m.front m.steps.extends; right = right; did = m }
    crew_of (Unrecoverable live) planned right did =
        let m = gave_up (act.Unrecoverable live) planned did in record { before = s.sequence.history; begins = m.ends.begins; right = right; did = m }
    crew_of (TargetDown node) planned right did = absurd did
    crew_of Unsteady planned right did =
        let m = gave_up (act.Unsteady new.voids.at) planned did in record { before = s.sequence.history; begins = m.ends.begins; right = right; did = m }
