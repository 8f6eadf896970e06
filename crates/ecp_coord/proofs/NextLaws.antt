-- What the parts of the event that asks for a plan anew say together: what is found, and what was noted or ended as it was before the meeting.
use Rattle.std.proofs.Common.{◌≡◌, ℕ, ◌+◌, ◌-◌, ◌==◌, Bool, true, false, cond, not, List, [], ◌∷◌, length, sym, ◌∙◌, ap, subst}
use Rattle.std.proofs.lemmas.Bool.{eq-eqb, ne_eqb}
use Rattle.ecp_shape.specs.declared.limits.TheConstants.{MAX_ATTEMPTS}
use Rattle.ecp_shape.specs.declared.shape.Shape.{Shape}
use Rattle.ecp_book.specs.Logs.{Log}
use Rattle.ecp_entry.specs.declared.act.Act.{Act}
use Rattle.ecp_entry.specs.declared.part.Part.{Part}
use Rattle.ecp_history.specs.table.Tables.{PlainTable, live_rows}
use Rattle.ecp_plan.specs.declared.plan.Plan.{Plan}
use Rattle.ecp_sequencer.specs.Facts.{room_noted}
use Rattle.ecp_sequencer.specs.Notes.{note}
use Rattle.ecp_sequencer.specs.Passes.{PassState}
use Rattle.ecp_sequencer.specs.Sequencers.{SequencerState}
use Rattle.ecp_sequencer.specs.Steps.{Event}
use Rattle.ecp_coord.specs.declared.replanned.Replanned.TheVariants as re
use Rattle.ecp_coord.specs.Calls.{EndsAny, EndsBy}
use Rattle.ecp_coord.specs.Plans.{block_of, found_by_moving, is_recoverable}
use Rattle.ecp_coord.proofs.PlanningLaws.{event_after}

-- ---- what is found where a plan does not stand

module _ {N : Type 0} (shape : Shape) (t : PlainTable) (plan : Plan N) where
  -- the block cannot be had
  pub not_had : (live : ℕ) → is_recoverable shape t (block_of plan) ≡ false → live ≡ live_rows t plan.stripe → re.Unrecoverable live ≡ found_by_moving shape t plan
  not_had live off is =
      ap (λ (n : ℕ). re.Unrecoverable n) is
      ∙ ap (λ (had : Bool). cond (not had) (re.Unrecoverable (live_rows t plan.stripe)) (cond (plan.voids.len + 1 == MAX_ATTEMPTS) re.Unsteady re.Planned)) (sym off)

  -- it can, and this was the last attempt
  pub had_last : (kept : ℕ) → is_recoverable shape t (block_of plan) ≡ true → kept ≡ plan.voids.len → kept + 1 ≡ MAX_ATTEMPTS → re.Unsteady ≡ found_by_moving shape t plan
  had_last kept on is full =
      let last : plan.voids.len + 1 == MAX_ATTEMPTS ≡ true = eq-eqb (plan.voids.len + 1) MAX_ATTEMPTS (ap (λ (n : ℕ). n + 1) (sym is) ∙ full) in
      ap (λ (b : Bool). cond b re.Unsteady re.Planned) (sym last)
      ∙ ap (λ (had : Bool). cond (not had) (re.Unrecoverable (live_rows t plan.stripe)) (cond (plan.voids.len + 1 == MAX_ATTEMPTS) re.Unsteady re.Planned)) (sym on)

  -- it can, and there are attempts left
  pub had_more : (kept : ℕ) → is_recoverable shape t (block_of plan) ≡ true → kept ≡ plan.voids.len → (kept + 1 ≡ MAX_ATTEMPTS → ⊥) → re.Planned ≡ found_by_moving shape t plan
  had_more kept on is left =
      let more : plan.voids.len + 1 == MAX_ATTEMPTS ≡ false = ne_eqb (plan.voids.len + 1) MAX_ATTEMPTS (λ full. left (ap (λ (n : ℕ). n + 1) is ∙ full)) in
      ap (λ (b : Bool). cond b re.Unsteady re.Planned) (sym more)
      ∙ ap (λ (had : Bool). cond (not had) (re.Unrecoverable (live_rows t plan.stripe)) (cond (plan.voids.len + 1 == MAX_ATTEMPTS) re.Unsteady re.Planned)) (sym on)

-- ---- as it was before the meeting

module _ (shape : Shape) (told : Bool) (s x t : SequencerState) (v q w : PassState) (same_x : x ≡ s) where
  -- a note
  pub noted_met : (what : List ℕ) → q ≡ v → Event shape told x q [] (note (length x.history) (room_noted q.notes - 1) what ∷ []) t w
      → Event shape told s v [] (note (length s.history) (room_noted v.notes - 1) what ∷ []) t w
  noted_met what same_q event =
      subst (λ (y : SequencerState). Event shape told y v [] (note (length y.history) (room_noted v.notes - 1) what ∷ []) t w) same_x
      (subst (λ (r : PassState). Event shape told x r [] (note (length x.history) (room_noted r.notes - 1) what ∷ []) t w) same_q event)

  -- a note behind the renewal of the front
  pub noted_after : (what : List ℕ) (r : PassState) → q ≡ r → r ≡ record v { front = s.history } → Event shape told s v [] [] x r
      → Event shape told x q [] (note (length x.history) (room_noted q.notes - 1) what ∷ []) t w → Event shape told s v [] (note (length s.history) (room_noted v.notes - 1) what ∷ []) t w
  noted_after what r same_q renewed before event =
      event_after shape told s x t v q w (note (length s.history) (room_noted v.notes - 1) what ∷ []) same_x (same_q ∙ renewed)
      (subst (λ (y : PassState). Event shape told s v [] [] x y) (sym same_q) before)
      (subst (λ (y : SequencerState). Event shape told x q [] (note (length y.history) (room_noted v.notes - 1) what ∷ []) t w) same_x
      (subst (λ (notes : Log). Event shape told x q [] (note (length x.history) (room_noted notes - 1) what ∷ []) t w) (ap (λ (y : PassState). y.notes) (same_q ∙ renewed)) event))

  -- a part of the open call, at its own position
  pub ends_met : (at : Part) (point : ℕ) (act : Act) → q ≡ v → point ≡ length x.history → EndsBy shape told x q at point act [] t w → EndsAny shape told s v at act t w
  ends_met at point act same_q here by =
      subst (λ (n : ℕ). EndsBy shape told s v at n act [] t w) (here ∙ ap (λ (y : SequencerState). length y.history) same_x)
      (subst (λ (y : SequencerState). EndsBy shape told y v at point act [] t w) same_x (subst (λ (r : PassState). EndsBy shape told x r at point act [] t w) same_q by))
