-- The callers of a run, phase by phase.
use Rattle.std.proofs.Common.{◌≡◌, ◌≢◌, ℕ, zero, suc, ◌+◌, ◌-◌, ◌<◌, ◌≤◌, Bool, false, cond, List, [], ◌∷◌, ◌++◌, drop, length, get_or, Option, Some, inl, inr, refl, sym, ◌∙◌, ap, subst, arith, le_trans, le_refl}
use Rattle.std.specs.Prelude.{slice_get, vec_capacity, MatchOption, All, ⊤}
use Rattle.std.proofs.Math.Dec.{leb}
use Rattle.std.proofs.lemmas.Bool.{cases_lt, le-leb, lt-leb}
use Rattle.std.proofs.lemmas.List.{length-append}
use Rattle.std.proofs.lemmas.Option.{get_or_from_slice_get, none-some, same_Some, slice_get_within}
use Rattle.ecp_book.proofs.Prefixes.{prefix_length}
use Rattle.ecp_cluster.specs.declared.answer.Answer.{Answer}
use Rattle.ecp_command.specs.declared.input.planned.Planned.{Planned}
use Rattle.ecp_sequencer.specs.Passes.{IsWhole, PassState}
use Rattle.ecp_sequencer.proofs.StepLaws.{whole_by}
use Rattle.ecp_service.specs.Callers.{AreAt, AreRaised, CanServe, IsAt, IsRaisedTo, IsReady, IsSame, ServedNext, ServedOf, ServedPhase}
use Rattle.ecp_service.specs.Servable.{AreRising, EachServable}
use Rattle.ecp_service.specs.Served.{Grown, Served}
use Rattle.ecp_service.specs.declared.serving.caller.Caller.{Caller}
use Rattle.ecp_service.proofs.ServedLaws.{grown_self, past_drop, served_by, served_grown, served_on}
use Rattle.ecp_service.proofs.served.Lists.{got}
use Rattle.ecp_shape.specs.declared.shape.Shape.{Shape}

-- calls in rising order of their phases
rising_first : (phase : ℕ) (calls : List Planned) (j : ℕ) (p : Planned) → AreRising phase calls → slice_get calls j ≡ Some p → phase ≤ p.phase
rising_first phase [] j p rising there = absurd (none-some p there)
rising_first phase (q ∷ calls) zero p rising there = subst (λ (x : Planned). phase ≤ x.phase) (same_Some q p there) rising.0
rising_first phase (q ∷ calls) (suc j) p rising there = le_trans rising.0 (rising_first q.phase calls j p rising.1 there)

rising_at : (phase : ℕ) (calls : List Planned) (i j : ℕ) (p q : Planned) → AreRising phase calls → i ≤ j → slice_get calls i ≡ Some p → slice_get calls j ≡ Some q → p.phase ≤ q.phase
rising_at phase [] i j p q rising le here there = absurd (none-some p here)
rising_at phase (x ∷ calls) zero zero p q rising le here there =
    subst (λ (y : Planned). p.phase ≤ y.phase) (same_Some p q (sym here ∙ there)) (le_refl p.phase)
rising_at phase (x ∷ calls) zero (suc j) p q rising le here there =
    subst (λ (y : Planned). y.phase ≤ q.phase) (same_Some x p here) (rising_first x.phase calls j q rising.1 there)
rising_at phase (x ∷ calls) (suc i) zero p q rising le here there = absurd (omega (arith, le))
rising_at phase (x ∷ calls) (suc i) (suc j) p q rising le here there = rising_at x.phase calls i j p q rising.1 (omega (arith, le)) here there

-- calls of a phase are of it
of_phase : (shape : Shape) (told : Bool) (phase : ℕ) (v : PassState) (calls : List Planned) (answers : List Answer) (w : PassState) (i : ℕ) (p : Planned)
    → ServedOf shape told phase v calls answers w → slice_get calls i ≡ Some p → i < length answers → p.phase ≡ phase
of_phase shape told phase v calls [] w i p served here within = absurd (omega (arith, within))
of_phase shape told phase v [] (a ∷ answers) w i p served here within = absurd served
of_phase shape told phase v (q ∷ calls) (a ∷ answers) w zero p served here within = ap (λ (x : Planned). x.phase) (sym (same_Some q p here)) ∙ served.0
of_phase shape told phase v (q ∷ calls) (a ∷ answers) w (suc i) p served here within =
    of_phase shape told phase served.1 calls answers w i p served.3 here (omega (arith, within))

-- there are no more answers than calls
pub no_more : (shape : Shape) (told : Bool) (fences : ℕ → ℕ) (v : PassState) (calls : List Planned) (answers : List Answer) (w : PassState)
    → Served shape told fences v calls answers w → length answers ≤ length calls
no_more shape told fences v calls [] w served = omega arith
no_more shape told fences v [] (a ∷ answers) w served = absurd served
no_more shape told fences v (p ∷ calls) (a ∷ answers) w served = let rest = no_more shape told fences served.0 calls answers w served.2 in omega (arith, rest)

-- ---- how long the history was when each phase began

-- the lengths so far, and this one from the next phase on
abbrev with_fence : (ℕ → ℕ) → ℕ → ℕ → ℕ → ℕ
with_fence fences phase top i = cond (leb i phase) (fences i) top

module _ (fences : ℕ → ℕ) (phase top : ℕ) where
  so_far : (i : ℕ) → i ≤ phase → with_fence fences phase top i ≡ fences i
  so_far i le = ap (λ (b : Bool). cond b (fences i) top) (le-leb i phase le)

  from_next : (i : ℕ) → phase < i → with_fence fences phase top i ≡ top
  from_next i lt = ap (λ (b : Bool). cond b (fences i) top) (lt-leb i phase lt)

  still_rising : ((i j : ℕ) → i ≤ j → fences i ≤ fences j) → fences phase ≤ top → (i j : ℕ) → i ≤ j → with_fence fences phase top i ≤ with_fence fences phase top j
  still_rising rising below i j le = elim (cases_lt phase j) [
    | inl past ↦ elim (cases_lt phase i) [
      | inl also ↦ same_le (with_fence fences phase top i) (with_fence fences phase top j) top (from_next i also) (from_next j past)
      | inr before ↦
          up_to (with_fence fences phase top i) (with_fence fences phase top j) (fences i) (fences phase) top (so_far i before) (from_next j past) (rising i phase before) below
    ]
    | inr before ↦
        let first : i ≤ phase = omega (arith, le, before) in
        both (with_fence fences phase top i) (with_fence fences phase top j) (fences i) (fences j) (so_far i first) (so_far j before) (rising i j le)
  ] where
    same_le : (a b t : ℕ) → a ≡ t → b ≡ t → a ≤ b
    same_le a b t p q = omega (arith, p, q)

    up_to : (a b f g t : ℕ) → a ≡ f → b ≡ t → f ≤ g → g ≤ t → a ≤ b
    up_to a b f g t p q r s = omega (arith, p, q, r, s)

    both : (a b f g : ℕ) → a ≡ f → b ≡ g → f ≤ g → a ≤ b
    both a b f g p q r = omega (arith, p, q, r)

-- ---- the callers at the beginning of each phase

-- a pass whose front has grown is whole as before
grown_whole : (v w : PassState) → Grown v w → IsWhole v → IsWhole w
grown_whole v w grown is =
    whole_by v w (ap (λ (p : PassState). p.caller) grown.same) (ap (λ (p : PassState). p.hand) grown.same) (ap (λ (p : PassState). p.places) grown.same)
    (ap (λ (p : PassState). p.spare) grown.same) is

module _ {N : Type 0} (shape : Shape) (told : Bool) where
  at_first : (v : Caller N) → IsReady v → IsAt shape told (λ _. 0) 0 v v
  at_first v ready = record {
    same = record { whole = λ is. is; calls = refl; room = refl };
    begun = omega arith;
    served = λ well. subst (λ (xs : List Answer). Served shape told (λ _. 0) v.pass v.calls.items xs v.pass) (sym ready.none) (grown_self v.pass);
    done = λ well i p here within. absurd (omega (arith, within, ap (λ (xs : List Answer). length xs) ready.none));
    left = λ well i p here behind. omega arith;
  }

  pub all_first : (callers : List (Caller N)) → All IsReady callers → AreAt shape told 0 callers callers
  all_first callers ready = record {
    fences = λ _. 0;
    rising = λ i j le. le_refl 0;
    each = refl;
    at = λ c d within. at_first (get_or callers c d) (ready c d within);
  }

  module _ (fences : ℕ → ℕ) (phase top : ℕ) (v m a w : Caller N) (was : IsAt shape told fences phase v m) (served : ServedPhase shape told phase m a)
      (raised : IsRaisedTo top a w) (within : length a.pass.front ≤ top) (rising : AreRising 0 v.calls.items) where
    well_before : w.failed ≡ false → a.failed ≡ false
    well_before well = sym (ap (λ (x : Caller N). x.failed) raised.same) ∙ well

    calls_same : a.calls.items ≡ v.calls.items
    calls_same = served.same.calls ∙ was.same.calls

    answers_same : w.answers.items ≡ a.answers.items
    answers_same = ap (λ (x : Caller N). x.answers.items) raised.same

    -- the calls of this phase are behind those of the phases before
    next_of : (ok : a.failed ≡ false) → ServedNext shape told phase v.calls.items m.answers.items m.pass a.answers.items a.pass
    next_of ok = subst (λ (cs : List Planned). ServedNext shape told phase cs m.answers.items m.pass a.answers.items a.pass) was.same.calls (served.served ok)

    longer_by : (ok : a.failed ≡ false) → length a.answers.items ≡ length m.answers.items + length (next_of ok).given
    longer_by ok = ap (λ (xs : List Answer). length xs) (next_of ok).answers ∙ length-append m.answers.items (next_of ok).given

    done_now : (ok : a.failed ≡ false) (i : ℕ) (p : Planned) → slice_get v.calls.items i ≡ Some p → i < length a.answers.items → p.phase < phase + 1
    done_now ok i p here inside = elim (cases_lt i (length m.answers.items)) [
      | inl early ↦ let before : p.phase < phase = was.done (served.well ok) i p here early in omega (arith, before)
      | inr late ↦
          let next : ServedNext shape told phase v.calls.items m.answers.items m.pass a.answers.items a.pass = next_of ok in
          let k : ℕ = i - length m.answers.items in
          let its : p.phase ≡ phase =
          of_phase shape told phase m.pass (drop (length m.answers.items) v.calls.items) next.given a.pass k p next.served (past_drop v.calls.items (length m.answers.items) i late ∙ here)
          (omega (arith, inside, late, longer_by ok)) in
          omega (arith, its)
    ]

    left_now : (ok : a.failed ≡ false) (i : ℕ) (p : Planned) → slice_get v.calls.items i ≡ Some p → length a.answers.items ≤ i → phase + 1 ≤ p.phase
    left_now ok i p here behind =
        let n : ℕ = length a.answers.items in
        let first : (q : Planned) × (slice_get v.calls.items n ≡ Some q) = got v.calls.items n (let lies : i < length v.calls.items = slice_get_within v.calls.items i p here in omega (arith, lies, behind)) in
        let at_least : phase ≤ first.0.phase = was.left (served.well ok) n first.0 first.1 (omega (arith, longer_by ok)) in
        let other : first.0.phase ≢ phase = subst (λ (o : Option Planned). MatchOption o ⊤ (λ q. q.phase ≢ phase)) first.1 (next_of ok).past in
        let further : first.0.phase ≤ p.phase = rising_at 0 v.calls.items n i first.0 p rising behind first.1 here in
        omega (arith, at_least, other, further)

    served_now : (ok : a.failed ≡ false) → Served shape told (with_fence fences phase top) v.pass v.calls.items a.answers.items w.pass
    served_now ok =
        let later : ℕ → ℕ = with_fence fences phase top in
        let next : ServedNext shape told phase v.calls.items m.answers.items m.pass a.answers.items a.pass = next_of ok in
        let before : Served shape told later v.pass v.calls.items m.answers.items m.pass =
        served_by shape told fences later phase v.pass v.calls.items m.answers.items m.pass (λ i le. sym (so_far fences phase top i le)) (was.done (served.well ok)) (was.served (served.well ok)) in
        let both : Served shape told later v.pass v.calls.items (m.answers.items ++ next.given) a.pass =
        served_on shape told later phase v.pass v.calls.items m.answers.items next.given m.pass a.pass before
        (subst (λ (n : ℕ). n ≤ length m.pass.front) (sym (so_far fences phase top phase (le_refl phase))) was.begun)
        (subst (λ (n : ℕ). length a.pass.front ≤ n) (sym (from_next fences phase top (phase + 1) (omega arith))) within) next.served in
        served_grown shape told later v.pass v.calls.items a.answers.items a.pass w.pass
        (subst (λ (xs : List Answer). Served shape told later v.pass v.calls.items xs a.pass) (sym next.answers) both) raised.grown

    at_next : IsAt shape told (with_fence fences phase top) (phase + 1) v w
    at_next = record {
      same = record {
        whole = λ is. grown_whole a.pass w.pass raised.grown (served.same.whole (was.same.whole is));
        calls = ap (λ (x : Caller N). x.calls.items) raised.same ∙ calls_same;
        room = ap (λ (x : Caller N). vec_capacity x.answers) raised.same ∙ served.same.room ∙ was.same.room;
      };
      begun = subst (λ (n : ℕ). n ≤ length w.pass.front) (sym (from_next fences phase top (phase + 1) (omega arith))) raised.reaches;
      served = λ well. subst (λ (xs : List Answer). Served shape told (with_fence fences phase top) v.pass v.calls.items xs w.pass) (sym answers_same) (served_now (well_before well));
      done = λ well i p here inside. done_now (well_before well) i p here (subst (λ (xs : List Answer). i < length xs) answers_same inside);
      left = λ well i p here behind. left_now (well_before well) i p here (subst (λ (xs : List Answer). length xs ≤ i) answers_same behind);
    }

  pub all_next : (phase : ℕ) (old mid after new : List (Caller N)) → All IsReady old → 1 ≤ length old → AreAt shape told phase old mid → length after ≡ length mid
      → ((c : ℕ) (d : Caller N) → c < length mid → ServedPhase shape told phase (get_or mid c d) (get_or after c d)) → AreRaised after new → AreAt shape told (phase + 1) old new
  all_next phase old mid after new ready some was long served raised = record {
    fences = with_fence was.fences phase raised.top;
    rising = still_rising was.fences phase raised.top was.rising (reached old mid after new some was long served raised);
    each = raised.each ∙ long ∙ was.each;
    at = λ c d inside.
        let in_mid : c < length mid = omega (arith, inside, was.each) in
        let in_after : c < length after = omega (arith, in_mid, long) in
        at_next was.fences phase raised.top (get_or old c d) (get_or mid c d) (get_or after c d) (get_or new c d) (was.at c d inside) (served c d in_mid) (raised.raised c d in_after)
        (raised.within c d in_after) (ready c d inside).rising;
  }
    where
      reached : (old mid after new : List (Caller N)) → 1 ≤ length old → (was : AreAt shape told phase old mid) → length after ≡ length mid
          → ((c : ℕ) (d : Caller N) → c < length mid → ServedPhase shape told phase (get_or mid c d) (get_or after c d)) → (raised : AreRaised after new) → was.fences phase ≤ raised.top
      reached [] mid after new some was long served raised = absurd (omega (arith, some))
      reached (d ∷ old) mid after new some was long served raised =
          let in_mid : 0 < length mid = omega (arith, was.each) in
          let in_after : 0 < length after = omega (arith, in_mid, long) in
          let begun : was.fences phase ≤ length (get_or mid 0 d).pass.front = (was.at 0 d (omega arith)).begun in
          let grows : length (get_or mid 0 d).pass.front ≤ length (get_or after 0 d).pass.front =
          prefix_length (get_or mid 0 d).pass.front (get_or after 0 d).pass.front (served 0 d in_mid).grows in
          le_trans begun (le_trans grows (raised.within 0 d in_after))

  -- the callers can go on at the beginning of each phase
  pub still_can : (phase : ℕ) (old new : List (Caller N)) → All IsReady old → AreAt shape told phase old new → All CanServe new
  still_can phase old new ready at = λ c d within.
      let in_old : c < length old = omega (arith, within, at.each) in
      let same : IsSame (get_or old c d) (get_or new c d) = (at.at c d in_old).same in
      let was : CanServe (get_or old c d) = (ready c d in_old).can in
      record {
        whole = same.whole was.whole;
        room = subst (λ (n : ℕ). length (get_or new c d).calls.items ≤ n) (sym same.room) (subst (λ (ps : List Planned). length ps ≤ vec_capacity (get_or old c d).answers) (sym same.calls) was.room);
        servable = subst EachServable (sym same.calls) was.servable;
      }

  -- where no call is of a later phase, all were answered
  pub all_answered : (fences : ℕ → ℕ) (phases : ℕ) (v w : Caller N) → IsAt shape told fences phases v w → w.failed ≡ false → All (λ p. p.phase < phases) v.calls.items
      → length w.answers.items ≡ length v.calls.items
  all_answered fences phases v w at well within =
      let most : length w.answers.items ≤ length v.calls.items = no_more shape told fences v.pass v.calls.items w.answers.items w.pass (at.served well) in
      elim (cases_lt (length w.answers.items) (length v.calls.items)) [
        | inl fewer ↦
            let first : (q : Planned) × (slice_get v.calls.items (length w.answers.items) ≡ Some q) = got v.calls.items (length w.answers.items) fewer in
            let late : phases ≤ first.0.phase = at.left well (length w.answers.items) first.0 first.1 (le_refl (length w.answers.items)) in
            let early : first.0.phase < phases = within_at v.calls.items phases (length w.answers.items) first.0 within first.1 in
            absurd (omega (arith, late, early))
        | inr all ↦ omega (arith, most, all)
      ]
    where
      within_at : (calls : List Planned) (phases i : ℕ) (p : Planned) → All (λ q. q.phase < phases) calls → slice_get calls i ≡ Some p → p.phase < phases
      within_at calls phases i p all here =
          subst (λ (x : Planned). x.phase < phases) (get_or_from_slice_get calls i p p here) (all i p (slice_get_within calls i p here))
