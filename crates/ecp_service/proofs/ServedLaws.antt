-- Calls that are served one after another.
use Rattle.std.proofs.Common.{◌≡◌, ◌≢◌, ℕ, zero, suc, ◌+◌, ◌-◌, ◌<◌, ◌≤◌, nat_lt, Bool, true, false, List, [], ◌∷◌, ◌++◌, drop, length, get_or, Option, Some, None, refl, sym, ◌∙◌, ap, subst, arith, le_trans}
use Rattle.std.specs.Prelude.{slice_get, unwrap_or, MatchOption, ⊤}
use mathlib.Core.List.{IsPrefix}
use Rattle.std.proofs.lemmas.List.{length-append}
use Rattle.std.proofs.lemmas.Bool.{ltb-false, ltb-true}
use Rattle.std.proofs.lemmas.Option.{none-some, same_Some, slice_get_past, slice_get_read}
use Rattle.ecp_book.proofs.Prefixes.{prefix_length, prefix_self, prefix_trans}
use Rattle.ecp_cluster.specs.declared.answer.Answer.{Answer}
use Rattle.ecp_command.specs.declared.input.planned.Planned.{Planned}
use Rattle.ecp_sequencer.specs.Passes.{PassState}
use Rattle.ecp_service.specs.Callers.{IsPast, ServedOf}
use Rattle.ecp_service.specs.Servable.{EachServable, IsServable}
use Rattle.ecp_service.specs.Served.{AnsweredCall, Grown, Served, ServedOne}
use Rattle.ecp_shape.specs.declared.shape.Shape.{Shape}

-- each of calls that are served
pub servable_at : (calls : List Planned) (i : ℕ) (p : Planned) → EachServable calls → slice_get calls i ≡ Some p → IsServable p.call
servable_at [] i p each here = cc
servable_at (q ∷ calls) zero p each here = subst (λ (x : Planned). IsServable x.call) (ap (λ (o : Option Planned). unwrap_or o q) here) each.0
servable_at (q ∷ calls) (suc i) p each here = servable_at calls i p each.1 here

-- ---- the next call behind those that were served

-- what stands behind the first of some calls
pub past_drop : (calls : List Planned) (n i : ℕ) → n ≤ i → slice_get (drop n calls) (i - n) ≡ slice_get calls i
past_drop calls zero i le = ap (λ (k : ℕ). slice_get calls k) (none_less i) where
  none_less : (n : ℕ) → n - 0 ≡ n
  none_less n = omega arith
past_drop [] (suc n) i le = refl
past_drop (p ∷ calls) (suc n) zero le = absurd (omega (arith, le))
past_drop (p ∷ calls) (suc n) (suc i) le = ap (λ (k : ℕ). slice_get (drop n calls) k) (one_less i n) ∙ past_drop calls n i (omega (arith, le)) where
  one_less : (a b : ℕ) → suc a - suc b ≡ a - b
  one_less a b = omega arith

-- the call that is looked up, and none where there is none
pub next_call : (calls : List Planned) (n len : ℕ) (p : Planned) → len ≡ n → true ≡ nat_lt len (length calls) → p ≡ get_or calls len p → slice_get calls n ≡ Some p
next_call calls n len p is within read =
    ap (λ (k : ℕ). slice_get calls k) (sym is) ∙ slice_get_read calls (length calls) len p refl (ltb-true len (length calls) (sym within)) read

pub no_call : (calls : List Planned) (n len : ℕ) → len ≡ n → false ≡ nat_lt len (length calls) → slice_get calls n ≡ None
no_call calls n len is off = ap (λ (k : ℕ). slice_get calls k) (sym is) ∙ slice_get_past calls len (ltb-false len (length calls) (sym off))

-- the calls of a phase are over where the next one is of another, and where there is none
pub past_other : (phase : ℕ) (calls : List Planned) (n : ℕ) (p : Planned) → slice_get calls n ≡ Some p → p.phase ≢ phase → IsPast phase calls n
past_other phase calls n p here differs = subst (λ (o : Option Planned). MatchOption o ⊤ (λ q. q.phase ≢ phase)) (sym here) differs

pub past_none : (phase : ℕ) (calls : List Planned) (n : ℕ) → slice_get calls n ≡ None → IsPast phase calls n
past_none phase calls n none = subst (λ (o : Option Planned). MatchOption o ⊤ (λ q. q.phase ≢ phase)) (sym none) tt

-- ---- passes that have grown

pub grown_self : (v : PassState) → Grown v v
grown_self v = record { same = refl; longer = prefix_self v.front }

pub grown_trans : (u v w : PassState) → Grown u v → Grown v w → Grown u w
grown_trans u v w first second = record {
  same = second.same ∙ ap (λ (p : PassState). record p { front = w.front }) first.same;
  longer = prefix_trans u.front v.front w.front first.longer second.longer;
}

-- ---- the calls of one phase

module _ (shape : Shape) (told : Bool) where
  -- one more call
  pub of_push : (phase : ℕ) (v : PassState) (calls : List Planned) (answers : List Answer) (u : PassState) (p : Planned) (a : Answer) (w : PassState)
      → ServedOf shape told phase v calls answers u → slice_get calls (length answers) ≡ Some p → p.phase ≡ phase
      → AnsweredCall shape told u p.call a w → ServedOf shape told phase v calls (answers ++ a ∷ []) w
  of_push phase v [] [] u p a w served next its one = absurd (none-some p next)
  of_push phase v (q ∷ calls) [] u p a w served next its one =
      let is : q ≡ p = same_Some q p next in
      let from : AnsweredCall shape told v p.call a w = subst (λ (x : PassState). AnsweredCall shape told x p.call a w) served one in
      (ap (λ (x : Planned). x.phase) is ∙ its, w, subst (λ (x : Planned). AnsweredCall shape told v x.call a w) (sym is) from, refl)
  of_push phase v [] (b ∷ answers) u p a w served next its one = absurd served
  of_push phase v (q ∷ calls) (b ∷ answers) u p a w served next its one =
      (served.0, served.1, served.2, of_push phase served.1 calls answers u p a w served.3 next its one)

  pub next_push : (phase : ℕ) (v : PassState) (calls : List Planned) (old given answers : List Answer) (u : PassState) (p : Planned) (a : Answer) (w : PassState)
      → answers ≡ old ++ given → ServedOf shape told phase v (drop (length old) calls) given u → slice_get calls (length answers) ≡ Some p → p.phase ≡ phase
      → AnsweredCall shape told u p.call a w → ServedOf shape told phase v (drop (length old) calls) (given ++ a ∷ []) w
  next_push phase v calls old given answers u p a w are served next its one =
      let long : length answers ≡ length old + length given = ap (λ (xs : List Answer). length xs) are ∙ length-append old given in
      let rest : slice_get (drop (length old) calls) (length answers - length old) ≡ Some p = past_drop calls (length old) (length answers) (omega (arith, long)) ∙ next in
      of_push phase v (drop (length old) calls) given u p a w served (ap (λ (k : ℕ). slice_get (drop (length old) calls) k) (less (length answers) (length old) (length given) long) ∙ rest) its one
    where
      less : (a b c : ℕ) → a ≡ b + c → c ≡ a - b
      less a b c is = omega (arith, is)

  -- the front grows
  pub of_grows : (phase : ℕ) (v : PassState) (calls : List Planned) (answers : List Answer) (w : PassState) → ServedOf shape told phase v calls answers w → IsPrefix v.front w.front
  of_grows phase v calls [] w served = subst (λ (x : PassState). IsPrefix v.front x.front) (sym served) (prefix_self v.front)
  of_grows phase v [] (a ∷ answers) w served = absurd served
  of_grows phase v (p ∷ calls) (a ∷ answers) w served =
      prefix_trans v.front served.1.front w.front served.2.called.steps.extends (of_grows phase served.1 calls answers w served.3)

  -- ---- the calls of several phases

  -- the first calls of a phase behind a pass that has grown
  from_grown : (fences : ℕ → ℕ) (phase : ℕ) (v u : PassState) (calls : List Planned) (answers : List Answer) (w : PassState) → Grown v u
      → fences phase ≤ length u.front → length w.front ≤ fences (phase + 1) → ServedOf shape told phase u calls answers w → Served shape told fences v calls answers w
  from_grown fences phase v u calls [] w grown begun ended served = subst (Grown v) (sym served) grown
  from_grown fences phase v u [] (a ∷ answers) w grown begun ended served = absurd served
  from_grown fences phase v u (p ∷ calls) (a ∷ answers) w grown begun ended served =
      let t : PassState = served.1 in
      let rest : IsPrefix t.front w.front = of_grows phase t calls answers w served.3 in
      let first : IsPrefix u.front t.front = served.2.called.steps.extends in (
        t,
        record {
          from = u;
          grown = grown;
          begun = subst (λ (k : ℕ). fences k ≤ length u.front) (sym served.0) begun;
          answered = served.2;
          ended = subst (λ (k : ℕ). length t.front ≤ fences (k + 1)) (sym served.0) (le_trans (prefix_length t.front w.front rest) ended);
        },
        from_grown fences phase t t calls answers w (grown_self t) (le_trans begun (prefix_length u.front t.front first)) ended served.3,
      )

  -- the calls of a phase behind those of the phases before it
  pub served_on : (fences : ℕ → ℕ) (phase : ℕ) (v : PassState) (calls : List Planned) (answers given : List Answer) (u w : PassState) → Served shape told fences v calls answers u
      → fences phase ≤ length u.front → length w.front ≤ fences (phase + 1) → ServedOf shape told phase u (drop (length answers) calls) given w
      → Served shape told fences v calls (answers ++ given) w
  served_on fences phase v calls [] given u w served begun ended more = from_grown fences phase v u calls given w served begun ended more
  served_on fences phase v [] (a ∷ answers) given u w served begun ended more = absurd served
  served_on fences phase v (p ∷ calls) (a ∷ answers) given u w served begun ended more =
      (served.0, served.1, served_on fences phase served.0 calls answers given u w served.2 begun ended more)

  -- a pass may grow behind the last call
  pub served_grown : (fences : ℕ → ℕ) (v : PassState) (calls : List Planned) (answers : List Answer) (u w : PassState) → Served shape told fences v calls answers u → Grown u w
      → Served shape told fences v calls answers w
  served_grown fences v calls [] u w served grown = grown_trans v u w served grown
  served_grown fences v [] (a ∷ answers) u w served grown = absurd served
  served_grown fences v (p ∷ calls) (a ∷ answers) u w served grown = (served.0, served.1, served_grown fences served.0 calls answers u w served.2 grown)

  -- how long the history was is only asked of the phases of the calls
  pub served_by : (fences others : ℕ → ℕ) (phase : ℕ) (v : PassState) (calls : List Planned) (answers : List Answer) (w : PassState)
      → ((i : ℕ) → i ≤ phase → fences i ≡ others i)
      → ((i : ℕ) (p : Planned) → slice_get calls i ≡ Some p → i < length answers → p.phase < phase)
      → Served shape told fences v calls answers w → Served shape told others v calls answers w
  served_by fences others phase v calls [] w same done served = served
  served_by fences others phase v [] (a ∷ answers) w same done served = absurd served
  served_by fences others phase v (p ∷ calls) (a ∷ answers) w same done served =
      let one : ServedOne shape told fences v p a served.0 = served.1 in
      let before : p.phase < phase = done zero p refl (omega arith) in (
        served.0,
        record {
          from = one.from;
          grown = one.grown;
          begun = subst (λ (k : ℕ). k ≤ length one.from.front) (same p.phase (omega (arith, before))) one.begun;
          answered = one.answered;
          ended = subst (λ (k : ℕ). length served.0.front ≤ k) (same (p.phase + 1) (omega (arith, before))) one.ended;
        },
        served_by fences others phase served.0 calls answers w same (λ i q there less. done (suc i) q there (omega (arith, less))) served.2,
      )
