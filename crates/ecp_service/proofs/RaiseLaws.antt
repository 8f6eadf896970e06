-- The passes of callers are raised one after another.
use Rattle.std.proofs.Common.{◌≡◌, ◌≢◌, ℕ, ◌+◌, ◌<◌, ◌≤◌, List, length, set, get_or, inl, inr, refl, sym, ◌∙◌, ap, subst, arith, le_trans, length-set, get_or-set_same, get_or-set_other}
use mathlib.Core.List.{IsPrefix}
use Rattle.std.proofs.lemmas.Bool.{cases_eq}
use Rattle.std.proofs.lemmas.List.{get_or_default}
use Rattle.ecp_book.specs.Logs.{Log}
use Rattle.ecp_book.proofs.Prefixes.{prefix_length}
use Rattle.ecp_sequencer.specs.Passes.{PassState}
use Rattle.ecp_service.specs.Callers.{AreRaised, IsRaisedTo, RaisedBy}
use Rattle.ecp_service.specs.Served.{Grown}
use Rattle.ecp_service.specs.declared.serving.caller.Caller.{Caller}
use Rattle.ecp_service.proofs.ServedLaws.{grown_trans}

-- the callers before a place were raised, and the others are as they were
pub record RaisedSo {N : Type 0} (front : Log) (old : List (Caller N)) (place : ℕ) (now : List (Caller N)) (last : Log) : Type 0 where
  pub each : length now ≡ length old
  pub longest : length front ≤ length last
  pub within : (c : ℕ) (d : Caller N) → c < place → length (get_or old c d).pass.front ≤ length last
  pub raised : (c : ℕ) (d : Caller N) → c < place → IsRaisedTo (length front) (get_or old c d) (get_or now c d)
  pub left : (c : ℕ) (d : Caller N) → place ≤ c → get_or now c d ≡ get_or old c d

-- a pass with another front that is longer has grown
pub grown_by : (v w : PassState) (front : Log) → w ≡ record v { front = front } → IsPrefix v.front w.front → Grown v w
grown_by v w front is longer = record {
  same = is ∙ ap (λ (xs : Log). record v { front = xs }) (sym (ap (λ (p : PassState). p.front) is));
  longer = longer;
}

module _ {N : Type 0} where
  pub raised_none : (front : Log) (old : List (Caller N)) → RaisedSo front old 0 old front
  raised_none front old = record {
    each = refl;
    longest = omega arith;
    within = λ c d before. absurd (omega (arith, before));
    raised = λ c d before. absurd (omega (arith, before));
    left = λ c d behind. refl;
  }

  pub raised_all : (front : Log) (old now : List (Caller N)) (last : Log) → RaisedSo front old (length old) now last → RaisedBy front old now last
  raised_all front old now last so = record { each = so.each; longest = so.longest; within = so.within; raised = so.raised }

  module _ (front : Log) (old : List (Caller N)) (place : ℕ) (now : List (Caller N)) (last next : Log) (w e : Caller N) (so : RaisedSo front old place now last) (inside : place < length old)
      (rest : w ≡ record (get_or now place e) { pass = w.pass }) (grown : Grown (get_or now place e).pass w.pass) (reaches : IsPrefix last w.pass.front) (is : next ≡ w.pass.front) where
    more : length last ≤ length next
    more = subst (λ (xs : Log). length last ≤ length xs) (sym is) (prefix_length last w.pass.front reaches)

    first : get_or now place e ≡ get_or old place e
    first = so.left place e (omega arith)

    here : (d : Caller N) → get_or (set now place w) place d ≡ w
    here d = get_or-set_same now place w d (omega (arith, inside, so.each))

    there : (c : ℕ) (d : Caller N) → c ≢ place → get_or (set now place w) c d ≡ get_or now c d
    there c d differs = get_or-set_other now place c w d differs

    -- the caller at a place is the same, whatever is read where there is none
    at_place : (d : Caller N) → get_or old place d ≡ get_or old place e
    at_place d = get_or_default old place d e inside

    this_raised : (d : Caller N) → IsRaisedTo (length front) (get_or old place d) (get_or (set now place w) place d)
    this_raised d =
        let from_now : IsRaisedTo (length front) (get_or now place e) w = record {
          same = rest;
          grown = grown;
          reaches = le_trans so.longest (prefix_length last w.pass.front reaches);
        } in
        subst (λ (x : Caller N). IsRaisedTo (length front) (get_or old place d) x) (sym (here d))
        (subst (λ (x : Caller N). IsRaisedTo (length front) x w) (first ∙ sym (at_place d)) from_now)

    this_within : (d : Caller N) → length (get_or old place d).pass.front ≤ length next
    this_within d =
        subst (λ (xs : Log). length (get_or old place d).pass.front ≤ length xs) (sym is)
        (subst (λ (x : Caller N). length x.pass.front ≤ length w.pass.front) (first ∙ sym (at_place d)) (prefix_length (get_or now place e).pass.front w.pass.front grown.longer))

    pub raised_step : RaisedSo front old (place + 1) (set now place w) next
    raised_step = record {
      each = length-set now place w ∙ so.each;
      longest = le_trans so.longest more;
      within = λ c d before. elim (cases_eq c place) [
        | inl same ↦ subst (λ (k : ℕ). length (get_or old k d).pass.front ≤ length next) (sym same) (this_within d)
        | inr differs ↦ le_trans (so.within c d (omega (arith, before, differs))) more
      ];
      raised = λ c d before. elim (cases_eq c place) [
        | inl same ↦ subst (λ (k : ℕ). IsRaisedTo (length front) (get_or old k d) (get_or (set now place w) k d)) (sym same) (this_raised d)
        | inr differs ↦
            subst (λ (x : Caller N). IsRaisedTo (length front) (get_or old c d) x) (sym (there c d differs)) (so.raised c d (omega (arith, before, differs)))
      ];
      left = λ c d behind. there c d (λ same. omega (arith, behind, same)) ∙ so.left c d (omega (arith, behind));
    }

  -- raised in two rounds, all are as long as any of them was
  pub raised_twice : (front middle last : Log) (old mid new : List (Caller N)) → RaisedBy front old mid middle → RaisedBy middle mid new last → AreRaised old new
  raised_twice front middle last old mid new one two = record {
    top = length middle;
    each = two.each ∙ one.each;
    within = one.within;
    raised = λ c d inside.
        let first : IsRaisedTo (length front) (get_or old c d) (get_or mid c d) = one.raised c d inside in
        let second : IsRaisedTo (length middle) (get_or mid c d) (get_or new c d) = two.raised c d (omega (arith, inside, one.each)) in
        record {
          same = second.same ∙ ap (λ (x : Caller N). record x { pass = (get_or new c d).pass }) first.same;
          grown = grown_trans (get_or old c d).pass (get_or mid c d).pass (get_or new c d).pass first.grown second.grown;
          reaches = second.reaches;
        };
  }
