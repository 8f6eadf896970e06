-- Each kind of step keeps the rule of a cancel word, and tells what it says.
use Rattle.std.proofs.Common.{◌≡◌, ◌≢◌, ⊎_elim, inl, inr, ℕ, zero, suc, eqb, eq-eqb, ne_eqb, ◌≤◌, true, false, true≢false, List, [], ◌∷◌, ◌++◌, set, refl, sym, ap, ◌∙◌, subst, arith}
use Rattle.std.specs.Prelude.{slice_index}
use mathlib.Core.Option.{some, some-injective, some-ne-none}
use mathlib.Core.Logic.{dite}
use native.Mathlib.Decide.{ℕ_discrete}
use prog.Atomic.{either}
use lib.ListN.{get_elem?}
use Rattle.atomic_table.specs.Table.{State, Me, keeps, Allows, Splits}
use Rattle.atomic_table.proofs.Lists.{at_set, at_snoc, at_longer, set_else, set_again}
use Rattle.ecp_slice.specs.declared.cancel.view.View.{View}
use Rattle.ecp_slice.specs.declared.reasons.TheConstants.{HELPER_LOST, CALL_ENDED}
use Rattle.ecp_slice.specs.Cancels.{Finds}
use Rattle.ecp_slice.specs.CancelWords.{Fits, IsWriter, IsSetOnce, view_of, loaded, exchanged}

-- what stands at the place that was set
set_there : (l : List View) (i : ℕ) (a b : View) → get_elem? l i ≡ some b → get_elem? (set l i a) i ≡ some a
set_there [] i a b e = absurd (some-ne-none b (sym e))
set_there (x ∷ xs) zero a b e = refl
set_there (x ∷ xs) (suc i) a b e = set_there xs i a b e

-- one seat has another view
fits_set : (word writer : ℕ) (views : List View) (seat : ℕ) (w : View) → ((j : ℕ) (u : View) → get_elem? views j ≡ some u → Fits word writer j u) → Fits word writer seat w
    → (j : ℕ) (u : View) → get_elem? (set views seat w) j ≡ some u → Fits word writer j u
fits_set word writer views seat w others mine j u e =
    ⊎_elim
    (λ (x : (j ≡ seat) × (w ≡ u)). subst (λ (y : ℕ × View). Fits word writer y.0 y.1) (λ i. (sym x.0 i, x.1 i)) mine)
    (λ (x : (j ≢ seat) × (get_elem? views j ≡ some u)). others j u x.1)
    (at_set views seat j w u e)

-- the writer stays where a seat's new view says of its writing what the old one said
writer_set : (views : List View) (writer seat : ℕ) (v w : View) → get_elem? views seat ≡ some v → w.wrote ≡ v.wrote → IsWriter views writer → IsWriter (set views seat w) writer
writer_set views writer seat v w at same h =
    dite (ℕ_discrete writer seat)
    (λ (is : writer ≡ seat).
    let v_is : v ≡ h.0 = some-injective v h.0 (sym at ∙ (ap (λ k. get_elem? views k) (sym is) ∙ h.1)) in
    (w, subst (λ (k : ℕ). get_elem? (set views seat w) k ≡ some w) (sym is) (set_there views seat w v at), same ∙ (ap (λ (u : View). u.wrote) v_is ∙ h.2)))
    (λ (ne : writer ≢ seat). (h.0, set_else views seat writer w ne ∙ h.1, h.2))

-- what a seat may find
finds : (word writer seat : ℕ) (v : View) → word ≤ CALL_ENDED → Fits word writer seat v → Finds v.known word
finds word writer seat v most fits = record {
  in_range = most;
  for_good = λ some. elim fits.knows [
    | inl none ↦ absurd (omega arith)
    | inr is ↦ sym is
  ];
}

-- a load: the word stays, and the seat knows it
after_load : (words : List ℕ) (views : List View) (seat : ℕ) (v : View) → get_elem? views seat ≡ some v → (kept : IsSetOnce words views)
    → IsSetOnce (kept.word ∷ []) (set views seat (loaded v kept.word))
after_load words views seat v at kept = record {
  word = kept.word;
  writer = kept.writer;
  one = refl;
  in_range = kept.in_range;
  written = λ h. writer_set views kept.writer seat v (loaded v kept.word) at refl (kept.written h);
  fits = fits_set kept.word kept.writer views seat (loaded v kept.word) kept.fits record { knows = inr refl; wrote = (kept.fits seat v at).wrote };
}

-- where the word is 0, no seat knows more, and none wrote
silent : (word writer other reason seat : ℕ) (v : View) → word ≡ 0 → Fits word writer seat v → Fits reason other seat v
silent word writer other reason seat v is fits = record {
  knows = inl (⊎_elim (λ (none : v.known ≡ 0). none) (λ (same : v.known ≡ word). same ∙ is) fits.knows);
  wrote = λ t. let some = (fits.wrote t).1 in absurd (omega arith);
}

-- an exchange of 0 for the reason: either the word was 0, and the seat is the writer, or it is as with a load
after_exchange : (words : List ℕ) (views : List View) (seat reason : ℕ) (v : View) → HELPER_LOST ≤ reason → reason ≤ CALL_ENDED → get_elem? views seat ≡ some v → (kept : IsSetOnce words views)
    → IsSetOnce (either (eqb kept.word 0) reason kept.word ∷ []) (set views seat (exchanged v reason kept.word))
after_exchange words views seat reason v least most at kept =
    dite (ℕ_discrete kept.word 0)
    (λ (is : kept.word ≡ 0).
    let w : View = view_of reason true (v.looks ++ kept.word ∷ []) in
    rw (eq-eqb kept.word 0 is) record {
      word = reason;
      writer = seat;
      one = refl;
      in_range = most;
      written = λ _. (w, set_there views seat w v at, refl);
      fits = fits_set reason seat views seat w (λ j u e. silent kept.word kept.writer seat reason j u is (kept.fits j u e)) record { knows = inr refl; wrote = λ _. (refl, least) };
    })
    (λ (ne : kept.word ≢ 0). rw (ne_eqb kept.word 0 ne) (after_load words views seat v at kept))

module _ {S : Type 0} where
  abbrev Rule : State S View → Type 0
  Rule s = IsSetOnce s.words s.views

  pub loads : (slots seat : ℕ) (me : Me S View) → Allows Rule slots seat me 0 (λ n. n) (λ n w. (w ≡ (loaded me.0 n, me.1)) × Finds me.0.known n)
  loads slots seat me s kept homes at small =
      let found : ℕ = slice_index s.words 0 in
      let is : found ≡ kept.word = ap (λ ws. slice_index ws 0) kept.one in (
        loaded me.0 found,
        keeps,
        tt,
        subst (λ (ws : List ℕ). IsSetOnce (set ws 0 (slice_index ws 0)) (set s.views seat (loaded me.0 (slice_index ws 0)))) (sym kept.one) (after_load s.words s.views seat me.0 at kept),
        (refl, subst (Finds me.0.known) (sym is) (finds kept.word kept.writer seat me.0 kept.in_range (kept.fits seat me.0 at))),
      )

  pub exchanges : (slots seat reason : ℕ) (me : Me S View) → HELPER_LOST ≤ reason → reason ≤ CALL_ENDED
      → Allows Rule slots seat me 0 (λ n. either (eqb n 0) reason n) (λ n w. (w ≡ (exchanged me.0 reason n, me.1)) × Finds me.0.known n)
  exchanges slots seat reason me least most s kept homes at small =
      let found : ℕ = slice_index s.words 0 in
      let is : found ≡ kept.word = ap (λ ws. slice_index ws 0) kept.one in (
        exchanged me.0 reason found,
        keeps,
        tt,
        subst (λ (ws : List ℕ). IsSetOnce (set ws 0 (either (eqb (slice_index ws 0) 0) reason (slice_index ws 0))) (set s.views seat (exchanged me.0 reason (slice_index ws 0)))) (sym kept.one)
            (after_exchange s.words s.views seat reason me.0 least most at kept),
        (refl, subst (Finds me.0.known) (sym is) (finds kept.word kept.writer seat me.0 kept.in_range (kept.fits seat me.0 at))),
      )

  pub copies : (seat : ℕ) (v : View) → Splits Rule seat v v (view_of v.known false [])
  copies seat v s kept at =
      let mine = kept.fits seat v at in
      let new : View = view_of v.known false [] in
      subst (λ (views : List View). IsSetOnce s.words (views ++ new ∷ [])) (sym (set_again s.views seat v at)) record {
        word = kept.word;
        writer = kept.writer;
        one = kept.one;
        in_range = kept.in_range;
        written = λ h. let w = kept.written h in (w.0, at_longer s.views (new ∷ []) kept.writer w.0 w.1, w.2);
        fits = λ j u e. ⊎_elim
            (λ (was : get_elem? s.views j ≡ some u). kept.fits j u was)
            (λ (is : new ≡ u). subst (Fits kept.word kept.writer j) is record { knows = mine.knows; wrote = λ t. absurd (true≢false (sym t)) })
            (at_snoc s.views new u j e);
      }
