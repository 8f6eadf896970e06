-- The senders of a link stay its senders, for the calls of a taker and for the layers above.
use Rattle.std.proofs.Common.{◌≡◌, ◌≢◌, ◌⊎◌, ⊎_elim, inl, inr, ℕ, ◌<◌, ◌≤◌, List, length, set, refl, sym, ap, ◌∙◌, arith, lt_of_not-le}
use Rattle.std.specs.Prelude.{Some, slice_get}
use Rattle.std.proofs.lemmas.Option.{slice_get_within}
use mathlib.Core.Logic.{dite}
use native.Mathlib.Decide.{ℕ_discrete, dec_le}
use Rattle.ecp_link.specs.Links.{Sending, Taking, Takings, Goes, FindsFull, IsRefused, IsSame, IsBefore, Takes, FindsNothing, IsOf, KeepsSenders, Ends, with_end, IsNew}
use Rattle.ecp_link.specs.declared.limits.TheConstants.{MOST_PUSHES}
use Rattle.ecp_link.proofs.Turns.{there}
use Rattle.ecp_link.proofs.Asked.{get_set_here, get_set_else}

-- of two senders one is asked before the other
asked_first : (next p q : ℕ) → p ≢ q → IsBefore next p q ⊎ IsBefore next q p
asked_first next p q ne = go (dec_le next p) (dec_le next q) (dec_le p q)
  where
    go : Dec (next ≤ p) → Dec (next ≤ q) → Dec (p ≤ q) → IsBefore next p q ⊎ IsBefore next q p
    go (yes np) (yes nq) (yes pq) = inl (inr (omega arith, inr np))
    go (yes np) (yes nq) (no pq) = let lt : q < p = lt_of_not-le pq in inr (inr (lt, inr nq))
    go (yes np) (no nq) d = inl (inl (np, lt_of_not-le nq))
    go (no np) (yes nq) d = inr (inl (nq, lt_of_not-le np))
    go (no np) (no nq) (yes pq) = inl (inr (omega arith, inl (lt_of_not-le nq)))
    go (no np) (no nq) (no pq) = let lt : q < p = lt_of_not-le pq in inr (inr (lt, inl (lt_of_not-le np)))

module _ {T : Type 0} where
  -- the same sender is of the same link
  pub is_of_same : (t : Takings T) (s u : Sending T) → IsOf t s → IsSame s u → IsOf t u
  is_of_same t s u h same = record {
    end = h.end;
    there = ap (λ n. slice_get t.each n) same.number ∙ h.there;
    same = same.place ∙ h.same;
  }

  -- each place stays
  keeps : (old new : Takings T) → ((p : ℕ) (a : Taking T) → slice_get old.each p ≡ Some a → (b : Taking T) × (slice_get new.each p ≡ Some b) × (b.place ≡ a.place)) → KeepsSenders old new
  keeps old new each s h =
      let b = each s.number h.end h.there in record {
        end = b.0;
        there = b.1;
        same = h.same ∙ sym b.2;
      }

  pub takes_keeps : (old new : Takings T) (x : T) → Takes old new x → KeepsSenders old new
  takes_keeps old new x h = keeps old new (λ p a e.
      let t = h.taken in
      let lt : p < length new.each = let l = slice_get_within old.each p a e in omega (arith, t.count) in
      let now = there new.each p lt in
      dite (ℕ_discrete p h.from)
      (λ (is : p ≡ h.from).
      let was : Some t.was ≡ Some a = sym t.before ∙ (ap (λ k. slice_get old.each k) (sym is) ∙ e) in
      let was_is : t.was ≡ a = cc in
      (t.now, ap (λ k. slice_get new.each k) is ∙ t.after, ap (λ y. y.place) t.one.is ∙ ap (λ y. y.place) was_is))
      (λ (ne : p ≢ h.from). ⊎_elim
      (λ turn. (now.0, now.1, ap (λ y. y.place) (t.asked p a now.0 turn e now.1).is))
      (λ turn. (a, t.others p turn ∙ e, refl))
      (asked_first old.next p h.from ne)))

  pub none_keeps : (old new : Takings T) → FindsNothing old new → KeepsSenders old new
  none_keeps old new h = keeps old new (λ p a e.
      let lt : p < length new.each = let l = slice_get_within old.each p a e in omega (arith, h.none.count) in
      let now = there new.each p lt in
      (now.0, now.1, ap (λ y. y.place) (h.none.each p a now.0 e now.1).is))

  pub ends_keep : (old new : Takings T) (s : Sending T) → Ends old new s → KeepsSenders old new
  ends_keep old new s h = keeps old new (λ p a e.
      dite (ℕ_discrete p s.number)
      (λ (is : p ≡ s.number).
      let was : Some h.was ≡ Some a = sym h.there ∙ (ap (λ k. slice_get old.each k) (sym is) ∙ e) in
      let was_is : h.was ≡ a = cc in
      ((with_end h.was s.pushed), ap (λ t. slice_get t.each p) h.is ∙ (ap (λ k. slice_get (set old.each s.number (with_end h.was s.pushed)) k) is ∙ get_set_here old.each s.number (with_end h.was s.pushed) (slice_get_within old.each s.number h.was h.there)), ap (λ y. y.place) was_is))
      (λ (ne : p ≢ s.number). (a, ap (λ t. slice_get t.each p) h.is ∙ (get_set_else old.each s.number p (with_end h.was s.pushed) ne ∙ e), refl)))

  -- the same sender, and the same senders, over several calls
  pub same_self : (s : Sending T) → IsSame s s
  same_self s = record { place = refl; number = refl; capacity = refl }

  pub same_still : (s u w : Sending T) → IsSame s u → IsSame u w → IsSame s w
  same_still s u w a b = record { place = b.place ∙ a.place; number = b.number ∙ a.number; capacity = b.capacity ∙ a.capacity }

  pub goes_same : (old new : Sending T) (x : T) → Goes old new x → IsSame old new
  goes_same old new x h = record { place = ap (λ s. s.place) h.is; number = ap (λ s. s.number) h.is; capacity = ap (λ s. s.capacity) h.is }

  pub refused_same : (old new : Sending T) → IsRefused old new → IsSame old new
  refused_same old new h = ⊎_elim
      (λ (f : FindsFull old new). record { place = ap (λ s. s.place) f.is; number = ap (λ s. s.number) f.is; capacity = ap (λ s. s.capacity) f.is })
      (λ (f : (MOST_PUSHES ≤ length old.pushed) × (new ≡ old)). record { place = ap (λ s. s.place) f.1; number = ap (λ s. s.number) f.1; capacity = ap (λ s. s.capacity) f.1 }) h

  -- the senders of a new link are of it
  pub new_is_of : (senders capacity p : ℕ) (ends : List (Sending T)) (taker : Takings T) (s : Sending T) → IsNew senders capacity ends taker → slice_get ends p ≡ Some s → IsOf taker s
  new_is_of senders capacity p ends taker s h e =
      let lt : p < length taker.each = let l = slice_get_within ends p s e in omega (arith, h.count, h.known) in
      let t = there taker.each p lt in
      let pair = h.pairs p s t.0 e t.1 in record {
        end = t.0;
        there = ap (λ n. slice_get taker.each n) (ap (λ y. y.number) pair.sender) ∙ t.1;
        same = sym (ap (λ y. y.place) pair.taker);
      }
