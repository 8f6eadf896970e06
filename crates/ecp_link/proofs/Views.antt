-- Views of seats, and functions on numbers changed at one place.
use Rattle.std.proofs.Common.{◌≡◌, ◌≢◌, ◌⊎◌, ⊎_elim, inl, inr, ℕ, zero, suc, eqb, eq-eqb, ne_eqb, cond, List, [], ◌∷◌, ◌++◌, length, set, refl, sym, ap, subst}
use mathlib.Core.Option.{some, some-injective, some-ne-none}
use lib.ListN.{get_elem?}
use Rattle.atomic_table.proofs.Lists.{at_set}

-- the function f, but x at k
abbrev pub changed : {A : Type 0} → (ℕ → A) → ℕ → A → ℕ → A
changed f k x j = cond (eqb j k) x (f j)

pub changed_here : {A : Type 0} (f : ℕ → A) (k : ℕ) (x : A) → changed f k x k ≡ x
changed_here f k x = ap (λ b. cond b x (f k)) (eq-eqb k k refl)

pub changed_else : {A : Type 0} (f : ℕ → A) (k : ℕ) (x : A) (j : ℕ) → j ≢ k → changed f k x j ≡ f j
changed_else f k x j ne = ap (λ b. cond b x (f j)) (ne_eqb j k ne)

module _ {V : Type 0} (F : ℕ → V → Type 0) where
  -- each seat's view is so
  abbrev pub Each : List V → Type 0
  Each views = (seat : ℕ) (v : V) → get_elem? views seat ≡ some v → F seat v

  -- one seat has another view
  pub each_set : (views : List V) (seat : ℕ) (w : V) → F seat w → ((j : ℕ) (u : V) → j ≢ seat → get_elem? views j ≡ some u → F j u) → Each (set views seat w)
  each_set views seat w mine others j u e =
      ⊎_elim
      (λ (x : (j ≡ seat) × (w ≡ u)). subst (λ (y : ℕ × V). F y.0 y.1) (λ i. (sym x.0 i, x.1 i)) mine)
      (λ (x : (j ≢ seat) × (get_elem? views j ≡ some u)). others j u x.0 x.1)
      (at_set views seat j w u e)

  at_snoc_place : (l : List V) (a b : V) (j : ℕ) → get_elem? (l ++ a ∷ []) j ≡ some b → (get_elem? l j ≡ some b) ⊎ ((j ≡ length l) × (a ≡ b))
  at_snoc_place [] a b zero e = inr (refl, some-injective a b e)
  at_snoc_place [] a b (suc j) e = absurd (some-ne-none b (sym e))
  at_snoc_place (x ∷ xs) a b zero e = inl e
  at_snoc_place (x ∷ xs) a b (suc j) e = ⊎_elim (λ h. inl h) (λ h. inr (ap suc h.0, h.1)) (at_snoc_place xs a b j e)

  -- a new seat has this view
  pub each_more : (views : List V) (w : V) → F (length views) w → Each views → Each (views ++ w ∷ [])
  each_more views w mine others j u e =
      ⊎_elim
      (λ (x : get_elem? views j ≡ some u). others j u x)
      (λ (x : (j ≡ length views) × (w ≡ u)). subst (λ (y : ℕ × V). F y.0 y.1) (λ i. (sym x.0 i, x.1 i)) mine)
      (at_snoc_place views w u j e)
