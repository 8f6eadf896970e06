-- Lists of which no element passes a test.
use Rattle.std.proofs.Common.{◌≡◌, ℕ, zero, suc, Bool, true, false, ◌||◌, List, [], ◌∷◌, ◌++◌, drop, refl, sym, ◌∙◌, ap}
use Rattle.std.specs.List.{list_any}
use Rattle.std.proofs.lemmas.Bool.{false≢true}
use Rattle.std.proofs.lemmas.List.Folds.{list_any-append}

pub or_none : (a b : Bool) → (a || b) ≡ false → (a ≡ false) × (b ≡ false)
or_none true b h = absurd (false≢true (sym h))
or_none false b h = (refl, h)

pub both_none : (a b : Bool) → a ≡ false → b ≡ false → (a || b) ≡ false
both_none a b off other = ap (λ (v : Bool). v || b) off ∙ other

module _ {X : Type 0} (p : X → Bool) where
  pub any_append_none : (xs ys : List X) → list_any p xs ≡ false → list_any p ys ≡ false → list_any p (xs ++ ys) ≡ false
  any_append_none xs ys a b = list_any-append p xs ys ∙ both_none (list_any p xs) (list_any p ys) a b

  -- none of a list is none of its end
  pub any_drop_none : (n : ℕ) (xs : List X) → list_any p xs ≡ false → list_any p (drop n xs) ≡ false
  any_drop_none zero xs none = none
  any_drop_none (suc n) [] none = refl
  any_drop_none (suc n) (x ∷ xs) none = any_drop_none n xs (or_none (p x) (list_any p xs) none).1

  -- a test that passes no more than another
  pub any_weaker : (q : X → Bool) → ((x : X) → q x ≡ false → p x ≡ false) → (xs : List X) → list_any q xs ≡ false → list_any p xs ≡ false
  any_weaker q less [] none = refl
  any_weaker q less (x ∷ xs) none =
      let h = or_none (q x) (list_any q xs) none in
      both_none (p x) (list_any p xs) (less x h.0) (any_weaker q less xs h.1)
