-- Counts of elements, term by term.
use Rattle.std.proofs.Common.{◌≡◌, ℕ, ◌+◌, ◌≤◌, ◌⊎◌, inl, inr, Bool, true, false, cond, List, [], ◌∷◌, length, map, refl, ◌∙◌, ap, subst, arith, get_or, nat_eq}
use Rattle.std.specs.Prelude.{All, Any, count_by, sum_by}
use Rattle.std.specs.List.{IsDistinct, AllByRecursion}
use Rattle.std.proofs.lemmas.List.Elements.{All-head, All-tail}
use Rattle.std.proofs.lemmas.List.Sums.{sum_by-cons, get_or-le-sum_by}
use Rattle.std.proofs.lemmas.Map.Keys.{IsDistinct-head, IsDistinct-tail}
use Rattle.std.proofs.lemmas.Bool.Decides.{nat_tests}

-- what an element counts for
abbrev pub term : Bool → ℕ
term b = cond b 1 0

pub sum_same : {A : Type 0} (f g : A → ℕ) (xs : List A) → All (λ x. f x ≡ g x) xs → sum_by f xs ≡ sum_by g xs
sum_same f g [] h = refl
sum_same f g (x ∷ xs) h =
    let here : f x ≡ g x = All-head (λ y. f y ≡ g y) x xs h in
    let rest : sum_by f xs ≡ sum_by g xs = sum_same f g xs (All-tail (λ y. f y ≡ g y) x xs h) in
    omega (arith, here, rest, sum_by-cons f x xs, sum_by-cons g x xs)

pub sum_parts : {A : Type 0} (h f g : A → ℕ) (xs : List A) → All (λ x. h x ≡ f x + g x) xs → sum_by h xs ≡ sum_by f xs + sum_by g xs
sum_parts h f g [] p = refl
sum_parts h f g (x ∷ xs) p =
    let here : h x ≡ f x + g x = All-head (λ y. h y ≡ f y + g y) x xs p in
    let rest : sum_by h xs ≡ sum_by f xs + sum_by g xs = sum_parts h f g xs (All-tail (λ y. h y ≡ f y + g y) x xs p) in
    omega (arith, here, rest, sum_by-cons h x xs, sum_by-cons f x xs, sum_by-cons g x xs)

pub all_counted : {A : Type 0} (xs : List A) → count_by (λ x. true) xs ≡ length xs
all_counted [] = refl
all_counted (x ∷ xs) = omega (arith, all_counted xs, sum_by-cons (λ y. 1) x xs)

-- a term is 0, or it is 1 and its element has m
abbrev pub IsOnce : {A : Type 0} → (A → ℕ) → (A → ℕ) → ℕ → A → Type 0
IsOnce f g m x = (g x ≡ 0) ⊎ ((g x ≡ 1) × (f x ≡ m))

none_has : {A : Type 0} (f g : A → ℕ) (m : ℕ) (xs : List A) → AllByRecursion (λ y. nat_eq m y ≡ false) (map f xs) → All (IsOnce f g m) xs → sum_by g xs ≡ 0
none_has f g m [] apart h = refl
none_has f g m (x ∷ xs) apart h =
    let rest : sum_by g xs ≡ 0 = none_has f g m xs apart.1 (All-tail (IsOnce f g m) x xs h) in
    elim (All-head (IsOnce f g m) x xs h) [
      | inl zero_is ↦ omega (arith, zero_is, rest, sum_by-cons g x xs)
      | inr one ↦ absurd (grind (arith, nat_tests))
    ]

-- where the numbers of the elements are distinct, at most one has m
pub at_most_one : {A : Type 0} (f g : A → ℕ) (m : ℕ) (xs : List A) → IsDistinct nat_eq (map f xs) → All (IsOnce f g m) xs → sum_by g xs ≤ 1
at_most_one f g m [] apart h = omega arith
at_most_one f g m (x ∷ xs) apart h =
    let rest : sum_by g xs ≤ 1 = at_most_one f g m xs (IsDistinct-tail nat_eq (f x) (map f xs) apart) (All-tail (IsOnce f g m) x xs h) in
    elim (All-head (IsOnce f g m) x xs h) [
      | inl zero_is ↦ omega (arith, zero_is, rest, sum_by-cons g x xs)
      | inr one ↦
          let head : AllByRecursion (λ y. nat_eq m y ≡ false) (map f xs) = subst (λ (n : ℕ). AllByRecursion (λ y. nat_eq n y ≡ false) (map f xs)) one.1 (IsDistinct-head nat_eq (f x) (map f xs) apart) in
          let none : sum_by g xs ≡ 0 = none_has f g m xs head (All-tail (IsOnce f g m) x xs h) in
          omega (arith, one.0, none, sum_by-cons g x xs)
    ]

-- an element whose term is 1
pub at_least_one : {A : Type 0} (g : A → ℕ) (xs : List A) → Any (λ x. g x ≡ 1) xs → 1 ≤ sum_by g xs
at_least_one g xs (k, x, within, e, one) =
    let here : g (get_or xs k x) ≡ 1 = ap g e ∙ one in
    omega (arith, here, get_or-le-sum_by g xs k x within)

pub none_counted : {A : Type 0} (p : A → Bool) (xs : List A) → ((x : A) → p x ≡ false) → count_by p xs ≡ 0
none_counted p [] fails = refl
none_counted p (x ∷ xs) fails =
    let here : term (p x) ≡ 0 = ap term (fails x) in
    omega (arith, here, none_counted p xs fails, sum_by-cons (λ y. term (p y)) x xs)
