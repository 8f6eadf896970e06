-- Rising positions: the first that is not before a point.
use Rattle.std.proofs.Common.{◌≡◌, ℕ, zero, suc, ◌+◌, ◌<◌, ◌≤◌, true, false, List, [], ◌∷◌, length, get_or, slice_get, find, Some, None, refl, sym, ◌∙◌, arith, ◌-◌}
use Rattle.std.specs.Prelude.{nat_le}
use Rattle.std.specs.List.Sorted.{IsStrictlyIncreasing, IsNonDecreasingBy}
use Rattle.std.proofs.lemmas.Bool.Decides.{nat_tests}
use Rattle.std.proofs.lemmas.List.{get_or_default}
use Rattle.std.proofs.lemmas.Option.{none-some}

-- numbers that rise do not fall
rise-by : (xs : List ℕ) → IsStrictlyIncreasing xs → (i n : ℕ) → i + n < length xs → get_or xs i 0 ≤ get_or xs (i + n) 0
rise-by xs rising i zero h =
    let here : i + 0 ≡ i = omega arith in
    rw here (omega arith)
rise-by xs rising i (suc n) h =
    let next : i + suc n ≡ i + n + 1 = omega arith in
    let step : get_or xs (i + n) 0 < get_or xs (i + n + 1) 0 = rising (i + n) (omega arith) in
    rw next (omega (arith, step, rise-by xs rising i n (omega arith)))

pub rise : (xs : List ℕ) → IsStrictlyIncreasing xs → IsNonDecreasingBy (λ x. x) xs
rise xs rising i j d le h =
    let whole : i + (j - i) ≡ j = omega (arith, le) in
    let first : get_or xs i d ≡ get_or xs i 0 = get_or_default xs i d 0 (omega (arith, le, h)) in
    let last : get_or xs j d ≡ get_or xs j 0 = get_or_default xs j d 0 h in
    let up : get_or xs i 0 ≤ get_or xs (i + (j - i)) 0 = rise-by xs rising i (j - i) (omega (arith, whole, h)) in
    omega (arith, first, last, rw whole at up)

-- the first that is not before the point stands behind those that are
pub first_by : (point i : ℕ) (xs : List ℕ) → i ≤ length xs → ((k : ℕ) → k < i → get_or xs k 0 < point) → (i < length xs → point ≤ get_or xs i 0)
    → find (nat_le point) xs ≡ slice_get xs i
first_by point i [] h before behind = refl
first_by point zero (x ∷ xs) h before behind =
    let low : point ≤ x = behind (omega arith) in
    let is : nat_le point x ≡ true = grind (arith, nat_tests) in
    rw is refl
first_by point (suc i) (x ∷ xs) h before behind =
    let low : x < point = before 0 (omega arith) in
    let is : nat_le point x ≡ false = grind (arith, nat_tests) in
    rw is (first_by point i xs (omega arith) (λ k lt. before (suc k) (omega arith)) (λ lt. behind (omega arith)))

-- where none is from 0 on, there is none
pub none_at_all : (xs : List ℕ) → find (nat_le 0) xs ≡ None → xs ≡ []
none_at_all [] is = refl
none_at_all (x ∷ xs) is =
    let first : find (nat_le 0) (x ∷ xs) ≡ Some x =
    let low : nat_le 0 x ≡ true = grind (arith, nat_tests) in
    rw low refl in
    absurd (none-some x (sym is ∙ first))
