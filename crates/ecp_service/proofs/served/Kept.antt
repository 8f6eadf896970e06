-- Where the elements of a list stand that pass a test, and the sums over those of each group.
use Rattle.std.proofs.Common.{◌≡◌, ℕ, zero, suc, ◌+◌, ◌<◌, ◌≤◌, ◌⊎◌, ◌==◌, Bool, true, false, cond, List, [], ◌∷◌, length, take, Some, refl, sym, ◌∙◌, ap, subst, inl, inr, arith, le_refl, Contains}
use Rattle.std.specs.Prelude.{slice_get, filter, sum_by}
use Rattle.std.proofs.lemmas.Bool.{eq-eqb}
use Rattle.std.proofs.lemmas.List.Sums.{sum_by-cons}
use Rattle.std.proofs.lemmas.Option.{get_or_from_slice_get, none-some, same_Some, slice_get_within}

-- how many of the first elements pass
abbrev pub passed : {X : Type 0} → (X → Bool) → List X → ℕ → ℕ
passed test xs i = length (filter test (take i xs))

-- an element that passes is kept behind those before it
pub kept_there : {X : Type 0} (test : X → Bool) (xs : List X) (i : ℕ) (x : X) → slice_get xs i ≡ Some x → test x ≡ true → slice_get (filter test xs) (passed test xs i) ≡ Some x
kept_there test [] i x here passes = absurd (none-some x here)
kept_there {X} test (y ∷ xs) zero x here passes =
    let is : y ≡ x = same_Some y x here in
    ap (λ (b : Bool). slice_get (cond b (y ∷ filter test xs) (filter test xs)) 0) (ap test is ∙ passes) ∙ ap (λ (z : X). Some z) is
kept_there {X} test (y ∷ xs) (suc i) x here passes = either (test y) (kept_there test xs i x here passes) where
  either : (b : Bool) → slice_get (filter test xs) (passed test xs i) ≡ Some x
      → slice_get (cond b (y ∷ filter test xs) (filter test xs)) (length (cond b (y ∷ filter test (take i xs)) (filter test (take i xs)))) ≡ Some x
  either true is = is
  either false is = is

-- where an element stood that was kept at a place
pub record StoodAt {X : Type 0} (test : X → Bool) (xs : List X) (n : ℕ) (x : X) : Type 0 where
  pub at : ℕ
  pub here : slice_get xs at ≡ Some x
  pub passes : test x ≡ true
  pub before : passed test xs at ≡ n

behind_one : {X : Type 0} (test : X → Bool) (y : X) (xs : List X) (n : ℕ) (x : X) → test y ≡ false → StoodAt test xs n x → StoodAt test (y ∷ xs) n x
behind_one test y xs n x off rest = record {
  at = suc rest.at;
  here = rest.here;
  passes = rest.passes;
  before = ap (λ (b : Bool). length (cond b (y ∷ filter test (take rest.at xs)) (filter test (take rest.at xs)))) off ∙ rest.before;
}

from_first : {X : Type 0} (test : X → Bool) (y : X) (xs : List X) (n : ℕ) (x : X) → test y ≡ true → ((m : ℕ) → slice_get (filter test xs) m ≡ Some x → StoodAt test xs m x)
    → slice_get (y ∷ filter test xs) n ≡ Some x → StoodAt test (y ∷ xs) n x
from_first test y xs zero x on rest kept = record { at = zero; here = kept; passes = ap test (sym (same_Some y x kept)) ∙ on; before = refl }
from_first test y xs (suc n) x on rest kept =
    let stood : StoodAt test xs n x = rest n kept in
    record {
      at = suc stood.at;
      here = stood.here;
      passes = stood.passes;
      before = ap (λ (b : Bool). length (cond b (y ∷ filter test (take stood.at xs)) (filter test (take stood.at xs)))) on ∙ ap (λ (m : ℕ). suc m) stood.before;
    }

pub stood : {X : Type 0} (test : X → Bool) (xs : List X) (n : ℕ) (x : X) → slice_get (filter test xs) n ≡ Some x → StoodAt test xs n x
stood test [] n x kept = absurd (none-some x kept)
stood {X} test (y ∷ xs) n x kept = either (test y) refl (λ m. stood test xs m x) kept where
  either : (b : Bool) → test y ≡ b → ((m : ℕ) → slice_get (filter test xs) m ≡ Some x → StoodAt test xs m x)
      → slice_get (cond b (y ∷ filter test xs) (filter test xs)) n ≡ Some x → StoodAt test (y ∷ xs) n x
  either true on rest kept = from_first test y xs n x on rest kept
  either false off rest kept = behind_one test y xs n x off (rest n kept)

-- more elements have no fewer that pass
pub passed_le : {X : Type 0} (test : X → Bool) (xs : List X) (i j : ℕ) → i ≤ j → passed test xs i ≤ passed test xs j
passed_le test xs zero j le = omega arith
passed_le test xs (suc i) zero le = absurd (omega (arith, le))
passed_le test [] (suc i) (suc j) le = le_refl 0
passed_le {X} test (y ∷ xs) (suc i) (suc j) le = either (test y) (passed_le test xs i j (omega (arith, le))) where
  either : (b : Bool) → passed test xs i ≤ passed test xs j
      → length (cond b (y ∷ filter test (take i xs)) (filter test (take i xs))) ≤ length (cond b (y ∷ filter test (take j xs)) (filter test (take j xs)))
  either true le = omega (arith, le)
  either false le = le

-- and past one that passes there are more
pub passed_lt : {X : Type 0} (test : X → Bool) (xs : List X) (i j : ℕ) (x : X) → slice_get xs i ≡ Some x → test x ≡ true → i < j → passed test xs i < passed test xs j
passed_lt test [] i j x here passes lt = absurd (none-some x here)
passed_lt test (y ∷ xs) i zero x here passes lt = absurd (omega (arith, lt))
passed_lt {X} test (y ∷ xs) zero (suc j) x here passes lt =
    subst (λ (b : Bool). 0 < length (cond b (y ∷ filter test (take j xs)) (filter test (take j xs)))) (sym (ap test (same_Some y x here) ∙ passes)) (omega arith)
passed_lt {X} test (y ∷ xs) (suc i) (suc j) x here passes lt = either (test y) (passed_lt test xs i j x here passes (omega (arith, lt))) where
  either : (b : Bool) → passed test xs i < passed test xs j
      → length (cond b (y ∷ filter test (take i xs)) (filter test (take i xs))) < length (cond b (y ∷ filter test (take j xs)) (filter test (take j xs)))
  either true le = omega (arith, le)
  either false le = le

-- where an element of a list is found, the list has it
pub contains_at : {X : Type 0} (xs : List X) (i : ℕ) (x : X) → slice_get xs i ≡ Some x → Contains xs x
contains_at xs i x here = (i, slice_get_within xs i x here, get_or_from_slice_get xs i x x here)

-- ---- sums

module _ {X G : Type 0} (f : X → ℕ) (owner : X → ℕ) (number : G → ℕ) where
  -- the sum over the elements of a group
  abbrev pub of_group : List X → G → ℕ
  of_group xs g = sum_by f (filter (λ x. owner x == number g) xs)

  one_more : (x : X) (xs : List X) (g : G) → of_group xs g ≤ of_group (x ∷ xs) g
  one_more x xs g = either (owner x == number g) where
    either : (b : Bool) → of_group xs g ≤ sum_by f (cond b (x ∷ filter (λ y. owner y == number g) xs) (filter (λ y. owner y == number g) xs))
    either true = omega (arith, sum_by-cons f x (filter (λ y. owner y == number g) xs))
    either false = le_refl (of_group xs g)

  none_less : (x : X) (xs : List X) (groups : List G) → sum_by (of_group xs) groups ≤ sum_by (of_group (x ∷ xs)) groups
  none_less x xs [] = le_refl 0
  none_less x xs (g ∷ groups) = omega (arith, sum_by-cons (of_group xs) g groups, sum_by-cons (of_group (x ∷ xs)) g groups, one_more x xs g, none_less x xs groups)

  its_group : (x : X) (xs : List X) (g : G) → owner x ≡ number g → of_group (x ∷ xs) g ≡ f x + of_group xs g
  its_group x xs g its =
      ap (λ (b : Bool). sum_by f (cond b (x ∷ filter (λ y. owner y == number g) xs) (filter (λ y. owner y == number g) xs))) (eq-eqb (owner x) (number g) its)
      ∙ sum_by-cons f x (filter (λ y. owner y == number g) xs)

  in_one : (x : X) (xs : List X) (groups : List G) (k : ℕ) (g : G) → slice_get groups k ≡ Some g → owner x ≡ number g
      → f x + sum_by (of_group xs) groups ≤ sum_by (of_group (x ∷ xs)) groups
  in_one x xs [] k g there its = absurd (none-some g there)
  in_one x xs (h ∷ groups) zero g there its =
      let mine : of_group (x ∷ xs) h ≡ f x + of_group xs h = its_group x xs h (its ∙ ap number (sym (same_Some h g there))) in
      omega (arith, sum_by-cons (of_group xs) h groups, sum_by-cons (of_group (x ∷ xs)) h groups, mine, none_less x xs groups)
  in_one x xs (h ∷ groups) (suc k) g there its =
      omega (arith, sum_by-cons (of_group xs) h groups, sum_by-cons (of_group (x ∷ xs)) h groups, one_more x xs h, in_one x xs groups k g there its)

  -- an element counts for nothing, or is of one of these groups
  abbrev pub IsGrouped : List G → X → Type 0
  IsGrouped groups x = (f x ≡ 0) ⊎ ((k : ℕ) × (g : G) × (slice_get groups k ≡ Some g) × (owner x ≡ number g))

  -- then the groups together have no smaller sum
  pub sum_of_groups : (xs : List X) (groups : List G) → ((i : ℕ) (x : X) → slice_get xs i ≡ Some x → IsGrouped groups x)
      → sum_by f xs ≤ sum_by (of_group xs) groups
  sum_of_groups [] groups each = omega arith
  sum_of_groups (x ∷ xs) groups each =
      let rest : sum_by f xs ≤ sum_by (of_group xs) groups = sum_of_groups xs groups (λ i y there. each (suc i) y there) in
      elim (each zero x refl) [
        | inl nothing ↦ omega (arith, sum_by-cons f x xs, nothing, rest, none_less x xs groups)
        | inr one ↦ omega (arith, sum_by-cons f x xs, rest, in_one x xs groups one.0 one.1 one.2 one.3)
      ]
