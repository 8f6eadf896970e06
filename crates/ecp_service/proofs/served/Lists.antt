-- What a list has of the elements that pass two tests, and what tests find in it.
use Rattle.std.proofs.Common.{◌≡◌, ℕ, zero, suc, ◌+◌, ◌<◌, Bool, true, false, cond, List, [], ◌∷◌, ◌++◌, length, Some, Contains, refl, sym, ◌∙◌, ap, subst, arith}
use Rattle.std.specs.Prelude.{filter, slice_get, find, count_by, ◌&&◌, ◌||◌}
use Rattle.std.specs.List.{AllByRecursion, list_any}
use Rattle.std.proofs.lemmas.List.Sums.{sum_by-cons, sum_by_push}
use Rattle.std.proofs.lemmas.Option.{none-some, same_Some, slice_get-get_or}

-- what one element adds to a count
abbrev pub one_if : Bool → ℕ
one_if b = cond b 1 0

-- ---- two tests

module _ {X : Type 0} (p q : X → Bool) where
  -- the elements that pass both, in two steps
  pub filter_both : (xs : List X) → filter (λ x. p x && q x) xs ≡ filter q (filter p xs)
  filter_both [] = refl
  filter_both (x ∷ xs) = either (p x) (filter_both xs) where
    either : (b : Bool) → filter (λ y. p y && q y) xs ≡ filter q (filter p xs)
        → cond (b && q x) (x ∷ filter (λ y. p y && q y) xs) (filter (λ y. p y && q y) xs) ≡ filter q (cond b (x ∷ filter p xs) (filter p xs))
    either true is = ap (λ (zs : List X). cond (q x) (x ∷ zs) zs) is
    either false is = is

  pub find_both : (xs : List X) → find (λ x. p x && q x) xs ≡ find q (filter p xs)
  find_both [] = refl
  find_both (x ∷ xs) = either (p x) (find_both xs) where
    either : (b : Bool) → find (λ y. p y && q y) xs ≡ find q (filter p xs)
        → cond (b && q x) (Some x) (find (λ y. p y && q y) xs) ≡ find q (cond b (x ∷ filter p xs) (filter p xs))
    either true is = ap (λ o. cond (q x) (Some x) o) is
    either false is = is

  pub count_both : (xs : List X) → count_by (λ x. p x && q x) xs ≡ count_by q (filter p xs)
  count_both [] = refl
  count_both (x ∷ xs) =
      sum_by-cons (λ (y : X). one_if (p y && q y)) x xs ∙ ap (λ (n : ℕ). one_if (p x && q x) + n) (count_both xs) ∙ either (p x)
    where
      either : (b : Bool) → one_if (b && q x) + count_by q (filter p xs) ≡ count_by q (cond b (x ∷ filter p xs) (filter p xs))
      either true = sym (sum_by-cons (λ (y : X). one_if (q y)) x (filter p xs))
      either false = omega arith

-- the two tests in either order
pub filter_order : {X : Type 0} (p q : X → Bool) (xs : List X) → filter p (filter q xs) ≡ filter q (filter p xs)
filter_order p q [] = refl
filter_order {X} p q (x ∷ xs) = left (q x) ∙ both (p x) (q x) (filter_order p q xs) ∙ sym (right (p x)) where
  one : List X
  one = filter p (filter q xs)

  other : List X
  other = filter q (filter p xs)

  left : (b : Bool) → filter p (cond b (x ∷ filter q xs) (filter q xs)) ≡ cond b (cond (p x) (x ∷ one) one) one
  left true = refl
  left false = refl

  right : (b : Bool) → filter q (cond b (x ∷ filter p xs) (filter p xs)) ≡ cond b (cond (q x) (x ∷ other) other) other
  right true = refl
  right false = refl

  both : (a b : Bool) → one ≡ other → cond b (cond a (x ∷ one) one) one ≡ cond a (cond b (x ∷ other) other) other
  both true true is = ap (λ (zs : List X). x ∷ zs) is
  both true false is = is
  both false true is = is
  both false false is = is

-- ---- all pass, or none

pub filter_all : {X : Type 0} (test : X → Bool) (xs : List X) → AllByRecursion (λ x. test x ≡ true) xs → filter test xs ≡ xs
filter_all test [] all = refl
filter_all {X} test (x ∷ xs) all = ap (λ (b : Bool). cond b (x ∷ filter test xs) (filter test xs)) all.0 ∙ ap (λ (zs : List X). x ∷ zs) (filter_all test xs all.1)

pub filter_none : {X : Type 0} (test : X → Bool) (xs : List X) → AllByRecursion (λ x. test x ≡ false) xs → filter test xs ≡ []
filter_none test [] none = refl
filter_none test (x ∷ xs) none = ap (λ (b : Bool). cond b (x ∷ filter test xs) (filter test xs)) none.0 ∙ filter_none test xs none.1

-- ---- a last element

-- one that fails is not found
pub find_before : {X : Type 0} (test : X → Bool) (xs : List X) (x : X) → test x ≡ false → find test (xs ++ x ∷ []) ≡ find test xs
find_before test [] x off = ap (λ (b : Bool). cond b (Some x) (find test [])) off
find_before test (y ∷ xs) x off = ap (λ o. cond (test y) (Some y) o) (find_before test xs x off)

-- and does not count
pub count_before : {X : Type 0} (test : X → Bool) (xs : List X) (x : X) → test x ≡ false → count_by test (xs ++ x ∷ []) ≡ count_by test xs
count_before {X} test xs x off = sum_by_push (λ (y : X). one_if (test y)) xs x ∙ ap (λ (b : Bool). count_by test xs + one_if b) off ∙ none_more (count_by test xs) where
  none_more : (n : ℕ) → n + 0 ≡ n
  none_more n = omega arith

-- the last one alone passes
pub filter_last : {X : Type 0} (test : X → Bool) (xs : List X) (x : X) → AllByRecursion (λ y. test y ≡ false) xs → test x ≡ true → filter test (xs ++ x ∷ []) ≡ x ∷ []
filter_last test [] x none on = ap (λ (b : Bool). cond b (x ∷ []) []) on
filter_last test (y ∷ xs) x none on =
    ap (λ (b : Bool). cond b (y ∷ filter test (xs ++ x ∷ [])) (filter test (xs ++ x ∷ []))) none.0 ∙ filter_last test xs x none.1 on

pub find_last : {X : Type 0} (test : X → Bool) (xs : List X) (x : X) → AllByRecursion (λ y. test y ≡ false) xs → test x ≡ true → find test (xs ++ x ∷ []) ≡ Some x
find_last test [] x none on = ap (λ (b : Bool). cond b (Some x) (find test [])) on
find_last test (y ∷ xs) x none on = ap (λ (b : Bool). cond b (Some y) (find test (xs ++ x ∷ []))) none.0 ∙ find_last test xs x none.1 on

pub count_last : {X : Type 0} (test : X → Bool) (xs : List X) (x : X) → AllByRecursion (λ y. test y ≡ false) xs → test x ≡ true → count_by test (xs ++ x ∷ []) ≡ 1
count_last {X} test [] x none on = sum_by-cons (λ (y : X). one_if (test y)) x [] ∙ ap (λ (b : Bool). one_if b + 0) on
count_last {X} test (y ∷ xs) x none on =
    sum_by-cons (λ (z : X). one_if (test z)) y (xs ++ x ∷ [])
    ∙ ap (λ (b : Bool). one_if b + count_by test (xs ++ x ∷ [])) none.0
    ∙ ap (λ (n : ℕ). 0 + n) (count_last test xs x none.1 on)

-- ---- what is found

pub any_found : {X : Type 0} (test : X → Bool) (xs : List X) (x : X) → find test xs ≡ Some x → list_any test xs ≡ true
any_found test [] x is = absurd (none-some x is)
any_found {X} test (y ∷ xs) x is = either (test y) is (any_found test xs x) where
  either : (b : Bool) → cond b (Some y) (find test xs) ≡ Some x → (find test xs ≡ Some x → list_any test xs ≡ true) → (b || list_any test xs) ≡ true
  either true found rest = refl
  either false found rest = rest found

-- where an element of a list stands
pub place_of : {X : Type 0} (xs : List X) (x : X) → Contains xs x → (i : ℕ) × (slice_get xs i ≡ Some x)
place_of xs x there = (there.0, slice_get-get_or xs there.0 x there.1 ∙ ap (λ y. Some y) there.2)

-- what stands below the length is there
pub got : {X : Type 0} (xs : List X) (i : ℕ) → i < length xs → (x : X) × (slice_get xs i ≡ Some x)
got [] i within = absurd (omega (arith, within))
got (x ∷ xs) zero within = (x, refl)
got (x ∷ xs) (suc i) within = got xs i (omega (arith, within))

-- ---- facts of each element

pub all_append : {X : Type 0} (P : X → Type 0) (xs ys : List X) → AllByRecursion P xs → AllByRecursion P ys → AllByRecursion P (xs ++ ys)
all_append P [] ys first second = second
all_append P (x ∷ xs) ys first second = (first.0, all_append P xs ys first.1 second)

pub all_weaker : {X : Type 0} (P Q : X → Type 0) (xs : List X) → ((x : X) → P x → Q x) → AllByRecursion P xs → AllByRecursion Q xs
all_weaker P Q [] less all = tt
all_weaker P Q (x ∷ xs) less all = (less x all.0, all_weaker P Q xs less all.1)

-- of the last one
pub of_last : {X : Type 0} (P : X → Type 0) (xs : List X) (x : X) → AllByRecursion P (xs ++ x ∷ []) → P x
of_last P [] x all = all.0
of_last P (y ∷ xs) x all = of_last P xs x all.1

-- of the one at a place
pub of_place : {X : Type 0} (P : X → Type 0) (xs : List X) (i : ℕ) (x : X) → AllByRecursion P xs → slice_get xs i ≡ Some x → P x
of_place P [] i x all here = absurd (none-some x here)
of_place P (y ∷ xs) zero x all here = subst P (same_Some y x here) all.0
of_place P (y ∷ xs) (suc i) x all here = of_place P xs i x all.1 here
