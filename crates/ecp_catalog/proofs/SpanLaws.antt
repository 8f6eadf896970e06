-- Spans in rising order: which has a number, and one more among them.
use Rattle.std.proofs.Common.{◌≡◌, ℕ, zero, suc, ◌+◌, ◌<◌, ◌≤◌, Bool, true, false, cond, ◌&&◌, List, [], ◌∷◌, ◌++◌, length, get_or, take, drop, slice_get, find, Some, None, refl, sym, ◌∙◌, ap, subst, arith, inl, inr, length-drop}
use Rattle.std.specs.Prelude.{nat_le, nat_lt, option_and_then, All}
use Rattle.std.specs.List.Sorted.{IsNonDecreasingBy}
use Rattle.std.proofs.lemmas.List.{get_or-drop}
use Rattle.std.specs.List.{AllByRecursion}
use Rattle.std.proofs.lemmas.Bool.{cases_lt, and_parts, leb-true, ltb-true, ltb-false, le-leb, lt-leb}
use Rattle.std.proofs.lemmas.Option.{slice_get_read, slice_get_past}
use Rattle.std.proofs.lemmas.List.Elements.{recursion_from_All}
use Rattle.std.proofs.lemmas.Bool.Decides.{nat_tests}
use Rattle.ecp_catalog.specs.declared.span.Span.{Span}
use Rattle.ecp_catalog.specs.Kept.{IsSpread, covers}

-- a number before all of them is in none
pub none-before : (from to s : ℕ) (xs : List Span) → IsSpread from to xs → s < from → find (covers s) xs ≡ None
none-before from to s [] spread low = refl
none-before from to s (x ∷ xs) spread low =
    let above : s < x.first = omega (arith, low, spread.0) in
    let off : (nat_le x.first s && nat_lt s x.end) ≡ false = grind (arith, nat_tests) in
    rw off (none-before x.end to s xs spread.2 (omega (arith, above, spread.1)))

-- the first that ends behind the number is the one that has it, if one does
pub found-at : (from to s i : ℕ) (xs : List Span) → IsSpread from to xs → AllByRecursion (λ x. x.end ≤ s) (take i xs) → AllByRecursion (λ x. s < x.end) (drop i xs)
    → find (covers s) xs ≡ option_and_then (λ x. cond (nat_le x.first s) (Some x) None) (slice_get xs i)
found-at from to s i [] spread before behind = refl
found-at from to s zero (x ∷ xs) spread before behind = one (nat_le x.first s) refl where
  ends : nat_lt s x.end ≡ true
  ends = let h : s < x.end = behind.0 in grind (arith, nat_tests)

  one : (b : Bool) → nat_le x.first s ≡ b → cond (b && nat_lt s x.end) (Some x) (find (covers s) xs) ≡ cond b (Some x) None
  one true is = rw ends refl
  one false is =
      let above : s < x.first = grind (arith, nat_tests) in
      none-before x.end to s xs spread.2 (omega (arith, above, spread.1))
found-at from to s (suc i) (x ∷ xs) spread before behind =
    let past : x.end ≤ s = before.0 in
    let off : (nat_le x.first s && nat_lt s x.end) ≡ false = grind (arith, nat_tests) in
    rw off (found-at x.end to s i xs spread.2 before.1 behind)

-- none is empty
pub some-at : (from to i : ℕ) (xs : List Span) (d : Span) → IsSpread from to xs → i < length xs → (get_or xs i d).first < (get_or xs i d).end
some-at from to i [] d spread h = absurd (omega arith)
some-at from to zero (x ∷ xs) d spread h = spread.1
some-at from to (suc i) (x ∷ xs) d spread h = some-at x.end to i xs d spread.2 (omega arith)

-- where one has a number, one is found
pub not-none : (s i : ℕ) (xs : List Span) (d : Span) → i < length xs → covers s (get_or xs i d) ≡ true → find (covers s) xs ≡ None → ⊥
not-none s i [] d h has none = omega (arith, h)
not-none s zero (x ∷ xs) d h has none = one (covers s x) has none where
  one : (b : Bool) → b ≡ true → cond b (Some x) (find (covers s) xs) ≡ None → ⊥
  one true is none = cc
  one false is none = cc
not-none s (suc i) (x ∷ xs) d h has none = one (covers s x) none (not-none s i xs d (omega arith) has) where
  one : (b : Bool) → cond b (Some x) (find (covers s) xs) ≡ None → (find (covers s) xs ≡ None → ⊥) → ⊥
  one true none more = cc
  one false none more = more none

-- one more, between those that end before it and those that begin behind it
pub spread-insert : (from to i : ℕ) (z : Span) (xs : List Span) → IsSpread from to xs → AllByRecursion (λ x. x.end ≤ z.first) (take i xs) → from ≤ z.first → z.first < z.end → z.end ≤ to
    → ((d : Span) → i < length xs → z.end ≤ (get_or xs i d).first) → IsSpread from to (take i xs ++ z ∷ drop i xs)
spread-insert from to zero z [] spread before low some high behind = (low, some, high)
spread-insert from to (suc i) z [] spread before low some high behind = (low, some, high)
spread-insert from to zero z (x ∷ xs) spread before low some high behind = (low, some, (behind x (omega arith), spread.1, spread.2))
spread-insert from to (suc i) z (x ∷ xs) spread before low some high behind =
    (spread.0, spread.1, spread-insert x.end to i z xs spread.2 before.1 before.0 some high (λ d h. behind d (omega arith)))

pub find-insert : (s i : ℕ) (z : Span) (xs : List Span) → AllByRecursion (λ x. x.end ≤ z.first) (take i xs)
    → find (covers s) (take i xs ++ z ∷ drop i xs) ≡ cond (covers s z) (Some z) (find (covers s) xs)
find-insert s zero z xs before = refl
find-insert s (suc i) z [] before = refl
find-insert s (suc i) z (x ∷ xs) before = one (covers s x) (covers s z) refl refl (find-insert s i z xs before.1) where
  one : (b c : Bool) → covers s x ≡ b → covers s z ≡ c → find (covers s) (take i xs ++ z ∷ drop i xs) ≡ cond c (Some z) (find (covers s) xs)
      → cond b (Some x) (find (covers s) (take i xs ++ z ∷ drop i xs)) ≡ cond c (Some z) (cond b (Some x) (find (covers s) xs))
  one false c has_x has_z more = more
  one true false has_x has_z more = refl
  one true true has_x has_z more =
      let past : x.end ≤ z.first = before.0 in
      absurd (apart (and_parts (nat_le x.first s) (nat_lt s x.end) has_x) (and_parts (nat_le z.first s) (nat_lt s z.end) has_z) past)
    where
      apart : (nat_le x.first s ≡ true) × (nat_lt s x.end ≡ true) → (nat_le z.first s ≡ true) × (nat_lt s z.end ≡ true) → x.end ≤ z.first → ⊥
      apart p q past = omega (arith, leb-true z.first s q.0, ltb-true s x.end p.1, past)

-- the first that ends behind the beginning of a new one, which shares no number with it, begins at the end of that or behind it
pub behind_new : (from to i : ℕ) (z : Span) (xs : List Span) → IsSpread from to xs → z.first < z.end → ((d : Span) → i < length xs → z.first < (get_or xs i d).end)
    → ((s : ℕ) → z.first ≤ s → s < z.end → find (covers s) xs ≡ None) → (d : Span) → i < length xs → z.end ≤ (get_or xs i d).first
behind_new from to i z xs spread some ends fresh d h =
    let x : Span = get_or xs i d in
    let full : x.first < x.end = some-at from to i xs d spread h in
    let behind : z.first < x.end = ends d h in
    elim (cases_lt x.first z.end) [
      | inr past ↦ past
      | inl within ↦ elim (cases_lt x.first z.first) [
        | inl below ↦
            let has : (nat_le x.first z.first && nat_lt z.first x.end) ≡ true = grind (arith, nat_tests) in
            absurd (not-none z.first i xs d h has (fresh z.first (omega arith) some))
        | inr above ↦
            let has : (nat_le x.first x.first && nat_lt x.first x.end) ≡ true = grind (arith, nat_tests) in
            absurd (not-none x.first i xs d h has (fresh x.first above within))
      ]
    ]

pub first-behind : (i s : ℕ) (ys : List Span) → All (λ x. s < x.end) (drop i ys) → (d : Span) → i < length ys → s < (get_or ys i d).end
first-behind i s ys all d h =
    let some : 0 < length (drop i ys) = omega (arith, h, length-drop i ys) in
    let here : i + 0 ≡ i = omega arith in
    subst (λ (y : Span). s < y.end) (get_or-drop i ys 0 d ∙ ap (λ (k : ℕ). get_or ys k d) here) (all 0 d some)

-- the ends rise
ends-above : (from to j : ℕ) (xs : List Span) (d : Span) → IsSpread from to xs → j < length xs → from ≤ (get_or xs j d).end
ends-above from to j [] d spread h = absurd (omega arith)
ends-above from to zero (x ∷ xs) d spread h = omega (arith, spread.0, spread.1)
ends-above from to (suc j) (x ∷ xs) d spread h = omega (arith, spread.0, spread.1, ends-above x.end to j xs d spread.2 (omega arith))

pub ends_rise : (from to : ℕ) (xs : List Span) → IsSpread from to xs → IsNonDecreasingBy (λ x. x.end) xs
ends_rise from to [] spread i j d le h = absurd (omega arith)
ends_rise from to (x ∷ xs) spread zero zero d le h = omega arith
ends_rise from to (x ∷ xs) spread zero (suc j) d le h = ends-above x.end to j xs d spread.2 (omega arith)
ends_rise from to (x ∷ xs) spread (suc i) zero d le h = absurd (omega arith)
ends_rise from to (x ∷ xs) spread (suc i) (suc j) d le h = ends_rise x.end to xs spread.2 i j d (omega arith) (omega arith)

pub found-by : (xs : List Span) (to s i : ℕ) → IsSpread 0 to xs → All (λ x. x.end ≤ s) (take i xs) → All (λ x. s < x.end) (drop i xs)
    → find (covers s) xs ≡ option_and_then (λ x. cond (nat_le x.first s) (Some x) None) (slice_get xs i)
found-by xs to s i spread before behind =
    found-at 0 to s i xs spread (recursion_from_All (λ x. x.end ≤ s) (take i xs) before) (recursion_from_All (λ x. s < x.end) (drop i xs) behind)

-- what a look at the place finds
at-place : (xs : List Span) (i : ℕ) (x : Span) → nat_lt i (length xs) ≡ true → x ≡ get_or xs i x → slice_get xs i ≡ Some x
at-place xs i x within is = slice_get_read xs (length xs) i x refl (ltb-true i (length xs) within) is

pub with-found : (xs : List Span) (to s i : ℕ) (x : Span) → IsSpread 0 to xs → All (λ y. y.end ≤ s) (take i xs) → All (λ y. s < y.end) (drop i xs)
    → nat_lt i (length xs) ≡ true → x ≡ get_or xs i x → x.first ≤ s → Some x ≡ find (covers s) xs
with-found xs to s i x spread before behind within is low =
    sym (found-by xs to s i spread before behind ∙ ap (option_and_then (λ (y : Span). cond (nat_le y.first s) (Some y) None)) (at-place xs i x within is)
    ∙ ap (λ (b : Bool). cond b (Some x) None) (le-leb x.first s low))

pub with-other : (xs : List Span) (to s i : ℕ) (x : Span) → IsSpread 0 to xs → All (λ y. y.end ≤ s) (take i xs) → All (λ y. s < y.end) (drop i xs)
    → nat_lt i (length xs) ≡ true → x ≡ get_or xs i x → s < x.first → None ≡ find (covers s) xs
with-other xs to s i x spread before behind within is high =
    sym (found-by xs to s i spread before behind ∙ ap (option_and_then (λ (y : Span). cond (nat_le y.first s) (Some y) None)) (at-place xs i x within is)
    ∙ ap (λ (b : Bool). cond b (Some x) None) (lt-leb x.first s high))

pub with-none : (xs : List Span) (to s i : ℕ) → IsSpread 0 to xs → All (λ y. y.end ≤ s) (take i xs) → All (λ y. s < y.end) (drop i xs)
    → nat_lt i (length xs) ≡ false → None ≡ find (covers s) xs
with-none xs to s i spread before behind past =
    sym (found-by xs to s i spread before behind ∙ ap (option_and_then (λ (y : Span). cond (nat_le y.first s) (Some y) None)) (slice_get_past xs i (ltb-false i (length xs) past)))
