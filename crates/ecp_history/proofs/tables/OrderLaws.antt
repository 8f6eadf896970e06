-- Stripes in rising order of their numbers.
use Rattle.std.proofs.Common.{◌≡◌, ℕ, zero, suc, ◌+◌, ◌<◌, ◌≤◌, ◌==◌, Bool, true, false, cond, List, [], ◌∷◌, ◌++◌, length, get_or, set, take, drop, Some, None, refl, sym, ◌∙◌, ap, subst, arith, append-nil, add-one, ◌-◌, inl, inr}
use Rattle.std.proofs.lemmas.List.{take_all, drop_all}
use Rattle.std.specs.Prelude.{find, nat_lt, ◌≢◌}
use Rattle.std.specs.List.{AllByRecursion}
use Rattle.std.proofs.lemmas.Bool.Decides.{nat_tests}
use Rattle.std.proofs.lemmas.Bool.{eqb-true, cases_lt}
use Rattle.ecp_history.specs.table.Tables.{Stripe, Standing}
use Rattle.ecp_history.specs.table.Steps.{placed, with_rows}
use Rattle.ecp_history.specs.table.Rising.{IsRising, AllAbove, AllBelow}

-- what holds of each element holds of one
pub all_at : (P : Stripe → Type 0) (xs : List Stripe) (i : ℕ) (d : Stripe) → AllByRecursion P xs → i < length xs → P (get_or xs i d)
all_at P [] i d all h = absurd (omega arith)
all_at P (x ∷ xs) zero d all h = all.0
all_at P (x ∷ xs) (suc i) d all h = all_at P xs i d all.1 (omega arith)

-- a stripe that stands in the list is the one that is found by its number
pub find-rising : (xs : List Stripe) (i s : ℕ) (d : Stripe) → IsRising xs → i < length xs → (get_or xs i d).number ≡ s → find (λ x. x.number == s) xs ≡ Some (get_or xs i d)
find-rising [] i s d rising h is = absurd (omega arith)
find-rising (x ∷ xs) zero s d rising h is =
    let same : x.number == s ≡ true = grind (arith, nat_tests) in
    rw same refl
find-rising (x ∷ xs) (suc i) s d rising h is =
    let below : x.number < (get_or xs i d).number = all_at (λ y. x.number < y.number) xs i d rising.0 (omega arith) in
    let other : x.number == s ≡ false = grind (arith, nat_tests) in
    rw other (find-rising xs i s d rising.1 (omega arith) is)

-- a stripe goes behind those of lower numbers
pub placed-behind : (front back : List Stripe) (x : Stripe) → AllBelow x.number front → placed (front ++ back) x ≡ front ++ placed back x
placed-behind [] back x below = refl
placed-behind (y ∷ front) back x below =
    let not_less : nat_lt x.number y.number ≡ false = grind (arith, nat_tests) in
    let not_same : x.number == y.number ≡ false = grind (arith, nat_tests) in
    rw (not_less, not_same) (ap (λ (ys : List Stripe). y ∷ ys) (placed-behind front back x below.1))

-- at the end
pub placed_at_end : (xs : List Stripe) (x : Stripe) (i : ℕ) → AllBelow x.number (take i xs) → length xs ≤ i → placed xs x ≡ take i xs ++ x ∷ drop i xs
placed_at_end xs x i below past =
    let whole : take i xs ≡ xs = take_all i xs past in
    let none : drop i xs ≡ [] = drop_all i xs past in
    let all : AllBelow x.number xs = subst (AllBelow x.number) whole below in
    rw (whole, none) (ap (λ (zs : List Stripe). placed zs x) (sym (append-nil xs)) ∙ placed-behind xs [] x all)

-- before a higher number
pub placed_before : (xs : List Stripe) (x : Stripe) (i : ℕ) (d : Stripe) → AllBelow x.number (take i xs) → i < length xs → x.number < (get_or xs i d).number → placed xs x ≡ take i xs ++ x ∷ drop i xs
placed_before [] x i d below h less = absurd (omega arith)
placed_before (y ∷ ys) x zero d below h less =
    let lt : nat_lt x.number y.number ≡ true = grind (arith, nat_tests) in rw lt refl
placed_before (y ∷ ys) x (suc i) d below h less =
    let not_less : nat_lt x.number y.number ≡ false = grind (arith, nat_tests) in
    let not_same : x.number == y.number ≡ false = grind (arith, nat_tests) in
    rw (not_less, not_same) (ap (λ (zs : List Stripe). y ∷ zs) (placed_before ys x i d below.1 (omega arith) less))

-- in the place of one of its number
pub placed_over : (xs : List Stripe) (x : Stripe) (i : ℕ) (d : Stripe) → AllBelow x.number (take i xs) → i < length xs → (get_or xs i d).number ≡ x.number → placed xs x ≡ set xs i x
placed_over [] x i d below h same = absurd (omega arith)
placed_over (y ∷ ys) x zero d below h same =
    let not_less : nat_lt x.number y.number ≡ false = grind (arith, nat_tests) in
    let equal : x.number == y.number ≡ true = grind (arith, nat_tests) in
    rw (not_less, equal) refl
placed_over (y ∷ ys) x (suc i) d below h same =
    let not_less : nat_lt x.number y.number ≡ false = grind (arith, nat_tests) in
    let not_same : x.number == y.number ≡ false = grind (arith, nat_tests) in
    rw (not_less, not_same) (ap (λ (zs : List Stripe). y ∷ zs) (placed_over ys x i d below.1 (omega arith) same))

-- a new number goes to the first place with no lower one
pub put_new : (ys xs : List Stripe) (x : Stripe) (n i : ℕ) (d : Stripe) → ys ≡ xs → n ≡ x.number → AllBelow n (take i ys)
    → (i < length ys → (e : Stripe) → n ≤ (get_or ys i e).number) → (i < length xs → (get_or xs i d).number ≢ n) → placed xs x ≡ take i xs ++ x ∷ drop i xs
put_new ys xs x n i d same number below reached other =
    let below_x : AllBelow x.number (take i xs) = subst (λ (m : ℕ). AllBelow m (take i xs)) number (subst (λ (zs : List Stripe). AllBelow n (take i zs)) same below) in
    elim (cases_lt i (length xs)) [
      | inl within ↦
          let at_least : n ≤ (get_or xs i d).number = subst (λ (zs : List Stripe). i < length zs → (e : Stripe) → n ≤ (get_or zs i e).number) same reached within d in
          placed_before xs x i d below_x within (omega (arith, at_least, other within, number))
      | inr past ↦ placed_at_end xs x i below_x past
    ]

-- a number that is there goes to its place
pub put_over : (ys xs : List Stripe) (x : Stripe) (n i : ℕ) (d : Stripe) → ys ≡ xs → n ≡ x.number → AllBelow n (take i ys)
    → i < length xs → (get_or xs i d).number ≡ n → placed xs x ≡ set xs i x
put_over ys xs x n i d same number below within is =
    placed_over xs x i d (subst (λ (m : ℕ). AllBelow m (take i xs)) number (subst (λ (zs : List Stripe). AllBelow n (take i zs)) same below)) within (is ∙ number)

-- up to a lower number all are lower
pub below_upto : (xs : List Stripe) (i n : ℕ) (d : Stripe) → IsRising xs → i < length xs → (get_or xs i d).number < n → AllBelow n (take (i + 1) xs)
below_upto xs i n d rising h less = rw add-one (go xs i rising h less) where
  go : (ys : List Stripe) (j : ℕ) → IsRising ys → j < length ys → (get_or ys j d).number < n → AllBelow n (take (suc j) ys)
  go [] j r h l = absurd (omega arith)
  go (y ∷ ys) zero r h l = (l, tt)
  go (y ∷ ys) (suc j) r h l =
      let first : y.number < (get_or ys j d).number = all_at (λ z. y.number < z.number) ys j d r.0 (omega arith) in
      (omega arith, go ys j r.1 (omega arith) l)

-- where the last number is lower, all are
pub below_all : (xs : List Stripe) (n : ℕ) (d : Stripe) → IsRising xs → (get_or xs (length xs - 1) d).number < n → AllBelow n xs
below_all [] n d rising h = tt
below_all (x ∷ xs) n d rising h =
    let last : length xs < length (x ∷ xs) = omega arith in
    let is : length (x ∷ xs) - 1 ≡ length xs = omega arith in
    let lower : (get_or (x ∷ xs) (length xs) d).number < n = subst (λ (i : ℕ). (get_or (x ∷ xs) i d).number < n) is h in
    subst (AllBelow n) (take_all (length xs + 1) (x ∷ xs) (omega arith)) (below_upto (x ∷ xs) (length xs) n d rising last lower)

-- it stays above what was below all of these
above_placed : (n : ℕ) (xs : List Stripe) (x : Stripe) → AllByRecursion (λ y. n < y.number) xs → n < x.number → AllByRecursion (λ y. n < y.number) (placed xs x)
above_placed n [] x all h = (h, tt)
above_placed n (y ∷ xs) x all h = one (nat_lt x.number y.number) (x.number == y.number) (above_placed n xs x all.1 h) where
  one : (less same : Bool) → AllByRecursion (λ z. n < z.number) (placed xs x) → AllByRecursion (λ z. n < z.number) (cond less (x ∷ y ∷ xs) (cond same (x ∷ xs) (y ∷ placed xs x)))
  one true same more = (h, all)
  one false true more = (h, all.1)
  one false false more = (all.0, more)

-- what is above a number is above a lower one
lower : (m n : ℕ) (xs : List Stripe) → m < n → AllByRecursion (λ y. n < y.number) xs → AllByRecursion (λ y. m < y.number) xs
lower m n [] h all = tt
lower m n (y ∷ xs) h all = (omega (arith, h, all.0), lower m n xs h all.1)

-- a stripe put at its place leaves them rising
pub rising-placed : (xs : List Stripe) (x : Stripe) → IsRising xs → IsRising (placed xs x)
rising-placed [] x rising = (tt, tt)
rising-placed (y ∷ xs) x rising = one (nat_lt x.number y.number) (x.number == y.number) (rising-placed xs x rising.1) refl refl where
  one : (less same : Bool) → IsRising (placed xs x) → nat_lt x.number y.number ≡ less → x.number == y.number ≡ same → IsRising (cond less (x ∷ y ∷ xs) (cond same (x ∷ xs) (y ∷ placed xs x)))
  one true same more l s =
      let below : x.number < y.number = grind (arith, nat_tests) in
      ((below, lower x.number y.number xs below rising.0), rising)
  one false true more l s = (subst (λ (n : ℕ). AllByRecursion (λ z. n < z.number) xs) (sym (eqb-true x.number y.number s)) rising.0, rising.1)
  one false false more l s =
      let above : y.number < x.number = grind (arith, nat_tests) in
      (above_placed y.number xs x rising.0 above, more)

-- from a higher number on all are higher
pub above_from : (xs : List Stripe) (i n : ℕ) (d : Stripe) → IsRising xs → i < length xs → n < (get_or xs i d).number → AllAbove n (drop i xs)
above_from [] i n d rising h more = absurd (omega arith)
above_from (x ∷ xs) zero n d rising h more = (more, lower n x.number xs more rising.0)
above_from (x ∷ xs) (suc i) n d rising h more = above_from xs i n d rising.1 (omega arith) more

none_above : (xs : List Stripe) (s : ℕ) → AllAbove s xs → find (λ x. x.number == s) xs ≡ None
none_above [] s above = refl
none_above (x ∷ xs) s above =
    let more : s < x.number = above.0 in
    let other : x.number == s ≡ false = grind (arith, nat_tests) in
    rw other (none_above xs s above.1)

-- between lower and higher numbers there is none
pub none_between : (xs : List Stripe) (i s : ℕ) → AllBelow s (take i xs) → AllAbove s (drop i xs) → find (λ x. x.number == s) xs ≡ None
none_between [] i s below above = refl
none_between (x ∷ xs) zero s below above = none_above (x ∷ xs) s above
none_between (x ∷ xs) (suc i) s below above =
    let less : x.number < s = below.0 in
    let other : x.number == s ≡ false = grind (arith, nat_tests) in
    rw other (none_between xs i s below.1 above)

-- where no stripe has the number, none changes
pub none_changed : (change : Stripe → List Standing) (s : ℕ) (xs : List Stripe) → find (λ x. x.number == s) xs ≡ None → with_rows (λ x. cond (x.number == s) (change x) x.rows) xs ≡ xs
none_changed change s [] none = refl
none_changed change s (x ∷ xs) none = one (x.number == s) none (none_changed change s xs) where
  one : (b : Bool) → cond b (Some x) (find (λ y. y.number == s) xs) ≡ None
      → (find (λ y. y.number == s) xs ≡ None → with_rows (λ y. cond (y.number == s) (change y) y.rows) xs ≡ xs)
      → record { number = x.number; blocks = x.blocks; rows = cond b (change x) x.rows } ∷ with_rows (λ y. cond (y.number == s) (change y) y.rows) xs ≡ x ∷ xs
  one true none more = cc
  one false none more = ap (λ (ys : List Stripe). x ∷ ys) (more none)

-- a stripe, with its rows changed
abbrev pub changed : (Stripe → List Standing) → Stripe → Stripe
changed change x = record { number = x.number; blocks = x.blocks; rows = change x }

-- where a stripe has the number, it alone changes
pub one_changed : (change : Stripe → List Standing) (s : ℕ) (xs : List Stripe) (i : ℕ) (d : Stripe) → IsRising xs → i < length xs → (get_or xs i d).number ≡ s
    → with_rows (λ x. cond (x.number == s) (change x) x.rows) xs ≡ set xs i (changed change (get_or xs i d))
one_changed change s [] i d rising within is = absurd (omega arith)
one_changed change s (x ∷ xs) zero d rising within is =
    let same : x.number == s ≡ true = grind (arith, nat_tests) in
    rw same (ap (λ (ys : List Stripe). changed change x ∷ ys) (none_changed change s xs (none_above xs s (subst (λ (n : ℕ). AllAbove n xs) is rising.0))))
one_changed change s (x ∷ xs) (suc i) d rising within is =
    let below : x.number < (get_or xs i d).number = all_at (λ y. x.number < y.number) xs i d rising.0 (omega arith) in
    let other : x.number == s ≡ false = grind (arith, nat_tests) in
    rw other (ap (λ (ys : List Stripe). x ∷ ys) (one_changed change s xs i d rising.1 (omega arith) is))
