-- The rows that a row is rebuilt from.
use Rattle.std.proofs.Common.{◌≡◌, ℕ, zero, suc, ◌+◌, ◌-◌, ◌*◌, ◌<◌, ◌≤◌, min, true, false, eqb, nat_eq, nat_lt, cond, List, [], ◌∷◌, ◌++◌, length, get_or, set, take, drop, map, replicate, Some, refl, ap, sym, ◌∙◌, subst, inl, inr, arith, mul_comm}
use Rattle.std.specs.Prelude.{slice_get, All}
use Rattle.std.specs.List.{range_with_len, IsDistinct, AllByRecursion}
use Rattle.std.proofs.lemmas.List.FromFn.{get_or-map-range_with_len, length-map-range_with_len}
use Rattle.std.proofs.lemmas.Bool.{cases_lt, ne_eqb}
use Rattle.std.proofs.lemmas.Bool.Decides.{nat_tests}
use Rattle.std.proofs.lemmas.List.{take_more, set_at, map-append, append_assoc, drop_more, drop_all, take_all, length-drop, length-map, length-take-le, take_at, append-nil}
use Rattle.ecp_field.specs.Lists.{sums, scaled, AreBytes}
use Rattle.ecp_field.proofs.ListLaws.{sums_comm, sums_assoc, sums-zeros, length-sums, length-scaled}
use Rattle.ecp_code.specs.Rows.{row, weighted_sum, other_rows, IsData}
use Rattle.ecp_code.specs.Stripes.{filled, blocks}
use Rattle.ecp_code.proofs.BlockLaws.{filled-min, get_or-blocks, length-blocks, block_len-blocks, IsData-blocks}
use Rattle.ecp_code.specs.Weights.{weights}
use Rattle.ecp_code.proofs.DataLaws.{row-data}
use Rattle.ecp_code.proofs.DecodeLaws.{row-decoded}
use Rattle.ecp_code.proofs.RowLaws.{length-weighted_sum, row-blocks, sum_all}
use Rattle.ecp_code.proofs.WeightLaws.{take-range}

-- number i of the rows other than row t
abbrev pub other : ℕ → ℕ → ℕ
other t i = cond (nat_lt i t) i (i + 1)

other_rises : (t a b : ℕ) → a < b → other t a < other t b
other_rises t a b h =
    elim (cases_lt a t) [
      | inl below ↦ elim (cases_lt b t) [
        | inl low ↦
            let p : nat_lt a t ≡ true = grind (arith, nat_tests) in
            let q : nat_lt b t ≡ true = grind (arith, nat_tests) in rw (p, q) h
        | inr high ↦
            let p : nat_lt a t ≡ true = grind (arith, nat_tests) in
            let q : nat_lt b t ≡ false = grind (arith, nat_tests) in rw (p, q) (omega arith)
      ]
      | inr above ↦
          let p : nat_lt a t ≡ false = grind (arith, nat_tests) in
          let q : nat_lt b t ≡ false = grind (arith, nat_tests) in rw (p, q) (omega arith)
    ]

others_above : (t x b n : ℕ) → ((i : ℕ) → b ≤ i → x < other t i) → AllByRecursion (λ y. eqb x y ≡ false) (map (other t) (range_with_len b n))
others_above t x b zero h = tt
others_above t x b (suc n) h = (ne_eqb x (other t b) (λ e. let less = h b (omega arith) in omega (arith, less, e)), others_above t x (b + 1) n (λ i low. h i (omega arith)))

others_from : (t a n : ℕ) → IsDistinct nat_eq (map (other t) (range_with_len a n))
unfolding IsDistinct
others_from t a zero = tt
others_from t a (suc n) = (others_above t (other t a) (a + 1) n (λ i low. other_rises t a i (omega arith)), others_from t (a + 1) n)

pub others_distinct : (k t : ℕ) → IsDistinct nat_eq (other_rows k t)
others_distinct k t = others_from t 0 k

pub other_most : (t i : ℕ) → other t i ≤ i + 1
other_most t i = elim (nat_lt i t) as (λ b. cond b i (i + 1) ≤ i + 1) [ true ↦ omega arith | false ↦ omega arith ]

-- ---- the bytes of a helper

pub drop_least : (xs : List ℕ) (m : ℕ) → drop (min (length xs) m) xs ≡ drop m xs
drop_least xs m = elim (cases_lt m (length xs)) [
  | inl within ↦ ap (λ (n : ℕ). drop n xs) (omega arith)
  | inr past ↦ drop_all (min (length xs) m) xs (omega arith) ∙ sym (drop_all m xs (omega arith))
]

pub data_helper : (k len : ℕ) (bytes : List ℕ) (h : ℕ) → h < k → IsData (blocks k len bytes) → filled len (drop (h * len) bytes) ≡ row (blocks k len bytes) h
data_helper k len bytes h within data_is =
    let d = blocks k len bytes in
    let is : slice_get d h ≡ Some (row d h) = row-data d h data_is (omega (arith, length-blocks k len bytes)) in
    sym (get_or-blocks k len bytes h [] within) ∙ got d h (row d h) is where
      got : (d : List (List ℕ)) (h : ℕ) (r : List ℕ) → slice_get d h ≡ Some r → get_or d h [] ≡ r
      got [] h r is = cc
      got (b ∷ d) zero r is = cc
      got (b ∷ d) (suc h) r is = got d h r is

pub whole_block : (len : ℕ) (xs : List ℕ) → length xs ≡ len → filled len xs ≡ xs
whole_block len xs h =
    ap (λ (ys : List ℕ). ys ++ replicate (len - length xs) 0) (take_all len xs (omega arith))
    ∙ ap (λ (n : ℕ). xs ++ replicate n 0) (let none : len - length xs ≡ 0 = omega arith in none)
    ∙ append-nil xs

pub length-row : (k len : ℕ) (bytes : List ℕ) (t : ℕ) → 1 ≤ k → AllByRecursion (λ b. length b ≡ len) (blocks k len bytes) → length (row (blocks k len bytes) t) ≡ len
length-row k len bytes t some even = ap length (row-blocks k len bytes t some) ∙ length-weighted_sum len _ (blocks k len bytes) even

-- the front of the bytes from the block of a data row on
pub helper_bytes : (k len : ℕ) (bytes : List ℕ) (h r m : ℕ) → r ≡ min (length bytes) (h * len)
    → m ≡ min len (length (take (length bytes - r) (drop r bytes))) → h < k → IsData (blocks k len bytes)
    → filled len (take m (take (length bytes - r) (drop r bytes))) ≡ row (blocks k len bytes) h
helper_bytes k len bytes h r m start count within data_is =
    let xs : List ℕ = take (length bytes - r) (drop r bytes) in
    let whole : xs ≡ drop r bytes = take_all (length bytes - r) (drop r bytes) (omega (arith, length-drop {A = ℕ})) in
    ap (λ (n : ℕ). filled len (take n xs)) count ∙ filled-min len xs
    ∙ ap (filled len) (whole ∙ ap (λ (n : ℕ). drop n bytes) start ∙ drop_least bytes (h * len))
    ∙ data_helper k len bytes h within data_is

-- ---- the sum of the helpers, one after another

-- what is left of a sum, from place i on
abbrev pub left_of : ℕ → (ℕ → List ℕ) → List ℕ → List ℕ → ℕ → List ℕ
left_of len f ws hs i = weighted_sum len (drop i ws) (map f (drop i hs))

left_step : (len : ℕ) (f : ℕ → List ℕ) (ws hs : List ℕ) (i : ℕ) → i < length ws → i < length hs
    → left_of len f ws hs i ≡ sums (scaled (get_or ws i 0) (f (get_or hs i 0))) (left_of len f ws hs (i + 1))
left_step len f ws hs i p q =
    ap (λ (us : List ℕ). weighted_sum len us (map f (drop i hs))) (drop_more ws i 0 p)
    ∙ ap (λ (us : List ℕ). weighted_sum len (get_or ws i 0 ∷ drop (i + 1) ws) (map f us)) (drop_more hs i 0 q)

pub helper_step : (len : ℕ) (f : ℕ → List ℕ) (ws hs sum sum' whole block : List ℕ) (i : ℕ) → i < length ws → i < length hs
    → length sum ≡ len → length (f (get_or hs i 0)) ≡ len → filled len block ≡ f (get_or hs i 0)
    → sum' ≡ sums sum (scaled (get_or ws i 0) (filled (length sum) block))
    → sums sum (left_of len f ws hs i) ≡ whole
    → (length sum' ≡ len) × (sums sum' (left_of len f ws hs (i + 1)) ≡ whole)
helper_step len f ws hs sum sum' whole block i p q size even is new inv =
    let w = get_or ws i 0 in
    let r = f (get_or hs i 0) in
    let step : sum' ≡ sums sum (scaled w r) = new ∙ ap (λ (n : ℕ). sums sum (scaled w (filled n block))) size ∙ ap (λ (b : List ℕ). sums sum (scaled w b)) is in (
      ap length step ∙ length-sums sum (scaled w r) (size ∙ sym (length-scaled w r ∙ even)) ∙ size,
      ap (λ (s : List ℕ). sums s (left_of len f ws hs (i + 1))) step ∙ sums_assoc sum (scaled w r) (left_of len f ws hs (i + 1))
          ∙ ap (sums sum) (sym (left_step len f ws hs i p q)) ∙ inv,
    )

pub helper_start : (len : ℕ) (xs zeros : List ℕ) → zeros ≡ replicate len 0 → length xs ≡ len → sums zeros xs ≡ xs
helper_start len xs zeros none size = ap (λ (z : List ℕ). sums z xs) none ∙ sums_comm (replicate len 0) xs ∙ sums-zeros xs len size

pub rows_even : (len : ℕ) (f : ℕ → List ℕ) (hs : List ℕ) → ((h : ℕ) → length (f h) ≡ len) → AllByRecursion (λ b. length b ≡ len) (map f hs)
rows_even len f [] even = tt
rows_even len f (h ∷ hs) even = (even h, rows_even len f hs even)

pub helper_end : (len : ℕ) (f : ℕ → List ℕ) (ws hs sum whole : List ℕ) (i : ℕ) → length ws ≤ i → length sum ≡ len
    → sums sum (left_of len f ws hs i) ≡ whole → sum ≡ whole
helper_end len f ws hs sum whole i past size inv = sum_all len sum whole ws (map f (drop i hs)) i past size inv

-- ---- the helpers, written one after another

get_or-range : (a n i : ℕ) → i < n → get_or (range_with_len a n) i 0 ≡ a + i
get_or-range a zero i h = absurd (omega arith)
get_or-range a (suc n) zero h = omega arith
get_or-range a (suc n) (suc i) h = get_or-range (a + 1) n i (omega arith) ∙ (let e : a + 1 + i ≡ a + suc i = omega arith in e)

length-range : (a n : ℕ) → length (range_with_len a n) ≡ n
length-range a zero = refl
length-range a (suc n) = ap (λ (m : ℕ). suc m) (length-range (a + 1) n)

-- one more number, behind those that are written
written_more : (f : ℕ → ℕ) (rows w : List ℕ) (i : ℕ) → i < length rows → i < 16
    → w ≡ map f (take i rows) ++ replicate (16 - i) 0 → set w i (f (get_or rows i 0)) ≡ map f (take (i + 1) rows) ++ replicate (16 - (i + 1)) 0
written_more f rows w i h small e =
    let rest : List ℕ = replicate (16 - (i + 1)) 0 in
    let left : 16 - i ≡ suc (16 - (i + 1)) = omega arith in
    let front : length (map f (take i rows)) ≡ i = length-map (take i rows) f ∙ length-take-le i rows (omega arith) in
    ap (λ xs. set xs i (f (get_or rows i 0))) (e ∙ ap (λ n. map f (take i rows) ++ replicate n 0) left)
    ∙ set_at (map f (take i rows)) 0 rest (f (get_or rows i 0)) i front
    ∙ sym (append_assoc (map f (take i rows)) (f (get_or rows i 0) ∷ []) rest)
    ∙ ap (λ xs. xs ++ rest) (sym (map-append f (take i rows) (get_or rows i 0 ∷ [])))
    ∙ ap (λ xs. map f xs ++ rest) (sym (take_more rows i 0 h))

pub others_more : (t : ℕ) (rows : List ℕ) (i : ℕ) → i < 16 → rows ≡ map (other t) (take i (range_with_len 0 16)) ++ replicate (16 - i) 0
    → set rows i (other t i) ≡ map (other t) (take (i + 1) (range_with_len 0 16)) ++ replicate (16 - (i + 1)) 0
others_more t rows i h is =
    let at : get_or (range_with_len 0 16) i 0 ≡ i = get_or-range 0 16 i h ∙ (let e : 0 + i ≡ i = omega arith in e) in
    let within : i < length (range_with_len 0 16) = omega (arith, length-range 0 16) in
    ap (λ (v : ℕ). set rows i (other t v)) (sym at) ∙ written_more (other t) (range_with_len 0 16) rows i within h is

pub others_front : (t k i : ℕ) (rows : List ℕ) → i ≡ k → k < 16 → rows ≡ map (other t) (take i (range_with_len 0 16)) ++ replicate (16 - i) 0
    → take k rows ≡ other_rows k t
others_front t k i rows e h is =
    let front : List ℕ = map (other t) (take k (range_with_len 0 16)) in
    let same : rows ≡ front ++ replicate (16 - k) 0 = is ∙ ap (λ (n : ℕ). map (other t) (take n (range_with_len 0 16)) ++ replicate (16 - n) 0) e in
    let size : length front ≡ k = length-map (take k (range_with_len 0 16)) (other t) ∙ length-take-le k (range_with_len 0 16) (omega (arith, length-range 0 16)) in
    ap (take k) same ∙ take_at front (replicate (16 - k) 0) k size ∙ ap (map (other t)) (take-range 0 16 k (omega arith))

-- ---- a row, rebuilt

pub each_other : (P : ℕ → Type 0) (k t : ℕ) → ((i : ℕ) → i < k → P (other t i)) → All P (other_rows k t)
each_other P k t each i d h =
    let within : i < k = omega (arith, length-map-range_with_len (other t) 0 k) in
    subst P (sym (get_or-map-range_with_len (other t) 0 k i i d within (omega arith))) (each i within)

pub others_within : (k t : ℕ) → All (λ h. h ≤ k) (other_rows k t)
others_within k t = each_other (λ h. h ≤ k) k t (λ i h. omega (arith, other_most t i))

others_bytes : (k t : ℕ) → k ≤ 16 → AreBytes (other_rows k t)
others_bytes k t few i =
    elim (cases_lt i (length (other_rows k t))) [
      | inl within ↦ (let low : get_or (other_rows k t) i 0 ≤ k = others_within k t i 0 within in omega arith)
      | inr past ↦ (let none : get_or (other_rows k t) i 0 ≡ 0 = get_or_past (other_rows k t) i past in omega arith)
    ] where
      get_or_past : (xs : List ℕ) (i : ℕ) → length xs ≤ i → get_or xs i 0 ≡ 0
      get_or_past [] i h = refl
      get_or_past (x ∷ xs) zero h = absurd (omega arith)
      get_or_past (x ∷ xs) (suc i) h = get_or_past xs i (omega arith)

pub rebuilt : (k len : ℕ) (bytes rows ws : List ℕ) (t : ℕ) → 1 ≤ k → k ≤ 16 → t < k → AreBytes bytes
    → rows ≡ other_rows k t → ws ≡ weights rows t
    → weighted_sum len ws (map (row (blocks k len bytes)) rows) ≡ row (blocks k len bytes) t
rebuilt k len bytes rows ws t some few within are_bytes are weigh =
    let d = blocks k len bytes in
    let data_is = IsData-blocks k len bytes (omega arith) are_bytes in
    let count : length rows ≡ length d = ap length are ∙ length-map-range_with_len (other t) 0 k ∙ sym (length-blocks k len bytes) in
    let distinct = subst (IsDistinct nat_eq) (sym are) (others_distinct k t) in
    let row_bytes = subst AreBytes (sym are) (others_bytes k t few) in
    ap (λ (us : List ℕ). weighted_sum len us (map (row d) rows)) weigh
    ∙ ap (λ (n : ℕ). weighted_sum n (weights rows t) (map (row d) rows)) (sym (block_len-blocks k len bytes (omega arith)))
    ∙ sym (row-decoded d rows t data_is count distinct row_bytes (omega arith))

-- where a block begins, in a slice whose length a number of 64 bits holds
pub start_of : (len h n product start : ℕ) → product ≡ min (len * h) 18446744073709551615 → start ≡ min product n
    → n ≤ 18446744073709551615 → start ≡ min n (h * len)
start_of len h n product start p s fits = let swap : len * h ≡ h * len = mul_comm len h in omega arith
