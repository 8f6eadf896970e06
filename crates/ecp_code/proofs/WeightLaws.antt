-- Laws of interpolation weights, and of the lists of rows that they are for.
use Rattle.std.proofs.Common.{◌≡◌, ◌≢◌, ℕ, zero, suc, ◌+◌, ◌^◌, ◌<◌, ◌≤◌, true, false, eqb, nat_eq, List, [], ◌∷◌, length, get_or, set, take, drop, map, replicate, ◌-◌, bit_xor, refl, ap, sym, ◌∙◌, inl, inr, arith, eq-eqb}
use Rattle.std.specs.List.{range_with_len, IsDistinct, AllByRecursion}
use Rattle.std.specs.Int.Bits.{xor_zero_l}
use Rattle.std.proofs.lemmas.Bool.{cases_eq, ne_eqb}
use Rattle.std.proofs.lemmas.List.{drop_more, get_or-drop, length-map, length-take-le, length-drop, length-replicate, get_or-take, get_or-map, get_or-replicate, get_or-set_same, get_or-set_other, ext_get_or}
use Rattle.std.proofs.lemmas.List.FromFn.{get_or-map-range_with_len}
use Rattle.ecp_field.specs.Field.{byte_sum, byte_product, byte_quotient}
use Rattle.ecp_field.specs.Lists.{AreBytes}
use Rattle.ecp_field.proofs.Exclusive.{xor_twice}
use Rattle.ecp_field.proofs.FieldLaws.{sum-lt, product-lt, quotient-lt, product_assoc}
use Rattle.ecp_code.specs.Weights.{weight, weights}

-- two rows differ by a byte that is not 0
pub sum_apart : (a b : ℕ) → a ≢ b → byte_sum a b ≢ 0
sum_apart a b apart e = apart (sym (xor_twice a b) ∙ ap (λ x. bit_xor x b) e ∙ xor_zero_l b)

-- what another row gives to the weight of row j for row t
abbrev pub factor : ℕ → ℕ → ℕ → ℕ
factor m j t = byte_quotient (byte_sum t m) (byte_sum j m)

pub factor-lt : (m j t : ℕ) → m < 2 ^ 8 → j < 2 ^ 8 → t < 2 ^ 8 → m ≢ j → factor m j t < 2 ^ 8
factor-lt m j t p q r apart =
    quotient-lt (byte_sum t m) (byte_sum j m) (sum-lt t m r p) (sum-lt j m q p) (sum_apart j m (λ e. apart (sym e)))

pub weight-same : (m : ℕ) (rows : List ℕ) (j t : ℕ) → m ≡ j → weight (m ∷ rows) j t ≡ weight rows j t
weight-same m rows j t h = let e : eqb m j ≡ true = eq-eqb m j h in rw e refl

pub weight-other : (m : ℕ) (rows : List ℕ) (j t : ℕ) → m ≢ j → weight (m ∷ rows) j t ≡ byte_product (factor m j t) (weight rows j t)
weight-other m rows j t h = let e : eqb m j ≡ false = ne_eqb m j h in rw e refl

pub weight-lt : (rows : List ℕ) (j t : ℕ) → AreBytes rows → j < 2 ^ 8 → t < 2 ^ 8 → weight rows j t < 2 ^ 8
weight-lt [] j t b q r = omega arith
weight-lt (m ∷ rows) j t b q r =
    let rest : weight rows j t < 2 ^ 8 = weight-lt rows j t (λ k. b (suc k)) q r in
    elim (cases_eq m j) [
      | inl same ↦ rw (weight-same m rows j t same) rest
      | inr apart ↦ rw (weight-other m rows j t apart) (product-lt (factor m j t) (weight rows j t) (factor-lt m j t (b 0) q r apart) rest)
    ]

pub AreBytes-drop : (xs : List ℕ) (n : ℕ) → AreBytes xs → AreBytes (drop n xs)
AreBytes-drop xs n b k = rw (get_or-drop n xs k 0) (b (n + k))

-- the product of some bytes so far and the weight among the rows that are left is the weight among all
pub weight_more_same : (rows : List ℕ) (i j t p w : ℕ) → i < length rows → get_or rows i 0 ≡ j
    → byte_product p (weight (drop i rows) j t) ≡ w → byte_product p (weight (drop (i + 1) rows) j t) ≡ w
weight_more_same rows i j t p w h same e =
    ap (byte_product p) (sym (weight-same (get_or rows i 0) (drop (i + 1) rows) j t same)) ∙ ap (λ xs. byte_product p (weight xs j t)) (sym (drop_more rows i 0 h)) ∙ e

pub weight_more : (rows : List ℕ) (i j t p w : ℕ) → i < length rows → get_or rows i 0 ≢ j → AreBytes rows → p < 2 ^ 8 → j < 2 ^ 8 → t < 2 ^ 8
    → byte_product p (weight (drop i rows) j t) ≡ w
    → byte_product (byte_product p (factor (get_or rows i 0) j t)) (weight (drop (i + 1) rows) j t) ≡ w
weight_more rows i j t p w h apart b sp sj st e =
    let m = get_or rows i 0 in
    product_assoc p (factor m j t) (weight (drop (i + 1) rows) j t) sp (factor-lt m j t (b i) sj st apart) (weight-lt (drop (i + 1) rows) j t (AreBytes-drop rows (i + 1) b) sj st)
    ∙ ap (byte_product p) (sym (weight-other m (drop (i + 1) rows) j t apart))
    ∙ ap (λ xs. byte_product p (weight xs j t)) (sym (drop_more rows i 0 h)) ∙ e

-- ---- lists of rows

-- rows a, a + 1 and so on are none below a
above : (a b n : ℕ) → a < b → AllByRecursion (λ y. eqb a y ≡ false) (range_with_len b n)
above a b zero h = tt
above a b (suc n) h = (ne_eqb a b (λ e. omega arith), above a (b + 1) n (omega arith))

pub range-distinct : (a n : ℕ) → IsDistinct nat_eq (range_with_len a n)
unfolding IsDistinct
range-distinct a zero = tt
range-distinct a (suc n) = (above a (a + 1) n (omega arith), range-distinct (a + 1) n)

pub take-range : (a n k : ℕ) → k ≤ n → take k (range_with_len a n) ≡ range_with_len a k
take-range a n zero h = refl
take-range a zero (suc k) h = absurd (omega arith)
take-range a (suc n) (suc k) h = ap (λ rows. a ∷ rows) (take-range (a + 1) n k (omega arith))

-- ---- an array of one weight for each row, and zeros past them

pub take-by_items : (f : ℕ → ℕ) (rows w : List ℕ) → length rows ≤ length w → ((i : ℕ) → i < length rows → get_or w i 0 ≡ f (get_or rows i 0)) → take (length rows) w ≡ map f rows
take-by_items f rows w long items =
    let count : length (take (length rows) w) ≡ length rows = length-take-le (length rows) w long in
    ext_get_or 0 (take (length rows) w) (map f rows) (count ∙ sym (length-map rows f)) (λ i h.
    let within : i < length rows = omega arith in
    get_or-take (length rows) w i 0 within ∙ items i within ∙ sym (get_or-map f rows i 0 0 within))

pub drop-zeros : (k n : ℕ) (w : List ℕ) → length w ≡ n → ((i : ℕ) → k ≤ i → get_or w i 0 ≡ 0) → drop k w ≡ replicate (n - k) 0
drop-zeros k n w count zeros =
    let left : length (drop k w) ≡ n - k = length-drop k w ∙ ap (λ m. m - k) count in
    ext_get_or 0 (drop k w) (replicate (n - k) 0) (left ∙ sym (length-replicate (n - k) 0)) (λ i h.
    let within : i < n - k = omega arith in
    get_or-drop k w i 0 ∙ zeros (k + i) (omega arith) ∙ sym (get_or-replicate (n - k) i 0 0 within))

pub get_or-weights : (k t j : ℕ) → j < k → get_or (weights (range_with_len 0 k) t) j 0 ≡ weight (range_with_len 0 k) j t
get_or-weights k t j h = get_or-map-range_with_len (λ j. weight (range_with_len 0 k) j t) 0 k j j 0 h (omega arith)

-- a write at i, after which what holds of the items below i holds of i too
pub set-done : (f : ℕ → ℕ) (w : List ℕ) (i v : ℕ) → i < length w → ((j : ℕ) → j < i → get_or w j 0 ≡ f j) → v ≡ f i → (j : ℕ) → j < i + 1 → get_or (set w i v) j 0 ≡ f j
set-done f w i v h before here j below =
    elim (cases_eq j i) [
      | inl same ↦ ap (λ n. get_or (set w i v) n 0) same ∙ get_or-set_same w i v 0 h ∙ here ∙ ap f (sym same)
      | inr apart ↦ get_or-set_other w i j v 0 apart ∙ before j (omega arith)
    ]

pub set-rest : (w : List ℕ) (i v : ℕ) → ((j : ℕ) → i ≤ j → get_or w j 0 ≡ 0) → (j : ℕ) → i + 1 ≤ j → get_or (set w i v) j 0 ≡ 0
set-rest w i v rest j above = get_or-set_other w i j v 0 (λ e. omega arith) ∙ rest j (omega arith)
