-- A data row is its block: its weight is 1 for itself and 0 for the other data rows.
use Rattle.std.proofs.Common.{◌≡◌, ◌≢◌, ℕ, zero, suc, ◌+◌, ◌-◌, ◌^◌, ◌<◌, ◌≤◌, List, [], ◌∷◌, length, get_or, replicate, map, Some, slice_get, refl, ap, sym, ◌∙◌, inl, inr, arith}
use Rattle.std.specs.List.{range_with_len, AllByRecursion}
use Rattle.std.proofs.lemmas.Bool.{cases_eq}
use Rattle.std.proofs.lemmas.List.{length-replicate}
use Rattle.std.proofs.lemmas.List.Elements.{recursion_from_All}
use Rattle.std.proofs.lemmas.List.FromFn.{get_or-range_with_len, length-range_with_len}
use Rattle.std.proofs.lemmas.Option.{slice_get-get_or}
use Rattle.ecp_field.specs.Field.{byte_sum, byte_product, byte_quotient}
use Rattle.ecp_field.specs.Lists.{sums, scaled, AreBytes}
use Rattle.ecp_field.proofs.FieldLaws.{sum-lt, sum-self, product-one_left, product-zero_left, product-zero_right, quotient_unique, quotient-zero_left}
use Rattle.ecp_field.proofs.ListLaws.{sums_comm, sums-zeros, scaled-one, scaled-zero}
use Rattle.ecp_code.specs.Weights.{weight}
use Rattle.ecp_code.specs.Rows.{weighted_sum, block_len, row, IsData}
use Rattle.ecp_code.proofs.RowLaws.{length-weighted_sum}
use Rattle.ecp_code.proofs.WeightLaws.{sum_apart, factor, factor-lt, weight-same, weight-other, weight-lt}

-- ---- weights for a row that is among the rows

factor-self : (m t : ℕ) → m < 2 ^ 8 → t < 2 ^ 8 → m ≢ t → factor m t t ≡ 1
factor-self m t p q apart =
    let s : byte_sum t m < 2 ^ 8 = sum-lt t m q p in
    quotient_unique (byte_sum t m) (byte_sum t m) 1 s (omega arith) (sum_apart t m (λ e. apart (sym e))) (product-one_left (byte_sum t m) s)

pub weight-self : (rows : List ℕ) (t : ℕ) → AreBytes rows → t < 2 ^ 8 → weight rows t t ≡ 1
weight-self [] t b q = refl
weight-self (m ∷ rows) t b q =
    let rest : weight rows t t ≡ 1 = weight-self rows t (λ k. b (suc k)) q in
    elim (cases_eq m t) [
      | inl same ↦ weight-same m rows t t same ∙ rest
      | inr apart ↦
          weight-other m rows t t apart ∙ ap (byte_product (factor m t t)) rest
          ∙ ap (λ x. byte_product x 1) (factor-self m t (b 0) q apart) ∙ product-one_left 1 (omega arith)
    ]

pub weight-zero : (rows : List ℕ) (j t i : ℕ) → AreBytes rows → j < 2 ^ 8 → t < 2 ^ 8 → t ≢ j → i < length rows → get_or rows i 0 ≡ t → weight rows j t ≡ 0
weight-zero [] j t i b p q apart h e = absurd (omega arith)
weight-zero (m ∷ rows) j t zero b p q apart h e =
    let other : m ≢ j = λ same. apart (sym e ∙ same) in
    let none : byte_sum t m ≡ 0 = ap (byte_sum t) e ∙ sum-self t in
    weight-other m rows j t other
    ∙ ap (λ x. byte_product (byte_quotient x (byte_sum j m)) (weight rows j t)) none
    ∙ ap (λ x. byte_product x (weight rows j t)) (quotient-zero_left (byte_sum j m) (sum-lt j m p (b 0)) (sum_apart j m (λ same. other (sym same))))
    ∙ product-zero_left (weight rows j t) (weight-lt rows j t (λ k. b (suc k)) p q)
weight-zero (m ∷ rows) j t (suc i) b p q apart h e =
    let rest : weight rows j t ≡ 0 = weight-zero rows j t i (λ k. b (suc k)) p q apart (omega arith) e in
    elim (cases_eq m j) [
      | inl same ↦ weight-same m rows j t same ∙ rest
      | inr other ↦
          weight-other m rows j t other ∙ ap (byte_product (factor m j t)) rest
          ∙ product-zero_right (factor m j t) (factor-lt m j t (b 0) p q other)
    ]

-- ---- a weighted sum in which one weight is 1 and all others are 0

pub range_each : (P : ℕ → Type 0) (a n : ℕ) → ((j : ℕ) → a ≤ j → j < a + n → P j) → AllByRecursion P (range_with_len a n)
range_each P a zero holds = tt
range_each P a (suc n) holds = (holds a (omega arith) (omega arith), range_each P (a + 1) n (λ j low high. holds j (omega arith) (omega arith)))

pub AreBytes-range : (a n : ℕ) → a + n ≤ 256 → AreBytes (range_with_len a n)
AreBytes-range a zero h k = omega arith
AreBytes-range a (suc n) h zero = omega arith
AreBytes-range a (suc n) h (suc k) = AreBytes-range (a + 1) n (omega arith) k

pub weighted_sum-zeros : (len : ℕ) (w : ℕ → ℕ) (js : List ℕ) (bs : List (List ℕ)) → AllByRecursion (λ j. w j ≡ 0) js → AllByRecursion (λ b. length b ≡ len) bs → AllByRecursion AreBytes bs
    → weighted_sum len (map w js) bs ≡ replicate len 0
weighted_sum-zeros len w [] bs none even bytes = refl
weighted_sum-zeros len w (j ∷ js) [] none even bytes = refl
weighted_sum-zeros len w (j ∷ js) (b ∷ bs) none even bytes =
    ap (λ c. sums (scaled c b) (weighted_sum len (map w js) bs)) none.0
    ∙ ap (sums (scaled 0 b)) (weighted_sum-zeros len w js bs none.1 even.1 bytes.1)
    ∙ ap (λ xs. sums xs (replicate len 0)) (scaled-zero b bytes.0 ∙ ap (λ n. replicate n 0) even.0)
    ∙ sums-zeros (replicate len 0) len (length-replicate len 0)

weighted_sum-one : (len : ℕ) (w : ℕ → ℕ) (a n t : ℕ) (bs : List (List ℕ)) → a ≤ t → t < a + n → w t ≡ 1 → ((j : ℕ) → a ≤ j → j < a + n → j ≢ t → w j ≡ 0)
    → length bs ≡ n → AllByRecursion (λ b. length b ≡ len) bs → AllByRecursion AreBytes bs → weighted_sum len (map w (range_with_len a n)) bs ≡ get_or bs (t - a) []
weighted_sum-one len w a zero t bs low high one none count even bytes = absurd (omega arith)
weighted_sum-one len w a (suc n) t [] low high one none count even bytes = absurd (omega arith)
weighted_sum-one len w a (suc n) t (b ∷ bs) low high one none count even bytes =
    let rest : List ℕ = weighted_sum len (map w (range_with_len (a + 1) n)) bs in
    elim (cases_eq a t) [
      | inl here ↦
          let at : t - a ≡ 0 = omega arith in
          let left : rest ≡ replicate len 0 =
          weighted_sum-zeros len w (range_with_len (a + 1) n) bs (range_each (λ j. w j ≡ 0) (a + 1) n (λ j low high. none j (omega arith) (omega arith) (λ e. omega arith))) even.1 bytes.1 in
          ap (λ c. sums (scaled c b) rest) (ap w here ∙ one)
          ∙ ap (sums (scaled 1 b)) left ∙ ap (λ xs. sums xs (replicate len 0)) (scaled-one b bytes.0) ∙ sums-zeros b len even.0
          ∙ ap (λ i. get_or (b ∷ bs) i []) (sym at)
      | inr apart ↦
          let at : t - a ≡ suc (t - (a + 1)) = omega arith in
          ap (λ c. sums (scaled c b) rest) (none a (omega arith) (omega arith) apart)
          ∙ ap (λ xs. sums xs rest) (scaled-zero b bytes.0 ∙ ap (λ n. replicate n 0) even.0)
          ∙ sums_comm (replicate len 0) rest
          ∙ sums-zeros rest len (length-weighted_sum len (map w (range_with_len (a + 1) n)) bs even.1)
          ∙ weighted_sum-one len w (a + 1) n t bs (omega arith) (omega arith) one (λ j low high. none j (omega arith) (omega arith)) (omega arith) even.1 bytes.1
          ∙ ap (λ i. get_or (b ∷ bs) i []) (sym at)
    ]

pub row-data : (d : List (List ℕ)) (t : ℕ) → IsData d → t < length d → slice_get d t ≡ Some (row d t)
row-data d t data_is h =
    let k = length d in
    let few : k ≤ 256 = data_is.few in
    let rows = range_with_len 0 k in
    let bytes : AreBytes rows = AreBytes-range 0 k (omega arith) in
    let st : t < 2 ^ 8 = omega arith in
    let same : t - 0 ≡ t = omega arith in
    slice_get-get_or d t [] h
    ∙ ap (λ i. Some (get_or d i [])) (sym same)
    ∙ ap Some (sym (
    weighted_sum-one (block_len d) (λ j. weight rows j t) 0 k t d (omega arith) (omega arith) (weight-self rows t bytes st) (λ j low high apart.
    weight-zero rows j t t bytes (omega arith) st (λ e. apart (sym e)) (omega (arith, length-range_with_len 0 k)) (get_or-range_with_len 0 k t 0 h ∙ omega arith)) refl
    (recursion_from_All (λ b. length b ≡ block_len d) d data_is.even) (recursion_from_All AreBytes d data_is.bytes)))
