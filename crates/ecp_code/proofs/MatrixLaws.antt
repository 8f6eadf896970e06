-- The matrix of the data weights of any distinct rows has an inverse, which takes the data weights of a row to its weights.
use Rattle.std.proofs.Common.{◌≡◌, ◌≢◌, ℕ, zero, suc, ◌+◌, ◌^◌, ◌<◌, ◌≤◌, nat_eq, List, [], ◌∷◌, length, get_or, refl, ap, sym, subst, ◌∙◌, inl, inr, arith}
use Rattle.std.specs.List.{range_with_len, IsDistinct, AllByRecursion}
use Rattle.std.proofs.lemmas.Bool.{cases_eq}
use Rattle.std.proofs.lemmas.List.FromFn.{get_or-range_with_len, length-range_with_len}
use Rattle.ecp_field.specs.Field.{byte_sum, byte_product}
use Rattle.ecp_field.specs.Lists.{AreBytes}
use Rattle.ecp_field.proofs.FieldLaws.{sum_comm, sum_assoc, product_assoc}
use Rattle.ecp_inverse.specs.Cells.{total, identity, matrix_product, AreByteCells}
use Rattle.ecp_inverse.specs.Matrix.{HasInverse}
use Rattle.ecp_inverse.proofs.Totals.{total-same, total-scaled, total-scaled_right, total-swap, identity-same, identity-other, total-identity_right}
use Rattle.ecp_code.specs.Weights.{weight}
use Rattle.ecp_code.proofs.DataLaws.{AreBytes-range, weight-self, weight-zero}
use Rattle.ecp_code.proofs.DecodeLaws.{Points-from_distinct, others-range}
use Rattle.ecp_code.proofs.Interpolation.{Points, interpolated-weight, others, others-same, others-other}
use Rattle.ecp_code.proofs.Interpolation as interpolation
use Rattle.ecp_code.proofs.WeightLaws.{weight-lt, range-distinct}

-- ---- totals

-- a total of several terms is the first and the total of the others
total-first : (n : ℕ) (f : ℕ → ℕ) → total (suc n) f ≡ byte_sum (f 0) (total n (λ i. f (suc i)))
unfolding total
total-first zero f = sum_comm 0 (f 0)
total-first (suc n) f =
    ap (λ x. byte_sum x (f (suc n))) (total-first n f) ∙ sum_assoc (f 0) (total n (λ i. f (suc i))) (f (suc n))

total-list : (f : ℕ → ℕ) (points : List ℕ) → interpolation.total f points ≡ total (length points) (λ i. f (get_or points i 0))
unfolding total
total-list f [] = refl
total-list f (s ∷ points) = ap (byte_sum (f s)) (total-list f points) ∙ sym (total-first (length points) (λ i. f (get_or (s ∷ points) i 0)))

-- a row times a matrix times a column, either way
total-triple : (k : ℕ) (a b : ℕ → ℕ) (g : ℕ → ℕ → ℕ) → ((i : ℕ) → i < k → a i < 2 ^ 8) → ((j : ℕ) → j < k → b j < 2 ^ 8) → ((i j : ℕ) → i < k → j < k → g i j < 2 ^ 8)
    → total k (λ j. byte_product (total k (λ i. byte_product (a i) (g i j))) (b j)) ≡ total k (λ i. byte_product (a i) (total k (λ j. byte_product (g i j) (b j))))
total-triple k a b g ba bb bg =
    let f = λ (j i : ℕ). byte_product (a i) (byte_product (g i j) (b j)) in
    total-same k (λ j. byte_product (total k (λ i. byte_product (a i) (g i j))) (b j)) (λ j. total k (f j)) (λ j hj.
    total-scaled_right k (b j) (λ i. byte_product (a i) (g i j)) (bb j hj)
    ∙ total-same k (λ i. byte_product (byte_product (a i) (g i j)) (b j)) (f j) (λ i hi. product_assoc (a i) (g i j) (b j) (ba i hi) (bg i j hi hj) (bb j hj)))
    ∙ total-swap k k f
    ∙ total-same k (λ i. total k (λ j. f j i)) (λ i. byte_product (a i) (total k (λ j. byte_product (g i j) (b j)))) (λ i hi.
    sym (total-scaled k (a i) (λ j. byte_product (g i j) (b j)) (ba i hi)))

-- ---- data weights

-- the data weights of any row are a sum of those of any distinct rows, each times its weight
data_weight : (rows : List ℕ) (t j : ℕ) → IsDistinct nat_eq rows → AreBytes rows → length rows ≤ 256 → t < 2 ^ 8 → j < length rows
    → total (length rows) (λ i. byte_product (weight rows (get_or rows i 0) t) (weight (range_with_len 0 (length rows)) j (get_or rows i 0))) ≡ weight (range_with_len 0 (length rows)) j t
data_weight rows t j distinct bytes few st h =
    let k = length rows in
    let data_rows = range_with_len 0 k in
    sym (total-list (λ s. byte_product (weight rows s t) (weight data_rows j s)) rows)
    ∙ interpolated-weight data_rows j t rows (AreBytes-range 0 k (omega arith)) (omega arith) st (Points-from_distinct rows distinct bytes) (omega (arith, others-range j 0 k (omega arith) (omega arith)))

-- the data weights of a data row are those of the identity
data_weight-identity : (k m j : ℕ) → k ≤ 256 → m < k → j < k → weight (range_with_len 0 k) j m ≡ identity m j
data_weight-identity k m j few hm hj =
    let rows = range_with_len 0 k in
    let bytes : AreBytes rows = AreBytes-range 0 k (omega arith) in
    elim (cases_eq m j) [
      | inl same ↦ subst (λ x. weight rows x m ≡ identity m x) same (weight-self rows m bytes (omega arith) ∙ sym (identity-same m))
      | inr apart ↦
          weight-zero rows j m m bytes (omega arith) (omega arith) apart (omega (arith, length-range_with_len 0 k)) (get_or-range_with_len 0 k m 0 hm ∙ omega arith)
          ∙ sym (identity-other m j apart)
    ]

-- ---- matrices with the same cells

pub matrix_product-same : (k : ℕ) (a a' b : ℕ → ℕ → ℕ) (i j : ℕ) → i < k → ((i j : ℕ) → i < k → j < k → a i j ≡ a' i j) → matrix_product k a b i j ≡ matrix_product k a' b i j
matrix_product-same k a a' b i j hi same =
    total-same k (λ l. byte_product (a i l) (b l j)) (λ l. byte_product (a' i l) (b l j)) (λ l hl. ap (λ x. byte_product x (b l j)) (same i l hi hl))

-- ---- the matrix of any distinct rows has an inverse: their weights for the data rows

each_at : (P : ℕ → Type 0) (xs : List ℕ) (i : ℕ) → AllByRecursion P xs → i < length xs → P (get_or xs i 0)
each_at P [] i holds h = absurd (omega arith)
each_at P (x ∷ xs) zero holds h = holds.0
each_at P (x ∷ xs) (suc i) holds h = each_at P xs i holds.1 (omega arith)

points-apart : (points : List ℕ) (i j : ℕ) → Points points → i < length points → j < length points → i ≢ j → get_or points i 0 ≢ get_or points j 0
points-apart [] i j p hi hj apart = absurd (omega arith)
points-apart (s ∷ points) zero zero p hi hj apart = absurd (apart refl)
points-apart (s ∷ points) zero (suc j) p hi hj apart = λ e. each_at (λ m. m ≢ s) points j p.1.0 (omega arith) (sym e)
points-apart (s ∷ points) (suc i) zero p hi hj apart = each_at (λ m. m ≢ s) points i p.1.0 (omega arith)
points-apart (s ∷ points) (suc i) (suc j) p hi hj apart = points-apart points i j p.1.1 (omega arith) (omega arith) (λ e. apart (ap suc e))

others-none : (j : ℕ) (points : List ℕ) → AllByRecursion (λ m. m ≢ j) points → others j points ≡ length points
others-none j [] apart = refl
others-none j (s ∷ points) apart = others-other j s points apart.0 ∙ ap suc (others-none j points apart.1)

others-point : (points : List ℕ) (i : ℕ) → Points points → i < length points → others (get_or points i 0) points + 1 ≡ length points
others-point [] i p h = absurd (omega arith)
others-point (s ∷ points) zero p h = omega (arith, others-same s s points refl, others-none s points p.1.0)
others-point (s ∷ points) (suc i) p h =
    let j = get_or points i 0 in
    let apart : s ≢ j = λ e. each_at (λ m. m ≢ s) points i p.1.0 (omega arith) (sym e) in
    omega (arith, others-other j s points apart, others-point points i p.1.1 (omega arith))

-- the weights of the rows for one of them are those of the identity
weight-identity : (rows : List ℕ) (i j : ℕ) → Points rows → AreBytes rows → i < length rows → j < length rows → weight rows (get_or rows j 0) (get_or rows i 0) ≡ identity i j
weight-identity rows i j p bytes hi hj =
    elim (cases_eq i j) [
      | inl same ↦ subst (λ n. weight rows (get_or rows n 0) (get_or rows i 0) ≡ identity i n) same (weight-self rows (get_or rows i 0) bytes (bytes i) ∙ sym (identity-same i))
      | inr apart ↦
          weight-zero rows (get_or rows j 0) (get_or rows i 0) i bytes (bytes j) (bytes i) (points-apart rows i j p hi hj apart) hi refl
          ∙ sym (identity-other i j apart)
    ]

-- the weight of a row for another, interpolated from its weights for the data rows
weight-by_data : (rows : List ℕ) (i j : ℕ) → Points rows → AreBytes rows → length rows ≤ 256 → j < length rows
    → total (length rows) (λ l. byte_product (weight (range_with_len 0 (length rows)) l (get_or rows i 0)) (weight rows (get_or rows j 0) l)) ≡ weight rows (get_or rows j 0) (get_or rows i 0)
weight-by_data rows i j p bytes few hj =
    let k = length rows in
    let data_rows = range_with_len 0 k in
    let data_bytes : AreBytes data_rows = AreBytes-range 0 k (omega arith) in
    let s = get_or rows i 0 in
    let f = weight rows (get_or rows j 0) in
    let count : length data_rows ≡ k = length-range_with_len 0 k in
    let term = λ (l : ℕ). byte_product (weight data_rows l s) (f l) in
    total-same k term (λ l. term (get_or data_rows l 0)) (λ l hl. ap term (sym (get_or-range_with_len 0 k l 0 hl ∙ omega arith)))
    ∙ ap (λ n. total n (λ l. term (get_or data_rows l 0))) (sym count)
    ∙ sym (total-list term data_rows)
    ∙ interpolated-weight rows (get_or rows j 0) s data_rows bytes (bytes j) (bytes i) (Points-from_distinct data_rows (range-distinct 0 k) data_bytes) (omega (arith, others-point rows j p hj))

pub has_inverse : (rows : List ℕ) (a : ℕ → ℕ → ℕ) → IsDistinct nat_eq rows → AreBytes rows → length rows ≤ 256
    → ((i j : ℕ) → i < length rows → j < length rows → a i j ≡ weight (range_with_len 0 (length rows)) j (get_or rows i 0)) → HasInverse (length rows) a
has_inverse rows a distinct bytes few cells =
    let k = length rows in
    let p = Points-from_distinct rows distinct bytes in
    let g = λ (i j : ℕ). weight (range_with_len 0 k) j (get_or rows i 0) in
    let b = λ (l i : ℕ). weight rows (get_or rows i 0) l in
    let are_bytes = λ (l i : ℕ) (hl : l < k) (hi : i < k). weight-lt rows (get_or rows i 0) l bytes (bytes i) (omega arith) in
    let right = λ (i j : ℕ) (hi : i < k) (hj : j < k).
    matrix_product-same k a g b i j hi cells
    ∙ weight-by_data rows i j p bytes few hj ∙ weight-identity rows i j p bytes hi hj in
    let left = λ (i j : ℕ) (hi : i < k) (hj : j < k).
    total-same k (λ l. byte_product (b i l) (a l j)) (λ l. byte_product (b i l) (g l j)) (λ l hl. ap (byte_product (b i l)) (cells l j hl hj))
    ∙ data_weight rows i j distinct bytes few (omega arith) hj ∙ data_weight-identity k i j few hi hj in
    (b, are_bytes, record { right = right; left = left })

-- ---- the weights by the inverse

pub weight-inverse : (rows : List ℕ) (t i : ℕ) (v : ℕ → ℕ) (inverse : ℕ → ℕ → ℕ) → IsDistinct nat_eq rows → AreBytes rows → length rows ≤ 16 → t < 2 ^ 8 → i < length rows
    → ((j : ℕ) → j < length rows → v j ≡ weight (range_with_len 0 (length rows)) j t) → AreByteCells inverse
    → ((i j : ℕ) → i < length rows → j < length rows → matrix_product (length rows) (λ i j. weight (range_with_len 0 (length rows)) j (get_or rows i 0)) inverse i j ≡ identity i j)
    → total (length rows) (λ j. byte_product (v j) (inverse j i)) ≡ weight rows (get_or rows i 0) t
weight-inverse rows t i v inverse distinct bytes few st hi data_weights inverse_bytes product =
    let k = length rows in
    let data_rows = range_with_len 0 k in
    let data_bytes : AreBytes data_rows = AreBytes-range 0 k (omega arith) in
    let g = λ (l j : ℕ). weight data_rows j (get_or rows l 0) in
    let w = λ (l : ℕ). weight rows (get_or rows l 0) t in
    let b = λ (j : ℕ). inverse j i in
    let w_byte = λ (l : ℕ) (h : l < k). weight-lt rows (get_or rows l 0) t bytes (bytes l) st in
    let b_byte = λ (j : ℕ) (h : j < k). inverse_bytes j i (omega arith) in
    let g_byte = λ (l j : ℕ) (hl : l < k) (hj : j < k). weight-lt data_rows j (get_or rows l 0) data_bytes (omega arith) (bytes l) in
    total-same k (λ j. byte_product (v j) (b j)) (λ j. byte_product (total k (λ l. byte_product (w l) (g l j))) (b j)) (λ j hj.
    ap (λ x. byte_product x (b j)) (data_weights j hj ∙ sym (data_weight rows t j distinct bytes (omega arith) st hj)))
    ∙ total-triple k w b g w_byte b_byte g_byte
    ∙ total-same k (λ l. byte_product (w l) (total k (λ j. byte_product (g l j) (b j)))) (λ l. byte_product (w l) (identity l i)) (λ l hl.
    ap (byte_product (w l)) (product l i hl hi))
    ∙ total-identity_right k i w hi w_byte
