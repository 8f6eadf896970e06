-- Any k distinct rows give every row.
use Rattle.std.proofs.Common.{◌≡◌, ◌≢◌, ℕ, zero, suc, ◌+◌, ◌^◌, ◌<◌, ◌≤◌, true, false, eqb, nat_eq, List, [], ◌∷◌, length, replicate, map, refl, ap, sym, ◌∙◌, inl, inr, arith, eq-eqb}
use Rattle.std.specs.List.{range_with_len, AllByRecursion, IsDistinct}
use Rattle.std.proofs.lemmas.Bool.{cases_eq}
use Rattle.std.proofs.lemmas.List.{length-replicate}
use Rattle.std.proofs.lemmas.List.Elements.{recursion_from_All}
use Rattle.ecp_field.specs.Field.{byte_sum, byte_product}
use Rattle.ecp_field.specs.Lists.{sums, scaled, AreBytes}
use Rattle.ecp_field.proofs.ListLaws.{sums_comm, sums_assoc, sums-zeros, scaled-sums, scaled-sum, scaled-scaled}
use Rattle.ecp_code.specs.Weights.{weight, weights}
use Rattle.ecp_code.specs.Rows.{weighted_sum, block_len, row, IsData}
use Rattle.ecp_code.proofs.DataLaws.{range_each, AreBytes-range, weighted_sum-zeros}
use Rattle.ecp_code.proofs.Interpolation.{Points, total, interpolated, interpolated-weight, others, others-same, others-other, every_point}
use Rattle.ecp_code.proofs.RowLaws.{scaled-zeros}
use Rattle.ecp_code.proofs.WeightLaws.{weight-lt}

-- ---- sums of weighted sums of the same blocks

each : (P : ℕ → Type 0) (js : List ℕ) → ((j : ℕ) → P j) → AllByRecursion P js
each P [] holds = tt
each P (j ∷ js) holds = (holds j, each P js holds)

sums_interchange : (a b c d : List ℕ) → sums (sums a b) (sums c d) ≡ sums (sums a c) (sums b d)
sums_interchange a b c d =
    sums_assoc a b (sums c d)
    ∙ ap (sums a) (sym (sums_assoc b c d) ∙ ap (λ x. sums x d) (sums_comm b c) ∙ sums_assoc c b d)
    ∙ sym (sums_assoc a c (sums b d))

scaled-weighted_sum : (len c : ℕ) (p : ℕ → ℕ) (js : List ℕ) (bs : List (List ℕ)) → c < 2 ^ 8 → AllByRecursion (λ j. p j < 2 ^ 8) js → AllByRecursion AreBytes bs
    → scaled c (weighted_sum len (map p js) bs) ≡ weighted_sum len (map (λ j. byte_product c (p j)) js) bs
scaled-weighted_sum len c p [] bs small weigh bytes = scaled-zeros c len small
scaled-weighted_sum len c p (j ∷ js) [] small weigh bytes = scaled-zeros c len small
scaled-weighted_sum len c p (j ∷ js) (b ∷ bs) small weigh bytes =
    scaled-sums c (scaled (p j) b) (weighted_sum len (map p js) bs)
    ∙ ap (λ x. sums x (scaled c (weighted_sum len (map p js) bs))) (scaled-scaled c (p j) b small weigh.0 bytes.0)
    ∙ ap (sums (scaled (byte_product c (p j)) b)) (scaled-weighted_sum len c p js bs small weigh.1 bytes.1)

sums-weighted_sum : (len : ℕ) (p q : ℕ → ℕ) (js : List ℕ) (bs : List (List ℕ))
    → sums (weighted_sum len (map p js) bs) (weighted_sum len (map q js) bs) ≡ weighted_sum len (map (λ j. byte_sum (p j) (q j)) js) bs
sums-weighted_sum len p q [] bs = sums-zeros (replicate len 0) len (length-replicate len 0)
sums-weighted_sum len p q (j ∷ js) [] = sums-zeros (replicate len 0) len (length-replicate len 0)
sums-weighted_sum len p q (j ∷ js) (b ∷ bs) =
    sums_interchange (scaled (p j) b) (weighted_sum len (map p js) bs) (scaled (q j) b) (weighted_sum len (map q js) bs)
    ∙ ap (λ x. sums x (sums (weighted_sum len (map p js) bs) (weighted_sum len (map q js) bs))) (sym (scaled-sum (p j) (q j) b))
    ∙ ap (sums (scaled (byte_sum (p j) (q j)) b)) (sums-weighted_sum len p q js bs)

-- weights of weighted sums are weights of the blocks
weighted_sum-nested : (len : ℕ) (w : ℕ → ℕ) (g : ℕ → ℕ → ℕ) (points js : List ℕ) (bs : List (List ℕ))
    → AllByRecursion (λ s. (w s < 2 ^ 8) × AllByRecursion (λ j. g j s < 2 ^ 8) js) points → AllByRecursion (λ b. length b ≡ len) bs → AllByRecursion AreBytes bs
    → weighted_sum len (map w points) (map (λ s. weighted_sum len (map (λ j. g j s) js) bs) points) ≡ weighted_sum len (map (λ j. total (λ s. byte_product (w s) (g j s)) points) js) bs
weighted_sum-nested len w g [] js bs weigh even bytes = sym (weighted_sum-zeros len (λ _. 0) js bs (each (λ _. 0 ≡ 0) js (λ _. refl)) even bytes)
weighted_sum-nested len w g (s ∷ points) js bs weigh even bytes =
    let p = λ (j : ℕ). byte_product (w s) (g j s) in
    let q = λ (j : ℕ). total (λ s. byte_product (w s) (g j s)) points in
    ap (λ x. sums x (weighted_sum len (map w points) (map (λ s. weighted_sum len (map (λ j. g j s) js) bs) points))) (scaled-weighted_sum len (w s) (λ j. g j s) js bs weigh.0.0 weigh.0.1 bytes)
    ∙ ap (sums (weighted_sum len (map p js) bs)) (weighted_sum-nested len w g points js bs weigh.1 even bytes)
    ∙ sums-weighted_sum len p q js bs

-- ---- the points that rows stand at

pub Points-from_distinct : (rows : List ℕ) → IsDistinct nat_eq rows → AreBytes rows → Points rows
unfolding IsDistinct
Points-from_distinct [] distinct bytes = tt
Points-from_distinct (s ∷ rows) distinct bytes = (bytes 0, (apart s rows distinct.0, Points-from_distinct rows distinct.1 (λ k. bytes (suc k))))
  where
    apart : (s : ℕ) (rows : List ℕ) → AllByRecursion (λ y. eqb s y ≡ false) rows → AllByRecursion (λ m. m ≢ s) rows
    apart s [] d = tt
    apart s (m ∷ rows) d = ((λ e. let same : eqb s m ≡ true = eq-eqb s m (sym e) in let differs = d.0 in cc), apart s rows d.1)

-- of k rows one after another, k - 1 are other than one of them
others-above : (j a n : ℕ) → j < a → others j (range_with_len a n) ≡ n
others-above j a zero h = refl
others-above j a (suc n) h = others-other j a (range_with_len (a + 1) n) (λ e. omega arith) ∙ ap suc (others-above j (a + 1) n (omega arith))

pub others-range : (j a n : ℕ) → a ≤ j → j < a + n → others j (range_with_len a n) + 1 ≡ n
others-range j a zero low high = absurd (omega arith)
others-range j a (suc n) low high =
    elim (cases_eq a j) [
      | inl here ↦ omega (arith, others-same j a (range_with_len (a + 1) n) here, others-above j (a + 1) n (omega arith))
      | inr apart ↦ omega (arith, others-other j a (range_with_len (a + 1) n) apart, others-range j (a + 1) n (omega arith) (omega arith))
    ]

map-same : (p q : ℕ → ℕ) (js : List ℕ) → AllByRecursion (λ j. p j ≡ q j) js → map p js ≡ map q js
map-same p q [] same = refl
map-same p q (j ∷ js) same = ap (λ x. x ∷ map p js) same.0 ∙ ap (λ xs. q j ∷ xs) (map-same p q js same.1)

-- ---- the law

pub row-decoded : (d : List (List ℕ)) (rows : List ℕ) (t : ℕ) → IsData d → length rows ≡ length d → IsDistinct nat_eq rows → AreBytes rows → t < 2 ^ 8
    → row d t ≡ weighted_sum (block_len d) (weights rows t) (map (row d) rows)
row-decoded d rows t data_is count distinct bytes st =
    let k = length d in
    let len = block_len d in
    let few : k ≤ 256 = data_is.few in
    let data_rows = range_with_len 0 k in
    let data_bytes : AreBytes data_rows = AreBytes-range 0 k (omega arith) in
    let points = Points-from_distinct rows distinct bytes in
    let even = recursion_from_All (λ b. length b ≡ len) d data_is.even in
    let are_bytes = recursion_from_All AreBytes d data_is.bytes in
    let w = λ (s : ℕ). weight rows s t in
    let g = weight data_rows in
    let weigh = every_point (λ s. (w s < 2 ^ 8) × AllByRecursion (λ j. g j s < 2 ^ 8) data_rows) rows points (λ s ss.
    (weight-lt rows s t bytes ss st, range_each (λ j. g j s < 2 ^ 8) 0 k (λ j low high. weight-lt data_rows j s data_bytes (omega arith) ss))) in
    let same = map-same (λ j. interpolated rows (g j) t) (λ j. g j t) data_rows (range_each (λ j. interpolated rows (g j) t ≡ g j t) 0 k (λ j low high.
    interpolated-weight data_rows j t rows data_bytes (omega arith) st points (omega (arith, others-range j 0 k low high)))) in
    sym (weighted_sum-nested len w g rows data_rows d weigh even are_bytes ∙ ap (λ us. weighted_sum len us d) same)
