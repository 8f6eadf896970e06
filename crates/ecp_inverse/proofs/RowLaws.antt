-- What operations on rows do to cells and to solutions.
use Rattle.std.proofs.Common.{◌≡◌, ◌≢◌, ℕ, ◌^◌, ◌<◌, ◌≤◌, List, ap, sym, ◌∙◌, inl, inr, arith}
use Rattle.std.proofs.lemmas.Bool.{cases_eq}
use Rattle.ecp_field.specs.Field.{byte_sum, byte_product}
use Rattle.ecp_field.proofs.FieldLaws.{sum-lt, sum-zero_right, product-lt, product-sum_left, product-zero_right, product_assoc, product_comm, product_cancel}
use Rattle.ecp_field.proofs.Exclusive.{xor_twice}
use Rattle.ecp_inverse.specs.Cells.{entry, total, AreByteCells}
use Rattle.ecp_inverse.specs.Rows.{AddsMultiple, Scales, row_product, SameSolutions, IsReduced}
use Rattle.ecp_inverse.proofs.Totals.{total-same, total-sum, total-scaled, total-byte, identity-other}

pub AreByteCells-added : (old new : List (List ℕ)) (target c source : ℕ) → c < 2 ^ 8 → AreByteCells (entry old) → AddsMultiple old new target c source → AreByteCells (entry new)
AreByteCells-added old new target c source small bytes step i j lt =
    elim (cases_eq i target) [
      | inl same ↦ rw same (
          let is = step.target_row j lt in
          let byte = sum-lt (entry old target j) (byte_product c (entry old source j)) (bytes target j lt) (product-lt c (entry old source j) small (bytes source j lt)) in
          omega (arith, is, byte))
      | inr other ↦ omega (arith, step.other_rows i j other, bytes i j lt)
    ]

pub AreByteCells-scaled : (old new : List (List ℕ)) (row c : ℕ) → c < 2 ^ 8 → AreByteCells (entry old) → Scales old new row c → AreByteCells (entry new)
AreByteCells-scaled old new row c small bytes step i j lt =
    elim (cases_eq i row) [
      | inl same ↦ rw same (omega (arith, step.scaled_row j lt, product-lt c (entry old row j) small (bytes row j lt)))
      | inr other ↦ omega (arith, step.other_rows i j other, bytes i j lt)
    ]

-- ---- products of a row with bytes

other_product : (n : ℕ) (old new : List (List ℕ)) (i : ℕ) (y : ℕ → ℕ) → ((j : ℕ) → entry new i j ≡ entry old i j) → row_product n new i y ≡ row_product n old i y
other_product n old new i y same =
    total-same n (λ k. byte_product (entry new i k) (y k)) (λ k. byte_product (entry old i k) (y k)) (λ k lt. ap (λ x. byte_product x (y k)) (same k))

scaled_product : (n : ℕ) (old : List (List ℕ)) (i c : ℕ) (y : ℕ → ℕ) → n ≤ 16 → c < 2 ^ 8 → AreByteCells (entry old) → ((k : ℕ) → y k < 2 ^ 8)
    → total n (λ k. byte_product (byte_product c (entry old i k)) (y k)) ≡ byte_product c (row_product n old i y)
scaled_product n old i c y few small bytes b =
    total-same n (λ k. byte_product (byte_product c (entry old i k)) (y k)) (λ k. byte_product c (byte_product (entry old i k) (y k)))
    (λ k lt. product_assoc c (entry old i k) (y k) small (bytes i k (omega arith)) (b k))
    ∙ sym (total-scaled n c (λ k. byte_product (entry old i k) (y k)) small)

added_product : (n : ℕ) (old new : List (List ℕ)) (target c source : ℕ) (y : ℕ → ℕ) → n ≤ 16 → c < 2 ^ 8 → AreByteCells (entry old) → ((k : ℕ) → y k < 2 ^ 8)
    → AddsMultiple old new target c source → row_product n new target y ≡ byte_sum (row_product n old target y) (byte_product c (row_product n old source y))
added_product n old new target c source y few small bytes b step =
    let u = λ (k : ℕ). byte_product (entry old target k) (y k) in
    let v = λ (k : ℕ). byte_product (byte_product c (entry old source k)) (y k) in
    total-same n (λ k. byte_product (entry new target k) (y k)) (λ k. byte_sum (u k) (v k))
    (λ k lt. ap (λ x. byte_product x (y k)) (step.target_row k (omega arith)) ∙ product-sum_left (entry old target k) (byte_product c (entry old source k)) (y k))
    ∙ total-sum n u v
    ∙ ap (byte_sum (total n u)) (scaled_product n old source c y few small bytes b)

multiplied_product : (n : ℕ) (old new : List (List ℕ)) (row c : ℕ) (y : ℕ → ℕ) → n ≤ 16 → c < 2 ^ 8 → AreByteCells (entry old) → ((k : ℕ) → y k < 2 ^ 8)
    → Scales old new row c → row_product n new row y ≡ byte_product c (row_product n old row y)
multiplied_product n old new row c y few small bytes b step =
    total-same n (λ k. byte_product (entry new row k) (y k)) (λ k. byte_product (byte_product c (entry old row k)) (y k))
    (λ k lt. ap (λ x. byte_product x (y k)) (step.scaled_row k (omega arith)))
    ∙ scaled_product n old row c y few small bytes b

-- ---- solutions

pub SameSolutions-none : (n : ℕ) (left right : List (List ℕ)) → SameSolutions n left right left right
SameSolutions-none n left right = record { kept = λ y z a b h. h; back = λ y z a b h. h }

pub SameSolutions-then : (n : ℕ) (l r l' r' l'' r'' : List (List ℕ)) → SameSolutions n l r l' r' → SameSolutions n l' r' l'' r'' → SameSolutions n l r l'' r''
SameSolutions-then n l r l' r' l'' r'' one two =
    record { kept = λ y z a b h. two.kept y z a b (one.kept y z a b h); back = λ y z a b h. one.back y z a b (two.back y z a b h) }

pub SameSolutions-added : (n : ℕ) (l r l' r' : List (List ℕ)) (target c source : ℕ) → n ≤ 16 → c < 2 ^ 8 → source < n → target ≢ source
    → AreByteCells (entry l) → AreByteCells (entry r) → AddsMultiple l l' target c source → AddsMultiple r r' target c source → SameSolutions n l r l' r'
SameSolutions-added n l r l' r' target c source few small within apart bl br sl sr = record {
  kept = λ y z a b h i lt. elim (cases_eq i target) [
    | inl same ↦ rw same (
        added_product n l l' target c source y few small bl a sl
        ∙ ap (λ x. byte_sum x (byte_product c (row_product n l source y))) (h target (omega arith))
        ∙ ap (λ x. byte_sum (row_product n r target z) (byte_product c x)) (h source within)
        ∙ sym (added_product n r r' target c source z few small br b sr))
    | inr other ↦
        other_product n l l' i y (λ j. sl.other_rows i j other) ∙ h i lt ∙ sym (other_product n r r' i z (λ j. sr.other_rows i j other))
  ];
  back = λ y z a b h i lt.
      let left_source = other_product n l l' source y (λ j. sl.other_rows source j (λ e. apart (sym e))) in
      let right_source = other_product n r r' source z (λ j. sr.other_rows source j (λ e. apart (sym e))) in
      let at_source : row_product n l source y ≡ row_product n r source z = sym left_source ∙ h source within ∙ right_source in
      elim (cases_eq i target) [
        | inl same ↦ rw same (
            let term = byte_product c (row_product n r source z) in
            let sums : byte_sum (row_product n l target y) term ≡ byte_sum (row_product n r target z) term =
            ap (λ x. byte_sum (row_product n l target y) (byte_product c x)) (sym at_source)
            ∙ sym (added_product n l l' target c source y few small bl a sl)
            ∙ h target (omega arith)
            ∙ added_product n r r' target c source z few small br b sr in
            sym (xor_twice (row_product n l target y) term) ∙ ap (λ x. byte_sum x term) sums ∙ xor_twice (row_product n r target z) term)
        | inr other ↦
            sym (other_product n l l' i y (λ j. sl.other_rows i j other)) ∙ h i lt ∙ other_product n r r' i z (λ j. sr.other_rows i j other)
      ];
}

row_product-byte : (n : ℕ) (rows : List (List ℕ)) (i : ℕ) (y : ℕ → ℕ) → n ≤ 16 → AreByteCells (entry rows) → ((k : ℕ) → y k < 2 ^ 8) → row_product n rows i y < 2 ^ 8
row_product-byte n rows i y few bytes b =
    total-byte n (λ k. byte_product (entry rows i k) (y k)) (λ k lt. product-lt (entry rows i k) (y k) (bytes i k (omega arith)) (b k))

pub SameSolutions-scaled : (n : ℕ) (l r l' r' : List (List ℕ)) (row c : ℕ) → n ≤ 16 → c < 2 ^ 8 → c ≢ 0
    → AreByteCells (entry l) → AreByteCells (entry r) → Scales l l' row c → Scales r r' row c → SameSolutions n l r l' r'
SameSolutions-scaled n l r l' r' row c few small nonzero bl br sl sr = record {
  kept = λ y z a b h i lt. elim (cases_eq i row) [
    | inl same ↦ rw same (
        multiplied_product n l l' row c y few small bl a sl ∙ ap (byte_product c) (h row (omega arith)) ∙ sym (multiplied_product n r r' row c z few small br b sr))
    | inr other ↦
        other_product n l l' i y (λ j. sl.other_rows i j other) ∙ h i lt ∙ sym (other_product n r r' i z (λ j. sr.other_rows i j other))
  ];
  back = λ y z a b h i lt. elim (cases_eq i row) [
    | inl same ↦ rw same (
        let p = row_product n l row y in
        let q = row_product n r row z in
        let pb = row_product-byte n l row y few bl a in
        let qb = row_product-byte n r row z few br b in
        let products : byte_product c p ≡ byte_product c q =
        sym (multiplied_product n l l' row c y few small bl a sl) ∙ h row (omega arith) ∙ multiplied_product n r r' row c z few small br b sr in
        product_cancel p q c pb qb small nonzero (product_comm p c pb small ∙ products ∙ product_comm c q small qb))
    | inr other ↦
        sym (other_product n l l' i y (λ j. sl.other_rows i j other)) ∙ h i lt ∙ other_product n r r' i z (λ j. sr.other_rows i j other)
  ];
}

-- ---- the columns that are done

-- a multiple of a row whose cell in a column is 0 changes nothing there
pub added_nothing : (old new : List (List ℕ)) (target c source i j : ℕ) → j < 16 → c < 2 ^ 8 → AddsMultiple old new target c source → entry old source j ≡ 0 → entry new i j ≡ entry old i j
added_nothing old new target c source i j lt small step none =
    elim (cases_eq i target) [
      | inl same ↦ rw same (
          step.target_row j lt ∙ ap (λ x. byte_sum (entry old target j) (byte_product c x)) none
          ∙ ap (byte_sum (entry old target j)) (product-zero_right c small) ∙ sum-zero_right (entry old target j))
      | inr other ↦ step.other_rows i j other
    ]

pub IsReduced-added : (n k : ℕ) (old new : List (List ℕ)) (target c source : ℕ) → n ≤ 16 → c < 2 ^ 8 → k ≤ source → source < n → AddsMultiple old new target c source
    → IsReduced n k old → IsReduced n k new
IsReduced-added n k old new target c source few small later within step h i j li lj =
    added_nothing old new target c source i j (omega arith) small step (h source j within lj ∙ identity-other source j (λ e. omega arith)) ∙ h i j li lj

pub IsReduced-scaled : (n k : ℕ) (old new : List (List ℕ)) (row c : ℕ) → n ≤ 16 → c < 2 ^ 8 → k ≤ row → row < n → Scales old new row c → IsReduced n k old → IsReduced n k new
IsReduced-scaled n k old new row c few small later within step h i j li lj =
    elim (cases_eq i row) [
      | inl same ↦ rw same (
          let none : entry old row j ≡ 0 = h row j within lj ∙ identity-other row j (λ e. omega arith) in
          step.scaled_row j (omega arith) ∙ ap (byte_product c) none ∙ product-zero_right c small ∙ sym (identity-other row j (λ e. omega arith)))
      | inr other ↦ step.other_rows i j other ∙ h i j li lj
    ]
