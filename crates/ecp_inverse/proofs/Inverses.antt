-- What the end of an elimination says of the matrix that it began with.
use Rattle.std.proofs.Common.{◌≡◌, ℕ, ◌^◌, ◌<◌, ◌≤◌, List, get_or, ap, sym, ◌∙◌, inl, inr, arith}
use Rattle.std.proofs.lemmas.Bool.{cases_eq, cases_lt, cases_order}
use Rattle.ecp_field.specs.Field.{byte_sum, byte_product}
use Rattle.ecp_field.proofs.FieldLaws.{product-zero_left, product-zero_right, product-one_left, product-one_right, product_assoc, sum-self, sum-zero_left, sum-zero_right}
use Rattle.ecp_inverse.specs.Cells.{entry, total, identity, AreByteCells}
use Rattle.ecp_inverse.specs.Matrix.{AreInverse, HasInverse, IsKernelColumn}
use Rattle.ecp_inverse.specs.Rows.{row_product, Solves, SameSolutions, IsReduced}
use Rattle.ecp_inverse.proofs.Totals.{total-same, total-sum, total-zero, total-scaled, total-scaled_right, total-swap, identity-same, identity-other, identity-byte, total-identity_left, total-identity_right}

-- the system of a matrix m: the right rows are the identity's
abbrev pub AreUnitRows : List (List ℕ) → Type 0
AreUnitRows rows = (i j : ℕ) → i < 16 → j < 16 → entry rows i j ≡ identity i j

unit_product : (n : ℕ) (rows : List (List ℕ)) (i : ℕ) (z : ℕ → ℕ) → n ≤ 16 → i < n → ((j : ℕ) → j < n → entry rows i j ≡ identity i j) → ((k : ℕ) → z k < 2 ^ 8) → row_product n rows i z ≡ z i
unit_product n rows i z few lt unit b =
    total-same n (λ k. byte_product (entry rows i k) (z k)) (λ k. byte_product (identity i k) (z k)) (λ k less. ap (λ x. byte_product x (z k)) (unit k less))
    ∙ total-identity_left n i z lt b

-- with the left rows brought to the identity's, the right ones are the inverse
pub inverse_of : (n : ℕ) (m unit left right : List (List ℕ)) → n ≤ 16 → AreByteCells (entry m) → AreByteCells (entry right) → AreUnitRows unit
    → SameSolutions n m unit left right → IsReduced n n left → AreInverse n (entry m) (entry right)
inverse_of n m unit left right few bm br units same reduced = record {
  right = λ i j li lj.
      let y = λ (k : ℕ). entry right k j in
      let z = λ (k : ℕ). identity k j in
      let a = λ (k : ℕ). br k j (omega arith) in
      let b = λ (k : ℕ). identity-byte k j in
      let end : Solves n left right y z = λ r lr.
      unit_product n left r y few lr (λ k lk. reduced r k lr lk) a
      ∙ sym (total-identity_right n j (λ k. entry right r k) lj (λ k lk. br r k (omega arith))) in
      same.back y z a b end i li ∙ unit_product n unit i z few li (λ k lk. units i k (omega arith) (omega arith)) b;
  left = λ i j li lj.
      let y = λ (k : ℕ). identity k j in
      let z = λ (k : ℕ). entry m k j in
      let a = λ (k : ℕ). identity-byte k j in
      let b = λ (k : ℕ). bm k j (omega arith) in
      let start : Solves n m unit y z = λ r lr.
      total-identity_right n j (λ k. entry m r k) lj (λ k lk. bm r k (omega arith))
      ∙ sym (unit_product n unit r z few lr (λ k lk. units r k (omega arith) (omega arith)) b) in
      sym (same.kept y z a b start i li) ∙ unit_product n left i y few li (λ k lk. reduced i k li lk) a;
}

-- what the elimination leaves in a column without a pivot
pub record IsRead (col : ℕ) (left : List (List ℕ)) (column : List ℕ) : Type 0 where
  pub before : (i : ℕ) → i < col → get_or column i 0 ≡ entry left i col
  pub one : get_or column col 0 ≡ 1
  pub past : (i : ℕ) → col < i → get_or column i 0 ≡ 0

pub read_bytes : (col : ℕ) (left : List (List ℕ)) (column : List ℕ) → col < 16 → AreByteCells (entry left) → IsRead col left column → (k : ℕ) → get_or column k 0 < 2 ^ 8
read_bytes col left column lt bytes read k =
    elim (cases_order k col) [
      | inl at ↦ rw at (omega (arith, read.one))
      | inr aside ↦ elim aside [
        | inl before ↦ omega (arith, read.before k before, bytes k col lt)
        | inr after ↦ omega (arith, read.past k after)
      ]
    ]

module _ (n : ℕ) (left : List (List ℕ)) (col : ℕ) (column : List ℕ) (few : n ≤ 16) (within : col < n) (bytes : AreByteCells (entry left)) (reduced : IsReduced n col left)
    (read : IsRead col left column) (b : (k : ℕ) → get_or column k 0 < 2 ^ 8) where
  pick : (i k : ℕ) → i < col → byte_product (identity i k) (get_or column k 0) ≡ byte_product (identity i k) (entry left i col)
  pick i k above =
      let w = entry left i col in
      elim (cases_eq i k) [
        | inl e ↦ ap (byte_product (identity i k)) (ap (λ m. get_or column m 0) (sym e) ∙ read.before i above)
        | inr ne ↦
            ap (λ x. byte_product x (get_or column k 0)) (identity-other i k ne) ∙ product-zero_left (get_or column k 0) (b k)
            ∙ sym (ap (λ x. byte_product x w) (identity-other i k ne) ∙ product-zero_left w (bytes i col (omega arith)))
      ]

  -- above the column's row: the byte there comes twice
  pair : (i k : ℕ) → i < col → k < n → byte_product (entry left i k) (get_or column k 0)
      ≡ byte_sum (byte_product (identity i k) (entry left i col)) (byte_product (identity col k) (entry left i col))
  pair i k above lk =
      let w = entry left i col in
      let wb : w < 2 ^ 8 = bytes i col (omega arith) in
      let y = get_or column k 0 in
      elim (cases_order k col) [
        | inl at ↦ rw at (
            ap (byte_product w) read.one ∙ product-one_right w wb
            ∙ sym (ap (λ x. byte_sum (byte_product x w) (byte_product (identity col col) w)) (identity-other i col (λ e. omega arith))
            ∙ ap (λ x. byte_sum (byte_product 0 w) (byte_product x w)) (identity-same col)
            ∙ ap (λ x. byte_sum x (byte_product 1 w)) (product-zero_left w wb)
            ∙ sum-zero_left (byte_product 1 w) ∙ product-one_left w wb))
        | inr aside ↦ elim aside [
          | inl before ↦
              ap (λ x. byte_product x y) (reduced i k (omega arith) before)
              ∙ pick i k above
              ∙ sym (ap (λ x. byte_sum (byte_product (identity i k) w) (byte_product x w)) (identity-other col k (λ e. omega arith))
              ∙ ap (byte_sum (byte_product (identity i k) w)) (product-zero_left w wb)
              ∙ sum-zero_right (byte_product (identity i k) w))
          | inr after ↦
              ap (byte_product (entry left i k)) (read.past k after) ∙ product-zero_right (entry left i k) (bytes i k (omega arith))
              ∙ sym (ap (λ x. byte_sum (byte_product x w) (byte_product (identity col k) w)) (identity-other i k (λ e. omega arith))
              ∙ ap (λ x. byte_sum (byte_product 0 w) (byte_product x w)) (identity-other col k (λ e. omega arith))
              ∙ ap (λ x. byte_sum x x) (product-zero_left w wb) ∙ sum-self 0)
        ]
      ]

  above_is_zero : (i : ℕ) → i < col → row_product n left i (λ k. get_or column k 0) ≡ 0
  above_is_zero i above =
      let w = entry left i col in
      let wb : w < 2 ^ 8 = bytes i col (omega arith) in
      let one = λ (k : ℕ). byte_product (identity i k) w in
      let two = λ (k : ℕ). byte_product (identity col k) w in
      total-same n (λ k. byte_product (entry left i k) (get_or column k 0)) (λ k. byte_sum (one k) (two k)) (λ k lk. pair i k above lk)
      ∙ total-sum n one two
      ∙ ap (λ x. byte_sum x (total n two)) (total-identity_left n i (λ k. w) (omega arith) (λ k. wb))
      ∙ ap (byte_sum w) (total-identity_left n col (λ k. w) within (λ k. wb))
      ∙ sum-self w

  below_is_zero : (i : ℕ) → col ≤ i → i < n → ((r : ℕ) → col ≤ r → r < n → entry left r col ≡ 0) → row_product n left i (λ k. get_or column k 0) ≡ 0
  below_is_zero i later li none =
      total-zero n (λ k. byte_product (entry left i k) (get_or column k 0)) (λ k lk. elim (cases_order k col) [
        | inl at ↦ rw at (ap (λ x. byte_product x (get_or column col 0)) (none i later li) ∙ product-zero_left (get_or column col 0) (b col))
        | inr aside ↦ elim aside [
          | inl before ↦
              ap (λ x. byte_product x (get_or column k 0)) (reduced i k li before ∙ identity-other i k (λ e. omega arith))
              ∙ product-zero_left (get_or column k 0) (b k)
          | inr after ↦ ap (byte_product (entry left i k)) (read.past k after) ∙ product-zero_right (entry left i k) (bytes i k (omega arith))
        ]
      ])

  -- a column without a pivot shows a column that the matrix takes to zero
  pub kernel_of : (m unit right : List (List ℕ)) → AreByteCells (entry right) → AreUnitRows unit → SameSolutions n m unit left right
      → ((r : ℕ) → col ≤ r → r < n → entry left r col ≡ 0) → IsKernelColumn n (entry m) column
  kernel_of m unit right br units same none =
      let y = λ (k : ℕ). get_or column k 0 in
      let z : ℕ → ℕ = λ k. 0 in
      let small : (k : ℕ) → z k < 2 ^ 8 = λ k. omega arith in
      let end : Solves n left right y z = λ i li.
      elim (cases_lt i col) [ inl above ↦ above_is_zero i above | inr later ↦ below_is_zero i later li none ]
      ∙ sym (total-zero n (λ k. byte_product (entry right i k) 0) (λ k lk. product-zero_right (entry right i k) (br i k (omega arith)))) in
      record {
        within = (col, within, (λ e. omega (arith, read.one)));
        past = λ k later. read.past k (omega arith);
        product = λ i li. same.back y z b small end i li ∙ unit_product n unit i z few li (λ k lk. units i k (omega arith) (omega arith)) small;
      }

-- a matrix that takes such a column to zero has no inverse
pub kernel_column-no_inverse : (n : ℕ) (a : ℕ → ℕ → ℕ) (column : List ℕ) → n ≤ 16 → AreByteCells a → ((k : ℕ) → get_or column k 0 < 2 ^ 8)
    → IsKernelColumn n a column → HasInverse n a → ⊥
kernel_column-no_inverse n a column few ba bx kernel has =
    let b = has.0 in
    let bb = has.1 in
    let inverse = has.2 in
    let k = kernel.within.0 in
    let lk = kernel.within.1 in
    let x = λ (l : ℕ). get_or column l 0 in
    let term = λ (l : ℕ) (t : ℕ). byte_product (byte_product (b k t) (a t l)) (x l) in
    let zero : x k ≡ 0 =
    sym (total-identity_left n k x lk bx)
    ∙ total-same n (λ l. byte_product (identity k l) (x l)) (λ l. total n (term l)) (λ l ll.
    ap (λ u. byte_product u (x l)) (sym (inverse.left k l lk ll)) ∙ total-scaled_right n (x l) (λ t. byte_product (b k t) (a t l)) (bx l))
    ∙ total-swap n n term
    ∙ total-zero n (λ t. total n (λ l. term l t)) (λ t lt.
    total-same n (λ l. term l t) (λ l. byte_product (b k t) (byte_product (a t l) (x l)))
    (λ l ll. product_assoc (b k t) (a t l) (x l) (bb k t lk lt) (ba t l (omega arith)) (bx l))
    ∙ sym (total-scaled n (b k t) (λ l. byte_product (a t l) (x l)) (bb k t lk lt))
    ∙ ap (byte_product (b k t)) (kernel.product t lt)
    ∙ product-zero_right (b k t) (bb k t lk lt)) in
    kernel.within.2 zero
