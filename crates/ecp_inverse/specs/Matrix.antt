-- Square matrices of bytes.
use Rattle.std.specs.Prelude.{◌≡◌, ◌≢◌, ℕ, ◌<◌, ◌≤◌, ◌^◌, List, slice_index}
use Rattle.ecp_field.specs.Field.{byte_product}
use Rattle.ecp_inverse.specs.Cells.{entry, total, matrix_product, identity}

-- what contracts see of a matrix: its size and its rows
pub record Square : Type 0 where
  pub size : ℕ
  pub rows : List (List ℕ)

-- the cell of a matrix in a row and a column
abbrev pub cell : Square → ℕ → ℕ → ℕ
cell m i j = entry m.rows i j

-- the products of two matrices of size n, either way round, are the identity
pub record AreInverse (n : ℕ) (a b : ℕ → ℕ → ℕ) : Type 0 where
  pub right : (i j : ℕ) → i < n → j < n → matrix_product n a b i j ≡ identity i j
  pub left : (i j : ℕ) → i < n → j < n → matrix_product n b a i j ≡ identity i j

-- some bytes are the cells of an inverse
abbrev pub HasInverse : ℕ → (ℕ → ℕ → ℕ) → Type 0
HasInverse n a = (b : ℕ → ℕ → ℕ) × ((i j : ℕ) → i < n → j < n → b i j < 2 ^ 8) × AreInverse n a b

-- a column that is not all zero within n, is zero past it, and whose product with the matrix is zero
pub record IsKernelColumn (n : ℕ) (a : ℕ → ℕ → ℕ) (column : List ℕ) : Type 0 where
  pub within : (k : ℕ) × (k < n) × (slice_index column k ≢ 0)
  pub past : (k : ℕ) → n ≤ k → slice_index column k ≡ 0
  pub product : (i : ℕ) → i < n → total n (λ k. byte_product (a i k) (slice_index column k)) ≡ 0
