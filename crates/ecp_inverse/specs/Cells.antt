-- Cells in rows and columns, and byte sums of many terms.
use Rattle.std.specs.Prelude.{ℕ, zero, suc, ◌<◌, ◌^◌, ◌==◌, if◌then◌else◌, List, [], slice_index, slice_index_or}
use Rattle.ecp_field.specs.Field.{byte_sum, byte_product}
use Rattle.ecp_inverse.specs.declared.rows.TheConstants.{MAX_SIZE}

-- the entry of a list of rows in a row and a column
abbrev pub entry : List (List ℕ) → ℕ → ℕ → ℕ
entry rows i j = slice_index (slice_index_or rows i []) j

-- the byte sum of f at the numbers below n
unfoldable pub total : ℕ → (ℕ → ℕ) → ℕ
total zero f = 0
total (suc n) f = byte_sum (total n f) (f n)

-- the cell in row i and column j of the product of two matrices of size n
abbrev pub matrix_product : ℕ → (ℕ → ℕ → ℕ) → (ℕ → ℕ → ℕ) → ℕ → ℕ → ℕ
matrix_product n a b i j = total n (λ k. byte_product (a i k) (b k j))

-- the cells of the identity matrix
abbrev pub identity : ℕ → ℕ → ℕ
identity i j = if i == j then 1 else 0

-- each cell is a byte
abbrev pub AreByteCells : (ℕ → ℕ → ℕ) → Type 0
AreByteCells a = (i j : ℕ) → j < MAX_SIZE → a i j < 2 ^ 8
