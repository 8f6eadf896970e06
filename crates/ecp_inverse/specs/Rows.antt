-- Systems of equations, one a row: the left rows times y are the right rows times z.
use Rattle.std.specs.Prelude.{◌≡◌, ◌≢◌, ℕ, ◌<◌, ◌^◌, List}
use Rattle.ecp_field.specs.Field.{byte_sum, byte_product}
use Rattle.ecp_inverse.specs.Cells.{entry, total, identity}
use Rattle.ecp_inverse.specs.declared.rows.TheConstants.{MAX_SIZE}

-- c times one row is added to another
pub record AddsMultiple (old new : List (List ℕ)) (target c source : ℕ) : Type 0 where
  pub target_row : (j : ℕ) → j < MAX_SIZE → entry new target j ≡ byte_sum (entry old target j) (byte_product c (entry old source j))
  pub other_rows : (i j : ℕ) → i ≢ target → entry new i j ≡ entry old i j

-- a row is multiplied by c
pub record Scales (old new : List (List ℕ)) (row c : ℕ) : Type 0 where
  pub scaled_row : (j : ℕ) → j < MAX_SIZE → entry new row j ≡ byte_product c (entry old row j)
  pub other_rows : (i j : ℕ) → i ≢ row → entry new i j ≡ entry old i j

-- the sum of the products of a row's first n cells with y
abbrev pub row_product : ℕ → List (List ℕ) → ℕ → (ℕ → ℕ) → ℕ
row_product n rows i y = total n (λ k. byte_product (entry rows i k) (y k))

-- y and z solve the n equations
abbrev pub Solves : ℕ → List (List ℕ) → List (List ℕ) → (ℕ → ℕ) → (ℕ → ℕ) → Type 0
Solves n left right y z = (i : ℕ) → i < n → row_product n left i y ≡ row_product n right i z

-- the bytes that solve the old equations solve the new ones, and the other way round
pub record SameSolutions (n : ℕ) (left right new_left new_right : List (List ℕ)) : Type 0 where
  pub kept : (y z : ℕ → ℕ) → ((k : ℕ) → y k < 2 ^ 8) → ((k : ℕ) → z k < 2 ^ 8) → Solves n left right y z → Solves n new_left new_right y z
  pub back : (y z : ℕ → ℕ) → ((k : ℕ) → y k < 2 ^ 8) → ((k : ℕ) → z k < 2 ^ 8) → Solves n new_left new_right y z → Solves n left right y z

-- the first k columns are those of the identity
abbrev pub IsReduced : ℕ → ℕ → List (List ℕ) → Type 0
IsReduced n k rows = (i j : ℕ) → i < n → j < k → entry rows i j ≡ identity i j
