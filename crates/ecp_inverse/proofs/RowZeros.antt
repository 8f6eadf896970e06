-- Rows of zeros.
use Rattle.std.proofs.Common.{◌≡◌, ℕ, zero, suc, get_or, replicate, refl}
use Rattle.ecp_inverse.specs.Cells.{entry}

pub zeros_at : (n j : ℕ) → ◌≡◌ {A = ℕ} (get_or (replicate n 0) j 0) 0
zeros_at zero j = refl
zeros_at (suc n) zero = refl
zeros_at (suc n) (suc j) = zeros_at n j

pub zero_rows_at : (n i j : ℕ) → entry (replicate n (replicate 16 0)) i j ≡ 0
zero_rows_at zero i j = refl
zero_rows_at (suc n) zero j = zeros_at 16 j
zero_rows_at (suc n) (suc i) j = zero_rows_at n i j
