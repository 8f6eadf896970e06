use Rattle.std.specs.Prelude.{ℕ, ◌<◌, ◌≤◌, List, ◌++◌, codes, decimal}
use Rattle.ecp_shape.specs.declared.limits.TheConstants.{MAX_ROWS}

-- how many rows a stripe has, and how many of them are data
pub record Shape : Type 0 where
  pub n : ℕ
  pub k : ℕ

-- the numbers that a code may have
pub record IsShape (n k : ℕ) : Type 0 where
  pub data_rows : 1 ≤ k
  pub parity_rows : k < n
  pub at_most : n ≤ MAX_ROWS

-- what is printed of numbers that no code has
abbrev pub bad_shape_text : ℕ → ℕ → List ℕ
bad_shape_text n k =
    codes "no code has n = " ++ (decimal n ++ (codes " and k = " ++ (decimal k ++ codes ": 1 <= k < n <= 16")))
