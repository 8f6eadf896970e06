use Rattle.std.specs.Prelude.{◌≡◌, ℕ, ◌+◌, ◌≤◌, nat_lt, if◌then◌else◌, List, [], ◌∷◌, length, map, replicate, All}
use Rattle.std.specs.List.{range_with_len}
use Rattle.ecp_field.specs.Lists.{sums, scaled, AreBytes}
use Rattle.ecp_code.specs.Weights.{weights}

-- the sum of blocks of len bytes, byte by byte, each scaled by its weight
abbrev pub weighted_sum : ℕ → List ℕ → List (List ℕ) → List ℕ
weighted_sum len [] blocks = replicate len 0
weighted_sum len (w ∷ ws) [] = replicate len 0
weighted_sum len (w ∷ ws) (block ∷ blocks) = sums (scaled w block) (weighted_sum len ws blocks)

-- how many bytes each of the data blocks has
abbrev pub block_len : List (List ℕ) → ℕ
block_len [] = 0
block_len (block ∷ blocks) = length block

-- row t of the stripe whose data are these blocks, rows 0, 1 and so on: interpolation through them
abbrev pub row : List (List ℕ) → ℕ → List ℕ
row blocks t = weighted_sum (block_len blocks) (weights (range_with_len 0 (length blocks)) t) blocks

-- blocks that can be the data of a stripe: few enough that each row is a point of its own, of one length, and of bytes
pub record IsData (blocks : List (List ℕ)) : Type 0 where
  pub few : length blocks ≤ 256
  pub even : All (λ block. length block ≡ block_len blocks) blocks
  pub bytes : All AreBytes blocks

-- the first k rows of a stripe other than row t, in rising order
abbrev pub other_rows : ℕ → ℕ → List ℕ
other_rows k t = map (λ i. if nat_lt i t then i else i + 1) (range_with_len 0 k)
