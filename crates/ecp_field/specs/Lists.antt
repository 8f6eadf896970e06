-- Byte sums and products along lists.
use Rattle.std.specs.Prelude.{ℕ, ◌<◌, ◌^◌, List, [], ◌∷◌, map, slice_index}
use Rattle.ecp_field.specs.Field.{byte_sum, byte_product}

-- the sums of two lists, byte by byte, as far as both go
abbrev pub sums : List ℕ → List ℕ → List ℕ
sums [] ys = []
sums (x ∷ xs) [] = []
sums (x ∷ xs) (y ∷ ys) = byte_sum x y ∷ sums xs ys

-- the products of a constant and each byte of a list
abbrev pub scaled : ℕ → List ℕ → List ℕ
scaled c xs = map (byte_product c) xs

-- each item is a byte
abbrev pub AreBytes : List ℕ → Type 0
AreBytes xs = (k : ℕ) → slice_index xs k < 2 ^ 8
