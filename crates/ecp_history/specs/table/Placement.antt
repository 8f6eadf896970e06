-- On which node each row of a stripe is put.
use Rattle.std.specs.Prelude.{ℕ, ◌+◌, ◌*◌, ◌%◌, ◌==◌, List, [], ◌∷◌, Bool, if◌then◌else◌, filter, length, slice_index}
use Rattle.std.specs.Int.{bit_at}
use Rattle.std.specs.List.{range_with_len}
use Rattle.ecp_shape.specs.declared.limits.TheConstants.{MAX_NODES}

-- the number whose bit m says whether the flag at place m is set
abbrev pub mask_of : List Bool → ℕ
mask_of [] = 0
mask_of (flag ∷ flags) = (if flag then 1 else 0) + 2 * mask_of flags

-- the nodes of a mask in rising order: bit m is set for node m
abbrev pub nodes_in : ℕ → List ℕ
nodes_in mask = filter (λ m. bit_at mask m == 1) (range_with_len 0 MAX_NODES)

-- the node of a row of a stripe among u nodes: number (stripe + row) mod u
abbrev pub place_among : List ℕ → ℕ → ℕ → ℕ
place_among nodes stripe row = slice_index nodes ((stripe + row) % length nodes)

-- the node of a row of a stripe among the nodes of a mask, in rising order
abbrev pub place : ℕ → ℕ → ℕ → ℕ
place mask stripe row = place_among (nodes_in mask) stripe row
