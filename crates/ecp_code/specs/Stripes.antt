use Rattle.std.specs.Prelude.{ℕ, ◌+◌, ◌-◌, ◌*◌, ◌/◌, List, ◌++◌, length, map, take, drop, replicate}
use Rattle.std.specs.List.{range_with_len}

-- a block of len bytes: the first bytes of these, with zeros where they end before it
abbrev pub filled : ℕ → List ℕ → List ℕ
filled len bytes = take len bytes ++ replicate (len - length bytes) 0

-- the first k blocks of len bytes that these bytes fill, one after another, the rest zeros
abbrev pub blocks : ℕ → ℕ → List ℕ → List (List ℕ)
blocks k len bytes = map (λ j. filled len (drop (j * len) bytes)) (range_with_len 0 k)

-- how many bytes each of k blocks has where so many bytes are one stripe
abbrev pub stripe_len : ℕ → ℕ → ℕ
stripe_len k size = (size + k - 1) / k

-- how many stripes of k blocks of len bytes so many bytes need
abbrev pub stripe_count : ℕ → ℕ → ℕ → ℕ
stripe_count k len size = (size + k * len - 1) / (k * len)

-- the data blocks of each stripe of a file with these bytes
abbrev pub stripes : ℕ → ℕ → List ℕ → List (List (List ℕ))
stripes k len bytes =
    map (λ i. blocks k len (drop (i * (k * len)) bytes)) (range_with_len 0 (stripe_count k len (length bytes)))
