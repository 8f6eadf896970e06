-- The bytes that the generator makes of a seed.
use Rattle.std.specs.Prelude.{ℕ, zero, suc, ◌+◌, ◌*◌, ◌/◌, ◌%◌, ◌^◌, List, map}
use Rattle.std.specs.List.{range_with_len}

-- the number after this one, in the linear congruence modulo 2^64
abbrev pub next : ℕ → ℕ
next x = (x * 6364136223846793005 + 1442695040888963407) % 2 ^ 64

-- the numbers of a seed, which itself has the place 0
unfoldable pub number_at : ℕ → ℕ → ℕ
number_at seed zero = seed
number_at seed (suc i) = next (number_at seed i)

-- the highest byte of a number below 2^64
abbrev pub high_byte : ℕ → ℕ
high_byte x = x / 2 ^ 56

-- the first bytes of a seed, as many as this: byte j is the highest byte of the number at j + 1
abbrev pub generated : ℕ → ℕ → List ℕ
generated seed len = map (λ j. high_byte (number_at seed (j + 1))) (range_with_len 0 len)
