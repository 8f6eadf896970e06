-- The generator, byte by byte.
use Rattle.std.proofs.Common.{◌≡◌, ℕ, suc, ◌+◌, [], ◌∷◌, ◌++◌, length, refl, ap, ◌∙◌, arith}
use Rattle.std.proofs.lemmas.List.FromFn.{map-range_with_len_more, length-map-range_with_len}
use Rattle.ecp_command.specs.Generated.{next, number_at, high_byte, generated}

number_more : (seed i : ℕ) → number_at seed (i + 1) ≡ next (number_at seed i)
unfolding number_at
number_more seed i = let e : i + 1 ≡ suc i = omega arith in rw e refl

-- the numbers and the bytes with one more
pub goes_on : (seed i : ℕ) → (generated seed (i + 1) ≡ generated seed i ++ high_byte (next (number_at seed i)) ∷ []) × (number_at seed (i + 1) ≡ next (number_at seed i))
goes_on seed i = (
  map-range_with_len_more (λ (j : ℕ). high_byte (number_at seed (j + 1))) 0 i i (omega arith) ∙ ap (λ (x : ℕ). generated seed i ++ high_byte x ∷ []) (number_more seed i),
  number_more seed i,
)

pub starts : (seed : ℕ) → number_at seed 0 ≡ seed
unfolding number_at
starts seed = refl

pub length-generated : (seed len : ℕ) → length (generated seed len) ≡ len
length-generated seed len = length-map-range_with_len (λ (j : ℕ). high_byte (number_at seed (j + 1))) 0 len
