-- The slices of a block: they stand apart, and together they are the block.
use Rattle.std.proofs.Common.{◌≡◌, ℕ, zero, suc, ◌+◌, ◌-◌, ◌*◌, ◌<◌, ◌≤◌, ◌⊎◌, inl, inr, List, ◌++◌, length, take, sym, ◌∙◌, ap, arith, add-one}
use Rattle.std.proofs.Math.Nat.{suc-mul, zero-mul, mul-le-mul_right}
use Rattle.std.proofs.Math.Seq.{take-add}
use Rattle.std.proofs.lemmas.Bool.{cases_eq, cases_lt}
use Rattle.std.proofs.lemmas.Grind.{div_ceil_times}
use Rattle.std.proofs.lemmas.List.{take_all}
use Rattle.ecp_store.specs.Stores.{part}
use Rattle.ecp_plan.specs.Order.{slice_count, slice_start, slice_end}
use Rattle.ecp_plan.proofs.OrderLaws.{begins_within, last_ends}
use Rattle.ecp_slice.specs.Messages.{slice_len}

next_start : (size j : ℕ) → (j + 1) * size ≡ j * size + size
next_start size j = ap (λ (n : ℕ). n * size) (add-one j) ∙ suc-mul j size

-- of two slices the one ends before the other begins
pub apart : (len size j s : ℕ) → (j ≡ s → ⊥) → slice_start size s < len → slice_start size j < len
    → (slice_start size j + slice_len len size j ≤ slice_start size s) ⊎ (slice_start size s + slice_len len size s ≤ slice_start size j)
apart len size j s other in_s in_j = elim (cases_lt j s) [
  | inl below ↦ let most : (j + 1) * size ≤ s * size = mul-le-mul_right size (omega arith) in inl (omega (arith, most, next_start size j))
  | inr not ↦ let most : (s + 1) * size ≤ j * size = mul-le-mul_right size (omega arith) in inr (omega (arith, most, next_start size s))
]

-- a block has a slice at least
some_slices : (len size : ℕ) → 1 ≤ len → 1 ≤ size → 1 ≤ slice_count len size
some_slices len size some wide = elim (cases_eq (slice_count len size) 0) [
  | inl none ↦
      let most : len ≤ slice_count len size * size = (div_ceil_times len size wide).0 in
      absurd (omega (arith, some, most, ap (λ (n : ℕ). n * size) none, zero-mul size))
  | inr not ↦ omega (arith, not)
]

-- a slice ends where it begins and has its length, and the next begins there, if there is one
slice_ends : (len size j : ℕ) → 1 ≤ size → slice_start size j < len → slice_start size j + slice_len len size j ≡ slice_end len size j
slice_ends len size j wide low = omega (arith, next_start size j)

module _ (len size : ℕ) (xs ys : List ℕ) (some : 1 ≤ len) (wide : 1 ≤ size)
    (same : (j : ℕ) → j < slice_count len size → part xs (slice_start size j) (slice_len len size j) ≡ part ys (slice_start size j) (slice_len len size j)) where
  -- one slice more is the same
  slice_more : (j : ℕ) → j < slice_count len size → take (slice_start size j) xs ≡ take (slice_start size j) ys → take (slice_end len size j) xs ≡ take (slice_end len size j) ys
  slice_more j low before =
      let ends = slice_ends len size j wide (begins_within len size j some wide low) in
      ap (λ (n : ℕ). take n xs) (sym ends)
      ∙ take-add (slice_start size j) (slice_len len size j) xs
      ∙ ap (λ (zs : List ℕ). zs ++ part xs (slice_start size j) (slice_len len size j)) before
      ∙ ap (λ (zs : List ℕ). take (slice_start size j) ys ++ zs) (same j low)
      ∙ sym (take-add (slice_start size j) (slice_len len size j) ys)
      ∙ ap (λ (n : ℕ). take n ys) ends

  until : (j : ℕ) → j < slice_count len size → take (slice_start size j) xs ≡ take (slice_start size j) ys
  until zero low = ap (λ (n : ℕ). take n xs) (zero-mul size) ∙ sym (ap (λ (n : ℕ). take n ys) (zero-mul size))
  until (suc j) low =
      let here : j < slice_count len size = omega arith in
      let begins : slice_start size (suc j) < len = begins_within len size (suc j) some wide low in
      let ends : slice_end len size j ≡ slice_start size (suc j) = omega (arith, begins, next_start size j, suc-mul j size) in
      ap (λ (n : ℕ). take n xs) (sym ends) ∙ slice_more j here (until j here) ∙ ap (λ (n : ℕ). take n ys) ends

  -- lists of the block's length with the same slices are equal
  pub same_block : length xs ≡ len → length ys ≡ len → xs ≡ ys
  same_block of_xs of_ys =
      let last : ℕ = slice_count len size - 1 in
      let low : last < slice_count len size = omega (arith, some_slices len size some wide) in
      let ends : slice_end len size last ≡ len = last_ends len size some wide in
      sym (take_all len xs (omega (arith, of_xs)))
      ∙ ap (λ (n : ℕ). take n xs) (sym ends) ∙ slice_more last low (until last low) ∙ ap (λ (n : ℕ). take n ys) ends
      ∙ take_all len ys (omega (arith, of_ys))
