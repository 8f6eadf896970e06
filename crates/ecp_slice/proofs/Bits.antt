-- One more bit of a mask is set.
use Rattle.std.proofs.Common.{◌≡◌, ◌≢◌, ℕ, zero, suc, ◌+◌, ◌*◌, ◌/◌, ◌%◌, ◌^◌, ◌<◌, sym, ap, ◌∙◌, arith}
use Rattle.std.specs.Prelude.{bit_or, count_ones}
use Rattle.std.specs.Int.{bit_at}
use Rattle.std.proofs.Math.Nat.{one-mul, mod-eq_of_lt}
use Rattle.std.proofs.Math.Pow.{pow-lt}
use Rattle.std.proofs.lemmas.Nat.Bits.{bit_at_lowest, bit_at-suc, bit_at_or, bit_at-pow_same, bit_at-pow_other, bit_at-lt, same_from_bits}
use lib.Count.{ones_step}

-- the bit was not set, is set, and every other bit is as before
pub record SetsBit (old new i : ℕ) : Type 0 where
  pub was : bit_at old i ≡ 0
  pub is : bit_at new i ≡ 1
  pub others : (j : ℕ) → j ≢ i → bit_at new j ≡ bit_at old j

pub set_bit : (old i : ℕ) → bit_at old i ≡ 0 → SetsBit old (bit_or old (2 ^ i)) i
set_bit old i unset = record {
  was = unset;
  is = omega (arith, bit_at_or old (2 ^ i) i, bit_at-pow_same i, unset);
  others = λ j other. omega (arith, bit_at_or old (2 ^ i) j, bit_at-pow_other i j other);
}

-- a bit that is not 1 is 0
pub unset : (n i : ℕ) → (bit_at n i ≡ 1 → ⊥) → bit_at n i ≡ 0
unset n i never = one (bit_at n i) (bit_at-lt n i) never where
  one : (b : ℕ) → b < 2 → (b ≡ 1 → ⊥) → b ≡ 0
  one b low never = omega arith

-- the lowest bit was set: the others are the same
pub lowest_was : (old new : ℕ) → SetsBit old new 0 → old % 2 ≡ 0
lowest_was old new h = sym (bit_at_lowest old) ∙ h.was

pub lowest_is : (old new : ℕ) → SetsBit old new 0 → new % 2 ≡ 1
lowest_is old new h = sym (bit_at_lowest new) ∙ h.is

pub same_rest : (old new : ℕ) → SetsBit old new 0 → new / 2 ≡ old / 2
same_rest old new h = same_from_bits (new / 2) (old / 2) (λ j. sym (bit_at-suc new j) ∙ h.others (suc j) (λ e. omega arith) ∙ bit_at-suc old j)

-- a higher bit was set: the lowest is the same, and the bit below is set in the halves
pub same_lowest : (old new i : ℕ) → SetsBit old new (suc i) → new % 2 ≡ old % 2
same_lowest old new i h = sym (bit_at_lowest new) ∙ h.others 0 (λ e. omega arith) ∙ bit_at_lowest old

pub in_halves : (old new i : ℕ) → SetsBit old new (suc i) → SetsBit (old / 2) (new / 2) i
in_halves old new i h = record {
  was = sym (bit_at-suc old i) ∙ h.was;
  is = sym (bit_at-suc new i) ∙ h.is;
  others = λ j other. sym (bit_at-suc new j) ∙ h.others (suc j) (λ e. other (omega arith)) ∙ bit_at-suc old j;
}

-- one bit more is counted
pub one_more : (old new i : ℕ) → SetsBit old new i → count_ones new ≡ count_ones old + 1
one_more old new zero h =
    omega (arith, ones_step new, ones_step old, lowest_is old new h, lowest_was old new h, ap count_ones (same_rest old new h))
one_more old new (suc i) h =
    omega (arith, ones_step new, ones_step old, same_lowest old new i h, one_more (old / 2) (new / 2) i (in_halves old new i h))

-- one bit of 32, shifted to its place
pub shifted : (i : ℕ) → i < 32 → 1 * 2 ^ i % 2 ^ 32 ≡ 2 ^ i
shifted i low =
    let fits : 2 ^ i < 2 ^ 32 = pow-lt low in
    ap (λ (n : ℕ). n % 2 ^ 32) (one-mul (2 ^ i)) ∙ mod-eq_of_lt fits
