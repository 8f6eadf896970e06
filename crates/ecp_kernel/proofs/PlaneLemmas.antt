-- A product is the sum of the products with the bits of one of its bytes.
use Rattle.std.proofs.Common.{◌≡◌, ◌≢◌, ℕ, zero, suc, ◌*◌, ◌^◌, ◌<◌, ◌≤◌, ◌==◌, Bool, true, false, if◌then◌else◌, bit_and, bit_xor, refl, ap, sym, ◌∙◌, inl, inr, arith, eq-eqb}
use Rattle.std.specs.Int.{bit_at}
use Rattle.std.specs.Int.Bits.{xor_zero_l, xor_zero_r}
use Rattle.std.proofs.lemmas.Bool.{cases_lt, cases_eq, ne_eqb}
use Rattle.std.proofs.lemmas.Nat.{xor_comm, pow_pos}
use Rattle.std.proofs.lemmas.Nat.Bits.{bit_at-lt, bit_at-pow_same, bit_at-pow_other, and_pow}
use Rattle.ecp_field.specs.Field.{byte_product, carryless_product, reduced}
use Rattle.ecp_field.proofs.Linear.{reduced-xor}

-- the products with the low n bits of x, summed up
abbrev pub planes : ℕ → ℕ → ℕ → ℕ
planes zero c x = 0
planes (suc i) c x = bit_xor (planes i c x) (if bit_and x (2 ^ i) == 2 ^ i then byte_product c (2 ^ i) else 0)

no_bit_yet : (n c k : ℕ) → n ≤ k → carryless_product n c (2 ^ k) ≡ 0
unfolding carryless_product
no_bit_yet zero c k h = refl
no_bit_yet (suc i) c k h =
    let other : i ≢ k = λ e. omega arith in
    ap (λ t. bit_xor (if t == 1 then c * 2 ^ i else 0) (carryless_product i c (2 ^ k))) (bit_at-pow_other k i other)
    ∙ xor_zero_l (carryless_product i c (2 ^ k)) ∙ no_bit_yet i c k (omega arith)

one_bit : (n c k : ℕ) → k < n → carryless_product n c (2 ^ k) ≡ c * 2 ^ k
unfolding carryless_product
one_bit zero c k h = absurd (omega arith)
one_bit (suc i) c k h =
    elim (cases_eq i k) [
      | inl same ↦ rw same (
          ap (λ t. bit_xor (if t == 1 then c * 2 ^ k else 0) (carryless_product k c (2 ^ k))) (bit_at-pow_same k)
          ∙ ap (bit_xor (c * 2 ^ k)) (no_bit_yet k c k (omega arith)) ∙ xor_zero_r (c * 2 ^ k))
      | inr other ↦
          ap (λ t. bit_xor (if t == 1 then c * 2 ^ i else 0) (carryless_product i c (2 ^ k))) (bit_at-pow_other k i other)
          ∙ xor_zero_l (carryless_product i c (2 ^ k)) ∙ one_bit i c k (before i k h other)
    ]
  where
    before : (i k : ℕ) → k < suc i → (i ≢ k) → k < i
    before i k h other = elim (cases_lt k i) [ inl less ↦ less | inr not_less ↦ absurd (other (omega arith)) ]

product_with_bit : (c i : ℕ) → i < 8 → reduced 7 (c * 2 ^ i) ≡ byte_product c (2 ^ i)
unfolding byte_product
product_with_bit c i h = ap (reduced 7) (sym (one_bit 8 c i h))

reduced_choice : (t : Bool) (m : ℕ) → reduced 7 (if t then m else 0) ≡ (if t then reduced 7 m else 0)
unfolding reduced
reduced_choice true m = refl
reduced_choice false m = refl

-- the two tests of bit i
bit_tests : (x i : ℕ) → (bit_at x i == 1) ≡ (bit_and x (2 ^ i) == 2 ^ i)
bit_tests x i = by_bit (bit_at x i) (2 ^ i) (bit_and x (2 ^ i)) (bit_at-lt x i) (pow_pos i) (and_pow x i)
  where
    by_bit : (t p m : ℕ) → t < 2 → 0 < p → m ≡ t * p → (t == 1) ≡ (m == p)
    by_bit zero p m two pos e = sym (ne_eqb m p (λ same. omega arith))
    by_bit (suc zero) p m two pos e = sym (eq-eqb m p (omega arith))
    by_bit (suc (suc t)) p m two pos e = absurd (omega arith)

planes_are : (n c x : ℕ) → n ≤ 8 → reduced 7 (carryless_product n c x) ≡ planes n c x
unfolding carryless_product reduced
planes_are zero c x h = refl
planes_are (suc i) c x h =
    let t = bit_at x i == 1 in
    let m = c * 2 ^ i in
    reduced-xor 7 (if t then m else 0) (carryless_product i c x)
    ∙ ap (λ p. bit_xor p (reduced 7 (carryless_product i c x))) (reduced_choice t m ∙ ap (λ p. if t then p else 0) (product_with_bit c i (omega arith)))
    ∙ ap (bit_xor (if t then byte_product c (2 ^ i) else 0)) (planes_are i c x (omega arith))
    ∙ ap (λ u. bit_xor (if u then byte_product c (2 ^ i) else 0) (planes i c x)) (bit_tests x i)
    ∙ xor_comm (if bit_and x (2 ^ i) == 2 ^ i then byte_product c (2 ^ i) else 0) (planes i c x)

pub byte_product-planes : (c x : ℕ) → byte_product c x ≡ planes 8 c x
unfolding byte_product
byte_product-planes c x = planes_are 8 c x (omega arith)
