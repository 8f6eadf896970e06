-- Sums of exclusive ors in another order.
use Rattle.std.proofs.Common.{◌≡◌, ℕ, ◌+◌, ◌*◌, ◌^◌, bit_xor, ap, sym, ◌∙◌, add-zero}
use Rattle.std.specs.Int.Bits.{xor_assoc, xor_self, xor_zero_r}
use Rattle.std.proofs.lemmas.Nat.{xor_comm, xor_block, pow_pos}

pub xor_swap_last : (p q m : ℕ) → bit_xor (bit_xor p q) m ≡ bit_xor (bit_xor p m) q
xor_swap_last p q m = xor_assoc p q m ∙ ap (λ x. bit_xor p x) (xor_comm q m) ∙ sym (xor_assoc p m q)

-- what is added twice cancels
pub xor_twice : (p m : ℕ) → bit_xor (bit_xor p m) m ≡ p
xor_twice p m = xor_assoc p m m ∙ ap (λ x. bit_xor p x) (xor_self m) ∙ xor_zero_r p

pub xor_interchange : (a b r s : ℕ) → bit_xor (bit_xor a b) (bit_xor r s) ≡ bit_xor (bit_xor a r) (bit_xor b s)
xor_interchange a b r s =
    sym (xor_assoc (bit_xor a b) r s) ∙ ap (λ x. bit_xor x s) (xor_swap_last a b r) ∙ xor_assoc (bit_xor a r) b s

pub xor_shift : (a b k : ℕ) → bit_xor a b * 2 ^ k ≡ bit_xor (a * 2 ^ k) (b * 2 ^ k)
xor_shift a b k =
    let low = xor_block k a b 0 0 (pow_pos k) (pow_pos k) in
    let x : a * 2 ^ k + 0 ≡ a * 2 ^ k = add-zero (a * 2 ^ k) in
    let y : b * 2 ^ k + 0 ≡ b * 2 ^ k = add-zero (b * 2 ^ k) in
    let z : bit_xor a b * 2 ^ k + bit_xor 0 0 ≡ bit_xor a b * 2 ^ k = add-zero (bit_xor a b * 2 ^ k) in
    sym z ∙ sym low ∙ ap (λ u. bit_xor u (b * 2 ^ k + 0)) x ∙ ap (λ v. bit_xor (a * 2 ^ k) v) y
