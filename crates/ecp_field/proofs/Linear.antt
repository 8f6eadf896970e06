-- The product is linear: both of its steps, the one without carry and the reduction, take sums to sums.
use Rattle.std.proofs.Common.{◌≡◌, ℕ, zero, suc, ◌+◌, ◌*◌, ◌%◌, ◌^◌, ◌<◌, ◌==◌, ◌⊎◌, Bool, true, false, if◌then◌else◌, bit_xor, refl, ap, sym, ◌∙◌, inl, inr, arith}
use Rattle.std.specs.Int.{bit_at}
use Rattle.std.specs.Int.Bits.{xor_assoc, xor_self, xor_zero_l, xor_zero_r}
use Rattle.std.proofs.lemmas.Nat.Bits.{bit_at_xor, bit_at-lt}
use Rattle.ecp_field.specs.Field.{byte_sum, byte_product, carryless_product, reduced}
use Rattle.ecp_field.proofs.Exclusive.{xor_swap_last, xor_interchange, xor_shift}

bit_cases : (x : ℕ) → x < 2 → (x ≡ 0) ⊎ (x ≡ 1)
bit_cases zero h = inl refl
bit_cases (suc x) h = inr (omega arith)

cancels : (p q m : ℕ) → bit_xor p q ≡ bit_xor (bit_xor p m) (bit_xor q m)
cancels p q m = sym (xor_interchange p m q m ∙ ap (λ x. bit_xor (bit_xor p q) x) (xor_self m) ∙ xor_zero_r (bit_xor p q))

-- whether m is added to p and to q decides whether it is added to their sum
added_where_set : (p q m x y : ℕ) → x < 2 → y < 2
    → (if ((x + y) % 2 == 1) then bit_xor (bit_xor p q) m else bit_xor p q) ≡ bit_xor (if x == 1 then bit_xor p m else p) (if y == 1 then bit_xor q m else q)
added_where_set p q m x y sx sy =
    elim (bit_cases x sx) [
      | inl x0 ↦ elim (bit_cases y sy) [
        | inl y0 ↦ rw (x0, y0) refl
        | inr y1 ↦ rw (x0, y1) (xor_assoc p q m)
      ]
      | inr x1 ↦ elim (bit_cases y sy) [
        | inl y0 ↦ rw (x1, y0) (xor_swap_last p q m)
        | inr y1 ↦ rw (x1, y1) (cancels p q m)
      ]
    ]

pub reduced-xor : (n p q : ℕ) → reduced n (bit_xor p q) ≡ bit_xor (reduced n p) (reduced n q)
unfolding reduced
reduced-xor zero p q = refl
reduced-xor (suc i) p q =
    let m = 0x11D * 2 ^ i in
    let x = bit_at p (i + 8) in
    let y = bit_at q (i + 8) in
    let step : (if bit_at (bit_xor p q) (i + 8) == 1 then bit_xor (bit_xor p q) m else bit_xor p q) ≡ bit_xor (if x == 1 then bit_xor p m else p) (if y == 1 then bit_xor q m else q) =
    ap (λ b. if b == 1 then bit_xor (bit_xor p q) m else bit_xor p q) (bit_at_xor p q (i + 8)) ∙ added_where_set p q m x y (bit_at-lt p (i + 8)) (bit_at-lt q (i + 8)) in
    ap (reduced i) step ∙ reduced-xor i (if x == 1 then bit_xor p m else p) (if y == 1 then bit_xor q m else q)

shifted_where : (t : Bool) (a b k : ℕ) → (if t then bit_xor a b * 2 ^ k else 0) ≡ bit_xor (if t then a * 2 ^ k else 0) (if t then b * 2 ^ k else 0)
shifted_where true a b k = xor_shift a b k
shifted_where false a b k = refl

pub carryless_product-xor : (n a b c : ℕ) → carryless_product n (bit_xor a b) c ≡ bit_xor (carryless_product n a c) (carryless_product n b c)
unfolding carryless_product
carryless_product-xor zero a b c = refl
carryless_product-xor (suc i) a b c =
    let t = bit_at c i == 1 in
    ap (λ x. bit_xor x (carryless_product i (bit_xor a b) c)) (shifted_where t a b i)
    ∙ ap (λ y. bit_xor (bit_xor (if t then a * 2 ^ i else 0) (if t then b * 2 ^ i else 0)) y) (carryless_product-xor i a b c)
    ∙ xor_interchange (if t then a * 2 ^ i else 0) (if t then b * 2 ^ i else 0) (carryless_product i a c) (carryless_product i b c)

-- a term is in the sum of two choices where just one of them has it
added_once : (m x y : ℕ) → x < 2 → y < 2 → (if ((x + y) % 2 == 1) then m else 0) ≡ bit_xor (if x == 1 then m else 0) (if y == 1 then m else 0)
added_once m x y sx sy =
    elim (bit_cases x sx) [
      | inl x0 ↦ elim (bit_cases y sy) [
        | inl y0 ↦ rw (x0, y0) refl
        | inr y1 ↦ rw (x0, y1) (sym (xor_zero_l m))
      ]
      | inr x1 ↦ elim (bit_cases y sy) [
        | inl y0 ↦ rw (x1, y0) (sym (xor_zero_r m))
        | inr y1 ↦ rw (x1, y1) (sym (xor_self m))
      ]
    ]

pub carryless_product-xor_right : (n a b c : ℕ) → carryless_product n a (bit_xor b c) ≡ bit_xor (carryless_product n a b) (carryless_product n a c)
unfolding carryless_product
carryless_product-xor_right zero a b c = refl
carryless_product-xor_right (suc i) a b c =
    let m = a * 2 ^ i in
    let x = if bit_at b i == 1 then m else 0 in
    let y = if bit_at c i == 1 then m else 0 in
    let step : (if bit_at (bit_xor b c) i == 1 then m else 0) ≡ bit_xor x y =
    ap (λ t. if t == 1 then m else 0) (bit_at_xor b c i) ∙ added_once m (bit_at b i) (bit_at c i) (bit_at-lt b i) (bit_at-lt c i) in
    ap (λ u. bit_xor u (carryless_product i a (bit_xor b c))) step
    ∙ ap (bit_xor (bit_xor x y)) (carryless_product-xor_right i a b c)
    ∙ xor_interchange x y (carryless_product i a b) (carryless_product i a c)

pub byte_product-sum_left : (a b c : ℕ) → byte_product (byte_sum a b) c ≡ byte_sum (byte_product a c) (byte_product b c)
unfolding byte_product
byte_product-sum_left a b c = ap (reduced 7) (carryless_product-xor 8 a b c) ∙ reduced-xor 7 (carryless_product 8 a c) (carryless_product 8 b c)

pub byte_product-sum_right : (a b c : ℕ) → byte_product a (byte_sum b c) ≡ byte_sum (byte_product a b) (byte_product a c)
unfolding byte_product
byte_product-sum_right a b c = ap (reduced 7) (carryless_product-xor_right 8 a b c) ∙ reduced-xor 7 (carryless_product 8 a b) (carryless_product 8 a c)
