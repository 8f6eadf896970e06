-- The 256 bytes with their sums and products are a field. What a law needs of its bytes is that they are below 256.
use Rattle.std.proofs.Common.{◌*◌, mul-zero, mul-suc, ◌≡◌, ◌≢◌, ℕ, zero, suc, ◌+◌, ◌-◌, ◌%◌, ◌^◌, ◌<◌, ◌≤◌, ◌==◌, ◌⊎◌, Bool, true, false, cond, eqb, Some, unwrap_or, find, refl, ap, sym, ◌∙◌, inl, inr, arith, eq-eqb, add_comm, ◌||◌}
use Rattle.std.proofs.Math.Bool.{or_comm}
use Rattle.std.specs.List.{range_with_len}
use Rattle.std.specs.Int.Bits.{xor_assoc, xor_self, xor_zero_l, xor_zero_r}
use Rattle.std.proofs.lemmas.Bool.{cases_eq, cases_lt, ne_eqb}
use Rattle.std.proofs.lemmas.Nat.{xor_comm, xor_lt}
use Rattle.ecp_field.specs.Field.{byte_sum, byte_product, byte_quotient, byte_power}
use Rattle.ecp_field.proofs.Computed.{power_of_two, log_of, byte_product-logs, product_of_nonzero, log_of-lt, power-log, log-power, power_pos, power-lt}
use Rattle.ecp_field.proofs.Linear.{byte_product-sum_left, byte_product-sum_right}

-- ---- sums

pub sum-lt : (a b : ℕ) → a < 2 ^ 8 → b < 2 ^ 8 → byte_sum a b < 2 ^ 8
sum-lt a b p q = xor_lt 8 a b p q

pub sum_comm : (a b : ℕ) → byte_sum a b ≡ byte_sum b a
sum_comm a b = xor_comm a b

pub sum_assoc : (a b c : ℕ) → byte_sum (byte_sum a b) c ≡ byte_sum a (byte_sum b c)
sum_assoc a b c = xor_assoc a b c

pub sum-zero_left : (a : ℕ) → byte_sum 0 a ≡ a
sum-zero_left a = xor_zero_l a

pub sum-zero_right : (a : ℕ) → byte_sum a 0 ≡ a
sum-zero_right a = xor_zero_r a

-- each byte is its own inverse under the sum
pub sum-self : (a : ℕ) → byte_sum a a ≡ 0
sum-self a = xor_self a

-- ---- products

pub product-zero_left : (b : ℕ) → b < 2 ^ 8 → byte_product 0 b ≡ 0
product-zero_left b q = byte_product-logs 0 b (omega arith) q

nonzero_log : (a b : ℕ) → a < 256 → b < 256 → a ≢ 0 → b ≢ 0 → log_of (byte_product a b) ≡ (log_of a + log_of b) % 255
nonzero_log a b p q x y = ap log_of (product_of_nonzero a b p q x y) ∙ log-power ((log_of a + log_of b) % 255) (omega arith)

pub product_nonzero : (a b : ℕ) → a < 2 ^ 8 → b < 2 ^ 8 → a ≢ 0 → b ≢ 0 → byte_product a b ≢ 0
product_nonzero a b p q x y e = omega (arith, power_pos ((log_of a + log_of b) % 255) (omega arith), product_of_nonzero a b p q x y)

pub product_comm : (a b : ℕ) → a < 2 ^ 8 → b < 2 ^ 8 → byte_product a b ≡ byte_product b a
product_comm a b p q =
    byte_product-logs a b p q
    ∙ ap (λ t. cond t 0 (power_of_two ((log_of a + log_of b) % 255))) (or_comm (eqb a 0) (eqb b 0))
    ∙ ap (λ n. cond (eqb b 0 || eqb a 0) 0 (power_of_two (n % 255))) (add_comm (log_of a) (log_of b))
    ∙ sym (byte_product-logs b a q p)

pub product-zero_right : (a : ℕ) → a < 2 ^ 8 → byte_product a 0 ≡ 0
product-zero_right a p = product_comm a 0 p (omega arith) ∙ product-zero_left a p

pub product-lt : (a b : ℕ) → a < 2 ^ 8 → b < 2 ^ 8 → byte_product a b < 2 ^ 8
product-lt a b p q =
    elim (cases_eq a 0) [
      | inl a0 ↦ rw a0 (omega (arith, product-zero_left b q))
      | inr x ↦ elim (cases_eq b 0) [
        | inl b0 ↦ rw b0 (omega (arith, product-zero_right a p))
        | inr y ↦ omega (arith, product_of_nonzero a b p q x y, power-lt ((log_of a + log_of b) % 255) (omega arith))
      ]
    ]

pub product-one_left : (b : ℕ) → b < 2 ^ 8 → byte_product 1 b ≡ b
product-one_left b q =
    elim (cases_eq b 0) [
      | inl b0 ↦ rw b0 (product-zero_right 1 (omega arith))
      | inr y ↦
          let small = log_of-lt b q in
          let same : (0 + log_of b) % 255 ≡ log_of b = omega arith in
          product_of_nonzero 1 b (omega arith) q (λ e. omega arith) y ∙ ap power_of_two same ∙ power-log b q y
    ]

pub product-one_right : (a : ℕ) → a < 2 ^ 8 → byte_product a 1 ≡ a
product-one_right a p = product_comm a 1 p (omega arith) ∙ product-one_left a p

assoc_of_nonzero : (a b c : ℕ) → a < 256 → b < 256 → c < 256 → a ≢ 0 → b ≢ 0 → c ≢ 0 → byte_product (byte_product a b) c ≡ byte_product a (byte_product b c)
assoc_of_nonzero a b c p q r x y z =
    let la = log_of a in
    let lb = log_of b in
    let lc = log_of c in
    let left : byte_product (byte_product a b) c ≡ power_of_two (((la + lb) % 255 + lc) % 255) =
    product_of_nonzero (byte_product a b) c (product-lt a b p q) r (product_nonzero a b p q x y) z
    ∙ ap (λ n. power_of_two ((n + lc) % 255)) (nonzero_log a b p q x y) in
    let right : byte_product a (byte_product b c) ≡ power_of_two ((la + (lb + lc) % 255) % 255) =
    product_of_nonzero a (byte_product b c) p (product-lt b c q r) x (product_nonzero b c q r y z)
    ∙ ap (λ n. power_of_two ((la + n) % 255)) (nonzero_log b c q r y z) in
    let same : ((la + lb) % 255 + lc) % 255 ≡ (la + (lb + lc) % 255) % 255 = omega arith in
    left ∙ ap power_of_two same ∙ sym right

pub product_assoc : (a b c : ℕ) → a < 2 ^ 8 → b < 2 ^ 8 → c < 2 ^ 8 → byte_product (byte_product a b) c ≡ byte_product a (byte_product b c)
product_assoc a b c p q r =
    elim (cases_eq a 0) [
      | inl a0 ↦ rw a0 (ap (λ n. byte_product n c) (product-zero_left b q) ∙ product-zero_left c r ∙ sym (product-zero_left (byte_product b c) (product-lt b c q r)))
      | inr x ↦ elim (cases_eq b 0) [
        | inl b0 ↦ rw b0 (
            ap (λ n. byte_product n c) (product-zero_right a p) ∙ product-zero_left c r
            ∙ sym (ap (byte_product a) (product-zero_left c r) ∙ product-zero_right a p))
        | inr y ↦ elim (cases_eq c 0) [
          | inl c0 ↦ rw c0 (
              product-zero_right (byte_product a b) (product-lt a b p q)
              ∙ sym (ap (byte_product a) (product-zero_right b q) ∙ product-zero_right a p))
          | inr z ↦ assoc_of_nonzero a b c p q r x y z
        ]
      ]
    ]

-- ---- products of sums

pub product-sum_left : (a b c : ℕ) → byte_product (byte_sum a b) c ≡ byte_sum (byte_product a c) (byte_product b c)
product-sum_left a b c = byte_product-sum_left a b c

pub product-sum_right : (a b c : ℕ) → byte_product a (byte_sum b c) ≡ byte_sum (byte_product a b) (byte_product a c)
product-sum_right a b c = byte_product-sum_right a b c

-- ---- quotients

-- a product is 0 only where one of its bytes is
pub no_zero_divisors : (a b : ℕ) → a < 2 ^ 8 → b < 2 ^ 8 → byte_product a b ≡ 0 → (a ≡ 0) ⊎ (b ≡ 0)
no_zero_divisors a b p q e =
    elim (cases_eq a 0) [
      | inl a0 ↦ inl a0
      | inr x ↦ elim (cases_eq b 0) [ inl b0 ↦ inr b0 | inr y ↦ absurd (product_nonzero a b p q x y e) ]
    ]

-- a product determines its first byte, where the other is not 0
pub product_cancel : (q r b : ℕ) → q < 2 ^ 8 → r < 2 ^ 8 → b < 2 ^ 8 → b ≢ 0 → byte_product q b ≡ byte_product r b → q ≡ r
product_cancel q r b sq sr sb y e =
    elim (cases_eq q 0) [
      | inl q0 ↦
          let none : byte_product r b ≡ 0 = sym e ∙ ap (λ n. byte_product n b) q0 ∙ product-zero_left b sb in
          elim (no_zero_divisors r b sr sb none) [ inl r0 ↦ q0 ∙ sym r0 | inr b0 ↦ absurd (y b0) ]
      | inr x ↦ elim (cases_eq r 0) [
        | inl r0 ↦
            let none : byte_product q b ≡ 0 = e ∙ ap (λ n. byte_product n b) r0 ∙ product-zero_left b sb in
            absurd (product_nonzero q b sq sb x y none)
        | inr z ↦
            let same : (log_of q + log_of b) % 255 ≡ (log_of r + log_of b) % 255 = sym (nonzero_log q b sq sb x y) ∙ ap log_of e ∙ nonzero_log r b sr sb z y in
            let logs : log_of q ≡ log_of r = same_residue (log_of q) (log_of r) (log_of b) (log_of-lt q sq) (log_of-lt r sr) (log_of-lt b sb) same in
            sym (power-log q sq x) ∙ ap power_of_two logs ∙ power-log r sr z
      ]
    ]
  where
    same_residue : (i j k : ℕ) → i < 255 → j < 255 → k < 255 → (i + k) % 255 ≡ (j + k) % 255 → i ≡ j
    same_residue i j k p q r e = omega arith

-- the power whose product with b is a
abbrev pub quotient_by_logs : ℕ → ℕ → ℕ
quotient_by_logs a b = power_of_two ((log_of a + 255 - log_of b) % 255)

quotient_by_logs-product : (a b : ℕ) → a < 256 → b < 256 → a ≢ 0 → b ≢ 0 → byte_product (quotient_by_logs a b) b ≡ a
quotient_by_logs-product a b p q x y =
    let i = (log_of a + 255 - log_of b) % 255 in
    let la = log_of-lt a p in
    let lb = log_of-lt b q in
    let below : i < 255 = omega arith in
    let back : (i + log_of b) % 255 ≡ log_of a = around (log_of a) (log_of b) la lb in
    product_of_nonzero (power_of_two i) b (power-lt i below) q (λ e. omega (arith, power_pos i below)) y
    ∙ ap (λ n. power_of_two ((n + log_of b) % 255)) (log-power i below)
    ∙ ap power_of_two back ∙ power-log a p x
  where
    around : (i j : ℕ) → i < 255 → j < 255 → ((i + 255 - j) % 255 + j) % 255 ≡ i
    around i j p q = omega arith

find_only : (test : ℕ → Bool) (n a q : ℕ) → a ≤ q → q < a + n → test q ≡ true → ((x : ℕ) → x < q → test x ≡ false) → find test (range_with_len a n) ≡ Some q
find_only test zero a q low high here before = absurd (omega arith)
find_only test (suc n) a q low high here before =
    elim (cases_lt a q) [
      | inl less ↦
          let passed : test a ≡ false = before a less in
          rw passed (find_only test n (a + 1) q (omega arith) (omega arith) here before)
      | inr reached ↦
          let e : a ≡ q = omega arith in
          let found : test a ≡ true = ap test e ∙ here in
          rw found (ap Some e)
    ]

-- there is one byte whose product with the divisor is the dividend, and the quotient is that byte
pub quotient_unique : (a b q : ℕ) → b < 2 ^ 8 → q < 2 ^ 8 → b ≢ 0 → byte_product q b ≡ a → byte_quotient a b ≡ q
unfolding byte_quotient
quotient_unique a b q sb sq y e =
    ap (λ o. unwrap_or o 0) (find_only (λ x. byte_product x b == a) 256 0 q (omega arith) (omega arith) (eq-eqb (byte_product q b) a e) (λ x less.
    ne_eqb (byte_product x b) a (λ here. omega (arith, product_cancel x q b (omega arith) sq sb y (here ∙ sym e)))))

pub byte_quotient-logs : (a b : ℕ) → a < 2 ^ 8 → b < 2 ^ 8 → a ≢ 0 → b ≢ 0 → byte_quotient a b ≡ quotient_by_logs a b
byte_quotient-logs a b p q x y =
    quotient_unique a b (quotient_by_logs a b) q (power-lt ((log_of a + 255 - log_of b) % 255) (omega arith)) y (quotient_by_logs-product a b p q x y)

pub quotient-zero_left : (b : ℕ) → b < 2 ^ 8 → b ≢ 0 → byte_quotient 0 b ≡ 0
quotient-zero_left b q y = quotient_unique 0 b 0 q (omega arith) y (product-zero_left b q)

pub quotient-lt : (a b : ℕ) → a < 2 ^ 8 → b < 2 ^ 8 → b ≢ 0 → byte_quotient a b < 2 ^ 8
quotient-lt a b p q y =
    elim (cases_eq a 0) [
      | inl a0 ↦ rw a0 (omega (arith, quotient-zero_left b q y))
      | inr x ↦ omega (arith, byte_quotient-logs a b p q x y, power-lt ((log_of a + 255 - log_of b) % 255) (omega arith))
    ]

pub quotient_product : (a b : ℕ) → a < 2 ^ 8 → b < 2 ^ 8 → b ≢ 0 → byte_product (byte_quotient a b) b ≡ a
quotient_product a b p q y =
    elim (cases_eq a 0) [
      | inl a0 ↦ rw a0 (ap (λ n. byte_product n b) (quotient-zero_left b q y) ∙ product-zero_left b q)
      | inr x ↦ ap (λ n. byte_product n b) (byte_quotient-logs a b p q x y) ∙ quotient_by_logs-product a b p q x y
    ]

-- ---- powers

pub power-byte : (a e : ℕ) → a < 2 ^ 8 → byte_power a e < 2 ^ 8
unfolding byte_power
power-byte a zero p = omega arith
power-byte a (suc e) p = product-lt a (byte_power a e) p (power-byte a e p)

pub power-zero : (e : ℕ) → e ≢ 0 → byte_power 0 e ≡ 0
unfolding byte_power
power-zero zero h = absurd (h refl)
power-zero (suc e) h = product-zero_left (byte_power 0 e) (power-byte 0 e (omega arith))

pub power-by_logs : (a e : ℕ) → a < 2 ^ 8 → a ≢ 0 → byte_power a e ≡ power_of_two (log_of a * e % 255)
unfolding byte_power
power-by_logs a zero p x = ap (λ n. power_of_two (n % 255)) (sym (mul-zero (log_of a)))
power-by_logs a (suc e) p x =
    let i = log_of a * e % 255 in
    let below : i < 255 = omega arith in
    let more : (log_of a + i) % 255 ≡ log_of a * suc e % 255 = omega (arith, mul-suc (log_of a) e) in
    ap (byte_product a) (power-by_logs a e p x)
    ∙ product_of_nonzero a (power_of_two i) p (power-lt i below) x (λ e. omega (arith, power_pos i below))
    ∙ ap (λ n. power_of_two ((log_of a + n) % 255)) (log-power i below)
    ∙ ap power_of_two more

-- ---- the two tables

pub power_of_two-is : (i : ℕ) → i < 255 → power_of_two i ≡ byte_power 2 i
power_of_two-is i p =
    let same : 1 * i % 255 ≡ i = omega arith in
    sym (power-by_logs 2 i (omega arith) (λ e. omega arith) ∙ ap power_of_two same)
