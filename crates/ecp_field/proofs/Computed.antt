-- What the two tables hold, by computing it at each byte and at each pair of bytes.
use Rattle.std.proofs.Common.{◌≡◌, ◌≢◌, ℕ, zero, suc, ◌+◌, ◌%◌, ◌<◌, Bool, true, false, ◌&&◌, ◌||◌, cond, eqb, ltb, get_or, refl, ◌∙◌, subst, inl, inr, arith, ltb-true}
use Rattle.std.proofs.lemmas.Bool.{cases_lt, eqb-true, ne_eqb, and_parts, or_cases}
use Rattle.ecp_field.specs.Field.{byte_product, carryless_product, reduced}
use Rattle.ecp_field.specs.declared.tables.TheConstants.{EXP, LOG}

-- a test of each number below n
abbrev pub all_below : (ℕ → Bool) → ℕ → Bool
all_below test zero = true
all_below test (suc n) = test n && all_below test n

pub every_below : (test : ℕ → Bool) (n k : ℕ) → all_below test n ≡ true → k < n → test k ≡ true
every_below test zero k h l = absurd (omega arith)
every_below test (suc n) k h l =
    let parts = and_parts (test n) (all_below test n) h in
    elim (cases_lt k n) [ inl a ↦ every_below test n k parts.1 a | inr a ↦ let e : n ≡ k = omega arith in subst (λ x. test x ≡ true) e parts.0 ]

abbrev pub power_of_two : ℕ → ℕ
power_of_two i = get_or EXP i 0

abbrev pub log_of : ℕ → ℕ
log_of a = get_or LOG a 0

-- the product by the sum of the logarithms
abbrev pub product_by_logs : ℕ → ℕ → ℕ
product_by_logs a b = cond (eqb a 0 || eqb b 0) 0 (power_of_two ((log_of a + log_of b) % 255))

abbrev products_agree : ℕ → ℕ → Bool
products_agree a b = eqb (byte_product a b) (product_by_logs a b)

all_products_agree : all_below (λ a. all_below (products_agree a) 256) 256 ≡ true
unfolding byte_product carryless_product reduced
all_products_agree = refl

pub byte_product-logs : (a b : ℕ) → a < 256 → b < 256 → byte_product a b ≡ product_by_logs a b
byte_product-logs a b p q = eqb-true (byte_product a b) (product_by_logs a b) (every_below (products_agree a) 256 b (every_below (λ a. all_below (products_agree a) 256) 256 a all_products_agree p) q)

-- a byte other than 0 is the power that its logarithm names
abbrev log_agrees : ℕ → Bool
log_agrees a = ltb (log_of a) 255 && (eqb a 0 || eqb (power_of_two (log_of a)) a)

all_logs_agree : all_below log_agrees 256 ≡ true
all_logs_agree = refl

-- a power is a byte other than 0, and its logarithm its exponent
abbrev power_agrees : ℕ → Bool
power_agrees i = eqb (log_of (power_of_two i)) i && (ltb 0 (power_of_two i) && ltb (power_of_two i) 256)

all_powers_agree : all_below power_agrees 255 ≡ true
all_powers_agree = refl

pub log_of-lt : (a : ℕ) → a < 256 → log_of a < 255
log_of-lt a p = ltb-true (log_of a) 255 (and_parts (ltb (log_of a) 255) (eqb a 0 || eqb (power_of_two (log_of a)) a) (every_below log_agrees 256 a all_logs_agree p)).0

pub power-log : (a : ℕ) → a < 256 → a ≢ 0 → power_of_two (log_of a) ≡ a
power-log a p nonzero =
    elim (or_cases (eqb a 0) (eqb (power_of_two (log_of a)) a) (and_parts (ltb (log_of a) 255) (eqb a 0 || eqb (power_of_two (log_of a)) a) (every_below log_agrees 256 a all_logs_agree p)).1) [
      | inl none ↦ absurd (nonzero (eqb-true a 0 none))
      | inr same ↦ eqb-true (power_of_two (log_of a)) a same
    ]

pub log-power : (i : ℕ) → i < 255 → log_of (power_of_two i) ≡ i
log-power i p = eqb-true (log_of (power_of_two i)) i (and_parts (eqb (log_of (power_of_two i)) i) (ltb 0 (power_of_two i) && ltb (power_of_two i) 256) (every_below power_agrees 255 i all_powers_agree p)).0

power_range : (i : ℕ) → i < 255 → (0 < power_of_two i) × (power_of_two i < 256)
power_range i p =
    let both = and_parts (ltb 0 (power_of_two i)) (ltb (power_of_two i) 256) (and_parts (eqb (log_of (power_of_two i)) i) (ltb 0 (power_of_two i) && ltb (power_of_two i) 256) (every_below power_agrees 255 i all_powers_agree p)).1 in
    (ltb-true 0 (power_of_two i) both.0, ltb-true (power_of_two i) 256 both.1)

pub power_pos : (i : ℕ) → i < 255 → 0 < power_of_two i
power_pos i p = (power_range i p).0

pub power-lt : (i : ℕ) → i < 255 → power_of_two i < 256
power-lt i p = (power_range i p).1

-- the product of two bytes other than 0 is a power, and so is never 0
pub product_of_nonzero : (a b : ℕ) → a < 256 → b < 256 → a ≢ 0 → b ≢ 0 → byte_product a b ≡ power_of_two ((log_of a + log_of b) % 255)
product_of_nonzero a b p q x y =
    let ea : eqb a 0 ≡ false = ne_eqb a 0 x in
    let eb : eqb b 0 ≡ false = ne_eqb b 0 y in
    byte_product-logs a b p q ∙ rw (ea, eb) refl
