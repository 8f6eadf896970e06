-- Byte sums of many terms.
use Rattle.std.proofs.Common.{◌≡◌, ◌≢◌, ℕ, zero, suc, ◌^◌, ◌<◌, if◌then◌else◌, refl, ap, sym, ◌∙◌, inl, inr, arith, eq-eqb}
use Rattle.std.proofs.lemmas.Bool.{cases_eq, ne_eqb}
use Rattle.ecp_field.specs.Field.{byte_sum, byte_product}
use Rattle.ecp_field.proofs.FieldLaws.{sum-lt, sum-zero_left, sum-zero_right, product-sum_left, product-sum_right, product-zero_left, product-zero_right, product-one_left, product-one_right}
use Rattle.ecp_field.proofs.Exclusive.{xor_interchange}
use Rattle.ecp_inverse.specs.Cells.{total, identity}

pub total-same : (n : ℕ) (f g : ℕ → ℕ) → ((k : ℕ) → k < n → f k ≡ g k) → total n f ≡ total n g
unfolding total
total-same zero f g h = refl
total-same (suc n) f g h =
    ap (λ x. byte_sum x (f n)) (total-same n f g (λ k lt. h k (omega arith))) ∙ ap (byte_sum (total n g)) (h n (omega arith))

pub total-byte : (n : ℕ) (f : ℕ → ℕ) → ((k : ℕ) → k < n → f k < 2 ^ 8) → total n f < 2 ^ 8
unfolding total
total-byte zero f h = omega arith
total-byte (suc n) f h = sum-lt (total n f) (f n) (total-byte n f (λ k lt. h k (omega arith))) (h n (omega arith))

pub total-sum : (n : ℕ) (f g : ℕ → ℕ) → total n (λ k. byte_sum (f k) (g k)) ≡ byte_sum (total n f) (total n g)
unfolding total
total-sum zero f g = refl
total-sum (suc n) f g =
    ap (λ x. byte_sum x (byte_sum (f n) (g n))) (total-sum n f g) ∙ xor_interchange (total n f) (total n g) (f n) (g n)

pub total-zero : (n : ℕ) (f : ℕ → ℕ) → ((k : ℕ) → k < n → f k ≡ 0) → total n f ≡ 0
unfolding total
total-zero zero f h = refl
total-zero (suc n) f h =
    ap (λ x. byte_sum x (f n)) (total-zero n f (λ k lt. h k (omega arith))) ∙ sum-zero_left (f n) ∙ h n (omega arith)

-- the one term that is not 0
pub total-one : (n : ℕ) (f : ℕ → ℕ) (j : ℕ) → j < n → ((k : ℕ) → k < n → k ≢ j → f k ≡ 0) → total n f ≡ f j
unfolding total
total-one zero f j lt h = absurd (omega arith)
total-one (suc n) f j lt h =
    elim (cases_eq n j) [
      | inl same ↦
          ap (λ x. byte_sum x (f n)) (total-zero n f (λ k less. h k (omega arith) (λ e. omega arith)))
          ∙ sum-zero_left (f n) ∙ ap f same
      | inr other ↦
          ap (byte_sum (total n f)) (h n (omega arith) other)
          ∙ sum-zero_right (total n f)
          ∙ total-one n f j (below n j lt other) (λ k less ne. h k (omega arith) ne)
    ]
  where
    below : (n j : ℕ) → j < suc n → n ≢ j → j < n
    below n j lt other = elim (cases_eq n j) [ inl same ↦ absurd (other same) | inr ne ↦ omega arith ]

pub total-scaled : (n c : ℕ) (f : ℕ → ℕ) → c < 2 ^ 8 → byte_product c (total n f) ≡ total n (λ k. byte_product c (f k))
unfolding total
total-scaled zero c f b = product-zero_right c b
total-scaled (suc n) c f b = product-sum_right c (total n f) (f n) ∙ ap (λ x. byte_sum x (byte_product c (f n))) (total-scaled n c f b)

pub total-scaled_right : (n c : ℕ) (f : ℕ → ℕ) → c < 2 ^ 8 → byte_product (total n f) c ≡ total n (λ k. byte_product (f k) c)
unfolding total
total-scaled_right zero c f b = product-zero_left c b
total-scaled_right (suc n) c f b = product-sum_left (total n f) (f n) c ∙ ap (λ x. byte_sum x (byte_product (f n) c)) (total-scaled_right n c f b)

-- sums over rows and columns in either order
pub total-swap : (n m : ℕ) (f : ℕ → ℕ → ℕ) → total n (λ k. total m (λ l. f k l)) ≡ total m (λ l. total n (λ k. f k l))
unfolding total
total-swap zero m f = sym (total-zero m (λ l. 0) (λ l lt. refl))
total-swap (suc n) m f =
    ap (λ x. byte_sum x (total m (f n))) (total-swap n m f) ∙ sym (total-sum m (λ l. total n (λ k. f k l)) (f n))

-- ---- the identity

pub identity-same : (i : ℕ) → identity i i ≡ 1
identity-same i = ap (λ t. if t then 1 else 0) (eq-eqb i i refl)

pub identity-other : (i j : ℕ) → i ≢ j → identity i j ≡ 0
identity-other i j ne = ap (λ t. if t then 1 else 0) (ne_eqb i j ne)

pub identity-byte : (i j : ℕ) → identity i j < 2 ^ 8
identity-byte i j = elim (cases_eq i j) [ inl same ↦ rw same (omega (arith, identity-same j)) | inr ne ↦ omega (arith, identity-other i j ne) ]

-- a row of the identity picks a term
pub total-identity_left : (n i : ℕ) (y : ℕ → ℕ) → i < n → ((k : ℕ) → y k < 2 ^ 8) → total n (λ k. byte_product (identity i k) (y k)) ≡ y i
total-identity_left n i y lt b =
    total-one n (λ k. byte_product (identity i k) (y k)) i lt (λ k less ne. ap (λ x. byte_product x (y k)) (identity-other i k (λ e. ne (sym e))) ∙ product-zero_left (y k) (b k))
    ∙ ap (λ x. byte_product x (y i)) (identity-same i) ∙ product-one_left (y i) (b i)

-- and so does a column
pub total-identity_right : (n j : ℕ) (y : ℕ → ℕ) → j < n → ((k : ℕ) → k < n → y k < 2 ^ 8) → total n (λ k. byte_product (y k) (identity k j)) ≡ y j
total-identity_right n j y lt b =
    total-one n (λ k. byte_product (y k) (identity k j)) j lt (λ k less ne. ap (byte_product (y k)) (identity-other k j ne) ∙ product-zero_right (y k) (b k less))
    ∙ ap (byte_product (y j)) (identity-same j) ∙ product-one_right (y j) (b j lt)
