-- Laws of byte sums and products along lists.
use Rattle.std.proofs.Common.{◌≡◌, ℕ, zero, suc, ◌^◌, ◌<◌, List, [], ◌∷◌, ◌++◌, length, get_or, take, drop, replicate, refl, ap, sym, ◌∙◌, arith}
use Rattle.std.proofs.lemmas.List.{get_or-map, length-map}
use Rattle.ecp_field.specs.Field.{byte_sum, byte_product}
use Rattle.ecp_field.specs.Lists.{sums, scaled, AreBytes}
use Rattle.ecp_field.proofs.FieldLaws.{sum-lt, sum_comm, sum_assoc, sum-zero_right, sum-self, product-lt, product_assoc, product-one_left, product-zero_left, product-sum_left, product-sum_right}

-- ---- sums

pub length-sums : (xs ys : List ℕ) → length xs ≡ length ys → length (sums xs ys) ≡ length xs
length-sums [] ys e = refl
length-sums (x ∷ xs) [] e = absurd (omega arith)
length-sums (x ∷ xs) (y ∷ ys) e = ap suc (length-sums xs ys (omega arith))

pub get_or-sums : (xs ys : List ℕ) (k : ℕ) → length xs ≡ length ys → get_or (sums xs ys) k 0 ≡ byte_sum (get_or xs k 0) (get_or ys k 0)
get_or-sums [] [] k e = refl
get_or-sums [] (y ∷ ys) k e = absurd (omega arith)
get_or-sums (x ∷ xs) [] k e = absurd (omega arith)
get_or-sums (x ∷ xs) (y ∷ ys) zero e = refl
get_or-sums (x ∷ xs) (y ∷ ys) (suc k) e = get_or-sums xs ys k (omega arith)

pub AreBytes-rest : (x : ℕ) (xs : List ℕ) → AreBytes (x ∷ xs) → AreBytes xs
AreBytes-rest x xs b k = b (suc k)

pub AreBytes-sums : (xs ys : List ℕ) → AreBytes xs → AreBytes ys → AreBytes (sums xs ys)
AreBytes-sums [] ys a b k = omega arith
AreBytes-sums (x ∷ xs) [] a b k = omega arith
AreBytes-sums (x ∷ xs) (y ∷ ys) a b zero = sum-lt x y (a 0) (b 0)
AreBytes-sums (x ∷ xs) (y ∷ ys) a b (suc k) = AreBytes-sums xs ys (AreBytes-rest x xs a) (AreBytes-rest y ys b) k

pub sums_comm : (xs ys : List ℕ) → sums xs ys ≡ sums ys xs
sums_comm [] [] = refl
sums_comm [] (y ∷ ys) = refl
sums_comm (x ∷ xs) [] = refl
sums_comm (x ∷ xs) (y ∷ ys) = ap (λ z. z ∷ sums xs ys) (sum_comm x y) ∙ ap (λ zs. byte_sum y x ∷ zs) (sums_comm xs ys)

pub sums_assoc : (xs ys zs : List ℕ) → sums (sums xs ys) zs ≡ sums xs (sums ys zs)
sums_assoc [] ys zs = refl
sums_assoc (x ∷ xs) [] zs = refl
sums_assoc (x ∷ xs) (y ∷ ys) [] = refl
sums_assoc (x ∷ xs) (y ∷ ys) (z ∷ zs) =
    ap (λ u. u ∷ sums (sums xs ys) zs) (sum_assoc x y z) ∙ ap (λ us. byte_sum x (byte_sum y z) ∷ us) (sums_assoc xs ys zs)

-- zeros add nothing
pub sums-zeros : (xs : List ℕ) (n : ℕ) → length xs ≡ n → sums xs (replicate n 0) ≡ xs
sums-zeros [] n e = refl
sums-zeros (x ∷ xs) zero e = absurd (omega arith)
sums-zeros (x ∷ xs) (suc n) e =
    ap (λ z. z ∷ sums xs (replicate n 0)) (sum-zero_right x) ∙ ap (λ zs. x ∷ zs) (sums-zeros xs n (omega arith))

-- what is added twice cancels
pub sums-self : (xs : List ℕ) → sums xs xs ≡ replicate (length xs) 0
sums-self [] = refl
sums-self (x ∷ xs) = ap (λ z. z ∷ sums xs xs) (sum-self x) ∙ ap (λ zs. 0 ∷ zs) (sums-self xs)

pub sums-append : (us vs xs ys : List ℕ) → length us ≡ length xs → sums (us ++ vs) (xs ++ ys) ≡ sums us xs ++ sums vs ys
sums-append [] vs [] ys e = refl
sums-append [] vs (x ∷ xs) ys e = absurd (omega arith)
sums-append (u ∷ us) vs [] ys e = absurd (omega arith)
sums-append (u ∷ us) vs (x ∷ xs) ys e = ap (λ zs. byte_sum u x ∷ zs) (sums-append us vs xs ys (omega arith))

pub take-sums : (n : ℕ) (xs ys : List ℕ) → take n (sums xs ys) ≡ sums (take n xs) (take n ys)
take-sums zero xs ys = refl
take-sums (suc n) [] ys = refl
take-sums (suc n) (x ∷ xs) [] = refl
take-sums (suc n) (x ∷ xs) (y ∷ ys) = ap (λ zs. byte_sum x y ∷ zs) (take-sums n xs ys)

pub drop-sums : (n : ℕ) (xs ys : List ℕ) → length xs ≡ length ys → drop n (sums xs ys) ≡ sums (drop n xs) (drop n ys)
drop-sums zero xs ys e = refl
drop-sums (suc n) [] ys e = refl
drop-sums (suc n) (x ∷ xs) [] e = absurd (omega arith)
drop-sums (suc n) (x ∷ xs) (y ∷ ys) e = drop-sums n xs ys (omega arith)

-- ---- products with a constant

pub length-scaled : (c : ℕ) (xs : List ℕ) → length (scaled c xs) ≡ length xs
length-scaled c xs = length-map xs (byte_product c)

pub get_or-scaled : (c : ℕ) (xs : List ℕ) (k : ℕ) → k < length xs → get_or (scaled c xs) k 0 ≡ byte_product c (get_or xs k 0)
get_or-scaled c xs k h = get_or-map (byte_product c) xs k 0 0 h

pub AreBytes-scaled : (c : ℕ) (xs : List ℕ) → c < 2 ^ 8 → AreBytes xs → AreBytes (scaled c xs)
AreBytes-scaled c [] s b k = omega arith
AreBytes-scaled c (x ∷ xs) s b zero = product-lt c x s (b 0)
AreBytes-scaled c (x ∷ xs) s b (suc k) = AreBytes-scaled c xs s (AreBytes-rest x xs b) k

pub scaled-sums : (c : ℕ) (xs ys : List ℕ) → scaled c (sums xs ys) ≡ sums (scaled c xs) (scaled c ys)
scaled-sums c [] ys = refl
scaled-sums c (x ∷ xs) [] = refl
scaled-sums c (x ∷ xs) (y ∷ ys) =
    ap (λ z. z ∷ scaled c (sums xs ys)) (product-sum_right c x y)
    ∙ ap (λ zs. byte_sum (byte_product c x) (byte_product c y) ∷ zs) (scaled-sums c xs ys)

-- the sum of two constants
pub scaled-sum : (c d : ℕ) (xs : List ℕ) → scaled (byte_sum c d) xs ≡ sums (scaled c xs) (scaled d xs)
scaled-sum c d [] = refl
scaled-sum c d (x ∷ xs) =
    ap (λ z. z ∷ scaled (byte_sum c d) xs) (product-sum_left c d x)
    ∙ ap (λ zs. byte_sum (byte_product c x) (byte_product d x) ∷ zs) (scaled-sum c d xs)

pub scaled-scaled : (c d : ℕ) (xs : List ℕ) → c < 2 ^ 8 → d < 2 ^ 8 → AreBytes xs → scaled c (scaled d xs) ≡ scaled (byte_product c d) xs
scaled-scaled c d [] p q b = refl
scaled-scaled c d (x ∷ xs) p q b =
    ap (λ z. z ∷ scaled c (scaled d xs)) (sym (product_assoc c d x p q (b 0)))
    ∙ ap (λ zs. byte_product (byte_product c d) x ∷ zs) (scaled-scaled c d xs p q (AreBytes-rest x xs b))

pub scaled-one : (xs : List ℕ) → AreBytes xs → scaled 1 xs ≡ xs
scaled-one [] b = refl
scaled-one (x ∷ xs) b = ap (λ z. z ∷ scaled 1 xs) (product-one_left x (b 0)) ∙ ap (λ zs. x ∷ zs) (scaled-one xs (AreBytes-rest x xs b))

pub scaled-zero : (xs : List ℕ) → AreBytes xs → scaled 0 xs ≡ replicate (length xs) 0
scaled-zero [] b = refl
scaled-zero (x ∷ xs) b = ap (λ z. z ∷ scaled 0 xs) (product-zero_left x (b 0)) ∙ ap (λ zs. 0 ∷ zs) (scaled-zero xs (AreBytes-rest x xs b))
