-- Interpolation through any points gives back each function that is a product of few enough factors.
use Rattle.std.proofs.Common.{◌≡◌, ◌≢◌, ℕ, zero, suc, ◌^◌, ◌<◌, true, false, cond, eqb, List, [], ◌∷◌, length, refl, ap, sym, ◌∙◌, inl, inr, arith, eq-eqb}
use Rattle.std.specs.List.{AllByRecursion}
use Rattle.std.proofs.lemmas.Bool.{cases_eq, ne_eqb}
use Rattle.ecp_field.specs.Field.{byte_sum, byte_product, byte_quotient}
use Rattle.ecp_field.specs.Lists.{AreBytes}
use Rattle.ecp_field.proofs.Exclusive.{xor_interchange}
use Rattle.ecp_field.proofs.FieldLaws.{sum-lt, sum_comm, sum_assoc, sum-zero_left, sum-zero_right, sum-self, product-lt, product_comm, product_assoc, product-zero_left, product-zero_right, product-one_left, product-one_right, product-sum_left, product-sum_right, quotient_product, quotient_unique, quotient-lt}
use Rattle.ecp_code.specs.Weights.{weight}
use Rattle.ecp_code.proofs.WeightLaws.{sum_apart, factor, factor-lt, weight-same, weight-other, weight-lt}

-- the values of a function at the items, added up
abbrev pub total : (ℕ → ℕ) → List ℕ → ℕ
total f [] = 0
total f (s ∷ points) = byte_sum (f s) (total f points)

-- the function with these values at the points, interpolated at t
abbrev pub interpolated : List ℕ → (ℕ → ℕ) → ℕ → ℕ
interpolated points f t = total (λ s. byte_product (weight points s t) (f s)) points

-- bytes, no two of them alike
abbrev pub Points : List ℕ → Type 0
Points [] = Unit {0}
Points (s ∷ points) = (s < 2 ^ 8) × (AllByRecursion (λ m. m ≢ s) points × Points points)

-- bytes go to bytes
abbrev pub IsByteFunction : (ℕ → ℕ) → Type 0
IsByteFunction f = (s : ℕ) → s < 2 ^ 8 → f s < 2 ^ 8

-- ---- products of several bytes

product_swap : (w u g : ℕ) → w < 2 ^ 8 → u < 2 ^ 8 → g < 2 ^ 8 → byte_product w (byte_product u g) ≡ byte_product u (byte_product w g)
product_swap w u g a b c = sym (product_assoc w u g a b c) ∙ ap (λ x. byte_product x g) (product_comm w u a b) ∙ product_assoc u w g b a c

product_interchange : (q w u g : ℕ) → q < 2 ^ 8 → w < 2 ^ 8 → u < 2 ^ 8 → g < 2 ^ 8
    → byte_product (byte_product q w) (byte_product u g) ≡ byte_product (byte_product q u) (byte_product w g)
product_interchange q w u g a b c d =
    product_assoc q w (byte_product u g) a b (product-lt u g c d)
    ∙ ap (byte_product q) (product_swap w u g b c d)
    ∙ sym (product_assoc q u (byte_product w g) a c (product-lt w g b d))

-- a difference goes by any third byte
sum_by_way : (s a m : ℕ) → byte_sum (byte_sum s a) (byte_sum a m) ≡ byte_sum s m
sum_by_way s a m =
    sum_assoc s a (byte_sum a m) ∙ ap (byte_sum s) (sym (sum_assoc a a m) ∙ ap (λ x. byte_sum x m) (sum-self a) ∙ sum-zero_left m)

inverse : ℕ → ℕ
inverse b = byte_quotient 1 b

inverse-lt : (b : ℕ) → b < 2 ^ 8 → b ≢ 0 → inverse b < 2 ^ 8
unfolding inverse
inverse-lt b h nonzero = quotient-lt 1 b (omega arith) h nonzero

inverse-product : (b : ℕ) → b < 2 ^ 8 → b ≢ 0 → byte_product (inverse b) b ≡ 1
unfolding inverse
inverse-product b h nonzero = quotient_product 1 b (omega arith) h nonzero

-- a quotient is the product with the inverse
quotient_by_inverse : (a b : ℕ) → a < 2 ^ 8 → b < 2 ^ 8 → b ≢ 0 → byte_quotient a b ≡ byte_product (inverse b) a
quotient_by_inverse a b p q nonzero =
    let c = inverse b in
    let small : c < 2 ^ 8 = inverse-lt b q nonzero in
    quotient_unique a b (byte_product c a) q (product-lt c a small p) nonzero (
    ap (λ x. byte_product x b) (product_comm c a small p) ∙ product_assoc a c b p small q
    ∙ ap (byte_product a) (inverse-product b q nonzero) ∙ product-one_right a p)

-- ---- totals

each_point : (P : ℕ → Type 0) (a : ℕ) (points : List ℕ) → AllByRecursion (λ m. m ≢ a) points → Points points
    → ((s : ℕ) → s < 2 ^ 8 → s ≢ a → P s) → AllByRecursion P points
each_point P a [] apart bytes holds = tt
each_point P a (s ∷ points) apart bytes holds = (holds s bytes.0 apart.0, each_point P a points apart.1 bytes.1.1 holds)

pub every_point : (P : ℕ → Type 0) (points : List ℕ) → Points points → ((s : ℕ) → s < 2 ^ 8 → P s) → AllByRecursion P points
every_point P [] bytes holds = tt
every_point P (s ∷ points) bytes holds = (holds s bytes.0, every_point P points bytes.1.1 holds)

pub AreBytes-points : (points : List ℕ) → Points points → AreBytes points
AreBytes-points [] p k = omega arith
AreBytes-points (s ∷ points) p zero = p.0
AreBytes-points (s ∷ points) p (suc k) = AreBytes-points points p.1.1 k

total-same : (f h : ℕ → ℕ) (points : List ℕ) → AllByRecursion (λ s. f s ≡ h s) points → total f points ≡ total h points
total-same f h [] same = refl
total-same f h (s ∷ points) same = ap (λ x. byte_sum x (total f points)) same.0 ∙ ap (byte_sum (h s)) (total-same f h points same.1)

total-sum : (f h : ℕ → ℕ) (points : List ℕ) → total (λ s. byte_sum (f s) (h s)) points ≡ byte_sum (total f points) (total h points)
total-sum f h [] = sym (sum-self 0)
total-sum f h (s ∷ points) =
    ap (byte_sum (byte_sum (f s) (h s))) (total-sum f h points) ∙ xor_interchange (f s) (h s) (total f points) (total h points)

total-product : (c : ℕ) (f : ℕ → ℕ) (points : List ℕ) → c < 2 ^ 8 → total (λ s. byte_product c (f s)) points ≡ byte_product c (total f points)
total-product c f [] small = sym (product-zero_right c small)
total-product c f (s ∷ points) small = ap (byte_sum (byte_product c (f s))) (total-product c f points small) ∙ sym (product-sum_right c (f s) (total f points))

-- ---- interpolation is linear

weight-byte : (points : List ℕ) (s t : ℕ) → Points points → s < 2 ^ 8 → t < 2 ^ 8 → weight points s t < 2 ^ 8
weight-byte points s t p h l = weight-lt points s t (AreBytes-points points p) h l

interpolated-same : (points : List ℕ) (f h : ℕ → ℕ) (t : ℕ) → Points points → ((s : ℕ) → s < 2 ^ 8 → f s ≡ h s) → interpolated points f t ≡ interpolated points h t
interpolated-same points f h t p same =
    total-same (λ s. byte_product (weight points s t) (f s)) (λ s. byte_product (weight points s t) (h s)) points (every_point (λ s. byte_product (weight points s t) (f s) ≡
    byte_product (weight points s t) (h s)) points p (λ s small. ap (byte_product (weight points s t)) (same s small)))

interpolated-sum : (points : List ℕ) (f h : ℕ → ℕ) (t : ℕ) → Points points
    → interpolated points (λ s. byte_sum (f s) (h s)) t ≡ byte_sum (interpolated points f t) (interpolated points h t)
interpolated-sum points f h t p =
    let w = λ (s : ℕ). weight points s t in
    total-same (λ s. byte_product (w s) (byte_sum (f s) (h s))) (λ s. byte_sum (byte_product (w s) (f s)) (byte_product (w s) (h s))) points (every_point (λ s. byte_product (w s) (byte_sum (f s) (h s))
    ≡ byte_sum (byte_product (w s) (f s)) (byte_product (w s) (h s))) points p (λ s small. product-sum_right (w s) (f s) (h s)))
    ∙ total-sum (λ s. byte_product (w s) (f s)) (λ s. byte_product (w s) (h s)) points

interpolated-product : (points : List ℕ) (c : ℕ) (f : ℕ → ℕ) (t : ℕ) → Points points → c < 2 ^ 8 → IsByteFunction f → t < 2 ^ 8
    → interpolated points (λ s. byte_product c (f s)) t ≡ byte_product c (interpolated points f t)
interpolated-product points c f t p small bytes l =
    let w = λ (s : ℕ). weight points s t in
    total-same (λ s. byte_product (w s) (byte_product c (f s))) (λ s. byte_product c (byte_product (w s) (f s))) points (every_point (λ s. byte_product (w s) (byte_product c (f s))
    ≡ byte_product c (byte_product (w s) (f s))) points p (λ s h. product_swap (w s) c (f s) (weight-byte points s t p h l) small (bytes s h)))
    ∙ total-product c (λ s. byte_product (w s) (f s)) points small

-- ---- a factor that is 0 at a point goes out, and the point with it

term_out : (a : ℕ) (points : List ℕ) (g : ℕ → ℕ) (t s : ℕ) → a < 2 ^ 8 → Points points → IsByteFunction g → t < 2 ^ 8 → s < 2 ^ 8 → s ≢ a
    → byte_product (weight (a ∷ points) s t) (byte_product (byte_sum s a) (g s)) ≡ byte_product (byte_sum t a) (byte_product (weight points s t) (g s))
term_out a points g t s sa p bytes st ss apart =
    let turned : a ≢ s = λ e. apart (sym e) in
    let q = factor a s t in
    let w = weight points s t in
    let u = byte_sum s a in
    let su : u < 2 ^ 8 = sum-lt s a ss sa in
    ap (λ x. byte_product x (byte_product u (g s))) (weight-other a points s t turned)
    ∙ product_interchange q w u (g s) (factor-lt a s t sa ss st turned) (weight-byte points s t p ss st) su (bytes s ss)
    ∙ ap (λ x. byte_product x (byte_product w (g s))) (quotient_product (byte_sum t a) u (sum-lt t a st sa) su (sum_apart s a apart))

interpolated-out : (a : ℕ) (points : List ℕ) (g : ℕ → ℕ) (t : ℕ) → Points (a ∷ points) → IsByteFunction g → t < 2 ^ 8
    → interpolated (a ∷ points) (λ s. byte_product (byte_sum s a) (g s)) t ≡ byte_product (byte_sum t a) (interpolated points g t)
interpolated-out a points g t p bytes st =
    let rest = p.1.1 in
    let f = λ (s : ℕ). byte_product (weight (a ∷ points) s t) (byte_product (byte_sum s a) (g s)) in
    let h = λ (s : ℕ). byte_product (byte_sum t a) (byte_product (weight points s t) (g s)) in
    let own : f a ≡ 0 =
    ap (λ x. byte_product (weight (a ∷ points) a t) (byte_product x (g a))) (sum-self a)
    ∙ ap (byte_product (weight (a ∷ points) a t)) (product-zero_left (g a) (bytes a p.0))
    ∙ product-zero_right (weight (a ∷ points) a t) (weight-byte (a ∷ points) a t p p.0 st) in
    ap (λ x. byte_sum x (total f points)) own
    ∙ sum-zero_left (total f points)
    ∙ total-same f h points (each_point (λ s. f s ≡ h s) a points p.1.0 rest (λ s ss apart. term_out a points g t s p.0 rest bytes st ss apart))
    ∙ total-product (byte_sum t a) (λ s. byte_product (weight points s t) (g s)) points (sum-lt t a st p.0)

-- ---- the order of two points is free

weight-swap : (a b : ℕ) (points : List ℕ) (s t : ℕ) → Points (a ∷ b ∷ points) → s < 2 ^ 8 → t < 2 ^ 8 → weight (a ∷ b ∷ points) s t ≡ weight (b ∷ a ∷ points) s t
weight-swap a b points s t p ss st =
    elim (cases_eq a s) [
      | inl at_a ↦ elim (cases_eq b s) [
        | inl at_b ↦
            weight-same a (b ∷ points) s t at_a ∙ weight-same b points s t at_b
            ∙ sym (weight-same b (a ∷ points) s t at_b ∙ weight-same a points s t at_a)
        | inr off_b ↦
            weight-same a (b ∷ points) s t at_a ∙ weight-other b points s t off_b
            ∙ sym (weight-other b (a ∷ points) s t off_b ∙ ap (byte_product (factor b s t)) (weight-same a points s t at_a))
      ]
      | inr off_a ↦ elim (cases_eq b s) [
        | inl at_b ↦
            weight-other a (b ∷ points) s t off_a ∙ ap (byte_product (factor a s t)) (weight-same b points s t at_b)
            ∙ sym (weight-same b (a ∷ points) s t at_b ∙ weight-other a points s t off_a)
        | inr off_b ↦
            weight-other a (b ∷ points) s t off_a ∙ ap (byte_product (factor a s t)) (weight-other b points s t off_b)
            ∙ product_swap (factor a s t) (factor b s t) (weight points s t) (factor-lt a s t p.0 ss st off_a) (factor-lt b s t p.1.1.0 ss st off_b) (weight-byte points s t p.1.1.1.1 ss st)
            ∙ sym (weight-other b (a ∷ points) s t off_b ∙ ap (byte_product (factor b s t)) (weight-other a points s t off_a))
      ]
    ]

Points-swap : (a b : ℕ) (points : List ℕ) → Points (a ∷ b ∷ points) → Points (b ∷ a ∷ points)
Points-swap a b points p = (p.1.1.0, (((λ e. p.1.0.0 (sym e)), p.1.1.1.0), (p.0, (p.1.0.1, p.1.1.1.1))))

interpolated-swap : (a b : ℕ) (points : List ℕ) (f : ℕ → ℕ) (t : ℕ) → Points (a ∷ b ∷ points) → t < 2 ^ 8
    → interpolated (a ∷ b ∷ points) f t ≡ interpolated (b ∷ a ∷ points) f t
interpolated-swap a b points f t p st =
    let g = λ (s : ℕ). byte_product (weight (a ∷ b ∷ points) s t) (f s) in
    let h = λ (s : ℕ). byte_product (weight (b ∷ a ∷ points) s t) (f s) in
    total-same g h (a ∷ b ∷ points) (every_point (λ s. g s ≡ h s) (a ∷ b ∷ points) p (λ s ss. ap (λ x. byte_product x (f s)) (weight-swap a b points s t p ss st)))
    ∙ sym (sum_assoc (h a) (h b) (total h points)) ∙ ap (λ x. byte_sum x (total h points)) (sum_comm (h a) (h b)) ∙ sum_assoc (h b) (h a) (total h points)

-- ---- the weights add up to 1

one_by_two : (a b s : ℕ) → a < 2 ^ 8 → b < 2 ^ 8 → s < 2 ^ 8 → b ≢ a
    → 1 ≡ byte_product (inverse (byte_sum a b)) (byte_sum (byte_product (byte_sum s a) 1) (byte_product (byte_sum s b) 1))
one_by_two a b s p q r apart =
    let way : byte_sum (byte_product (byte_sum s a) 1) (byte_product (byte_sum s b) 1) ≡ byte_sum a b =
    ap (λ x. byte_sum x (byte_product (byte_sum s b) 1)) (product-one_right (byte_sum s a) (sum-lt s a r p) ∙ sum_comm s a)
    ∙ ap (byte_sum (byte_sum a s)) (product-one_right (byte_sum s b) (sum-lt s b r q)) ∙ sum_by_way a s b in
    sym (ap (byte_product (inverse (byte_sum a b))) way ∙ inverse-product (byte_sum a b) (sum-lt a b p q) (sum_apart a b (λ e. apart (sym e))))

pub weights-total : (points : List ℕ) (a t : ℕ) → Points (a ∷ points) → t < 2 ^ 8 → interpolated (a ∷ points) (λ _. 1) t ≡ 1
weights-total [] a t p st = sum-zero_right (byte_product (weight (a ∷ []) a t) 1) ∙ ap (λ x. byte_product x 1) (weight-same a [] a t refl) ∙ product-one_left 1 (omega arith)
weights-total (b ∷ points) a t p st =
    let both = a ∷ b ∷ points in
    let sa = p.0 in
    let sb = p.1.1.0 in
    let apart = p.1.0.0 in
    let turned = Points-swap a b points p in
    let c = inverse (byte_sum a b) in
    let sc : c < 2 ^ 8 = inverse-lt (byte_sum a b) (sum-lt a b sa sb) (sum_apart a b (λ e. apart (sym e))) in
    let by_a = λ (s : ℕ). byte_product (byte_sum s a) 1 in
    let by_b = λ (s : ℕ). byte_product (byte_sum s b) 1 in
    let one_is_byte : IsByteFunction (λ _. 1) = λ s h. omega arith in
    let bytes : IsByteFunction (λ s. byte_sum (by_a s) (by_b s)) =
    λ s h. sum-lt (by_a s) (by_b s) (product-lt (byte_sum s a) 1 (sum-lt s a h sa) (omega arith)) (product-lt (byte_sum s b) 1 (sum-lt s b h sb) (omega arith)) in
    interpolated-same both (λ _. 1) (λ s. byte_product c (byte_sum (by_a s) (by_b s))) t p (λ s h. one_by_two a b s sa sb h apart)
    ∙ interpolated-product both c (λ s. byte_sum (by_a s) (by_b s)) t p sc bytes st
    ∙ ap (byte_product c) (
    interpolated-sum both by_a by_b t p
    ∙ ap (λ x. byte_sum x (interpolated both by_b t)) (
    interpolated-out a (b ∷ points) (λ _. 1) t p one_is_byte st ∙ ap (byte_product (byte_sum t a)) (weights-total points b t p.1.1 st))
    ∙ ap (byte_sum (by_a t)) (
    interpolated-swap a b points by_b t p st ∙ interpolated-out b (a ∷ points) (λ _. 1) t turned one_is_byte st
    ∙ ap (byte_product (byte_sum t b)) (weights-total points a t turned.1.1 st)))
    ∙ sym (one_by_two a b t sa sb st apart)

-- ---- a product of fewer factors than points is what its values at the points interpolate

-- how many of the rows are other than j
abbrev pub others : ℕ → List ℕ → ℕ
others j [] = 0
others j (m ∷ rows) = cond (eqb m j) (others j rows) (suc (others j rows))

pub others-same : (j m : ℕ) (rows : List ℕ) → m ≡ j → others j (m ∷ rows) ≡ others j rows
others-same j m rows h = let e : eqb m j ≡ true = eq-eqb m j h in rw e refl

pub others-other : (j m : ℕ) (rows : List ℕ) → m ≢ j → others j (m ∷ rows) ≡ suc (others j rows)
others-other j m rows h = let e : eqb m j ≡ false = ne_eqb m j h in rw e refl

weight_by_way : (m : ℕ) (rows : List ℕ) (j a s : ℕ) → m < 2 ^ 8 → AreBytes rows → j < 2 ^ 8 → a < 2 ^ 8 → s < 2 ^ 8 → m ≢ j
    → weight (m ∷ rows) j s ≡ byte_product (inverse (byte_sum j m)) (byte_sum (byte_product (byte_sum s a) (weight rows j s)) (byte_product (byte_sum a m) (weight rows j s)))
weight_by_way m rows j a s sm bytes sj sa ss apart =
    let g = weight rows j s in
    let b = byte_sum j m in
    let sb : b < 2 ^ 8 = sum-lt j m sj sm in
    let nonzero : b ≢ 0 = sum_apart j m (λ e. apart (sym e)) in
    let u = byte_sum s m in
    let su : u < 2 ^ 8 = sum-lt s m ss sm in
    weight-other m rows j s apart
    ∙ ap (λ x. byte_product x g) (quotient_by_inverse u b su sb nonzero)
    ∙ product_assoc (inverse b) u g (inverse-lt b sb nonzero) su (weight-lt rows j s bytes sj ss)
    ∙ ap (λ x. byte_product (inverse b) (byte_product x g)) (sym (sum_by_way s a m))
    ∙ ap (byte_product (inverse b)) (product-sum_left (byte_sum s a) (byte_sum a m) g)

pub interpolated-weight : (rows : List ℕ) (j t : ℕ) (points : List ℕ) → AreBytes rows → j < 2 ^ 8 → t < 2 ^ 8 → Points points → others j rows < length points
    → interpolated points (weight rows j) t ≡ weight rows j t
interpolated-weight [] j t [] bytes sj st p few = absurd (omega arith)
interpolated-weight [] j t (a ∷ points) bytes sj st p few = weights-total points a t p st
interpolated-weight (m ∷ rows) j t [] bytes sj st p few = absurd (omega arith)
interpolated-weight (m ∷ rows) j t (a ∷ points) bytes sj st p few =
    let rest : AreBytes rows = λ k. bytes (suc k) in
    let sm : m < 2 ^ 8 = bytes 0 in
    let sa = p.0 in
    let all = a ∷ points in
    let g = weight rows j in
    let byte_g : IsByteFunction g = λ s h. weight-lt rows j s rest sj h in
    elim (cases_eq m j) [
      | inl same ↦
          let fewer : others j rows < length all = omega (arith, others-same j m rows same) in
          interpolated-same all (weight (m ∷ rows) j) g t p (λ s h. weight-same m rows j s same)
          ∙ interpolated-weight rows j t all rest sj st p fewer ∙ sym (weight-same m rows j t same)
      | inr apart ↦
          let fewer : others j rows < length all = omega (arith, others-other j m rows apart) in
          let fewest : others j rows < length points = omega (arith, others-other j m rows apart) in
          let b = byte_sum j m in
          let sb : b < 2 ^ 8 = sum-lt j m sj sm in
          let nonzero : b ≢ 0 = sum_apart j m (λ e. apart (sym e)) in
          let c = inverse b in
          let d = byte_sum a m in
          let sd : d < 2 ^ 8 = sum-lt a m sa sm in
          let left = λ (s : ℕ). byte_product (byte_sum s a) (g s) in
          let right = λ (s : ℕ). byte_product d (g s) in
          let byte_both : IsByteFunction (λ s. byte_sum (left s) (right s)) =
          λ s h. sum-lt (left s) (right s) (product-lt (byte_sum s a) (g s) (sum-lt s a h sa) (byte_g s h)) (product-lt d (g s) sd (byte_g s h)) in
          interpolated-same all (weight (m ∷ rows) j) (λ s. byte_product c (byte_sum (left s) (right s))) t p (λ s h. weight_by_way m rows j a s sm rest sj sa h apart)
          ∙ interpolated-product all c (λ s. byte_sum (left s) (right s)) t p (inverse-lt b sb nonzero) byte_both st
          ∙ ap (byte_product c) (
          interpolated-sum all left right t p
          ∙ ap (λ x. byte_sum x (interpolated all right t)) (
          interpolated-out a points g t p byte_g st ∙ ap (byte_product (byte_sum t a)) (interpolated-weight rows j t points rest sj st p.1.1 fewest))
          ∙ ap (byte_sum (left t)) (
          interpolated-product all d g t p sd byte_g st ∙ ap (byte_product d) (interpolated-weight rows j t all rest sj st p fewer)))
          ∙ sym (weight_by_way m rows j a t sm rest sj sa st apart)
    ]
