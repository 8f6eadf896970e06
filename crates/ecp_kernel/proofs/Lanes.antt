-- Vector operations as maps over the lanes.
use Rattle.std.proofs.Common.{◌≡◌, ℕ, zero, suc, ◌+◌, ◌*◌, ◌/◌, ◌%◌, ◌^◌, ◌<◌, Fits, get_or, Bool, cond, eqb, w8, List, [], ◌∷◌, map, length, replicate, bit_and, refl, ap, sym, ◌∙◌, arith}
use Rattle.std.proofs.lemmas.List.{length-map, get_or-map, ext_get_or}
use Rattle.std.proofs.lemmas.Nat.{and_le_r}
use Rattle.std.proofs.lemmas.Simd.{zip2_splat, tops_compared, length-zip2, map-map, Each1-all, Each1-weaker, Each1-zip2, Each2-splat, below_from_Fits, swz_l, SwzOk, SwzOk-from_below, length-swz_l, get_or-swz_l_below}
use lib.Lanes.{zip2, sel_l, top, Each1}

pub map_same : (f g : ℕ → ℕ) → ((x : ℕ) → f x ≡ g x) → (xs : List ℕ) → map f xs ≡ map g xs
map_same f g e [] = refl
map_same f g e (x ∷ xs) = ap (λ y. y ∷ map f xs) (e x) ∙ ap (λ ys. g x ∷ ys) (map_same f g e xs)

sel_l-splats : (t : ℕ → Bool) (v : List ℕ) (n a b : ℕ) → length v ≡ n → sel_l (map t v) (replicate n a) (replicate n b) ≡ map (λ x. cond (t x) a b) v
sel_l-splats t [] zero a b e = refl
sel_l-splats t [] (suc n) a b e = absurd (omega arith)
sel_l-splats t (x ∷ xs) zero a b e = absurd (omega arith)
sel_l-splats t (x ∷ xs) (suc n) a b e = ap (λ ys. cond (t x) a b ∷ ys) (sel_l-splats t xs n a b (omega arith))

-- `value` where a bit is set
pub plane_of : (v : List ℕ) (bit value : ℕ) → length v ≡ 64
    → sel_l (map (top 7) (zip2 (λ a b. cond (eqb a b) 255 0) (zip2 bit_and v (replicate 64 bit)) (replicate 64 bit))) (replicate 64 value) (replicate 64 0)
    ≡ map (λ x. cond (eqb (bit_and x bit) bit) value 0) v
plane_of v bit value long =
    let masked = zip2_splat bit_and v 64 bit long in
    let still : length (zip2 bit_and v (replicate 64 bit)) ≡ 64 = ap length masked ∙ length-map v (λ x. bit_and x bit) ∙ long in
    let tests = tops_compared w8 eqb (zip2 bit_and v (replicate 64 bit)) (replicate 64 bit)
    ∙ zip2_splat eqb (zip2 bit_and v (replicate 64 bit)) 64 bit still
    ∙ ap (map (λ x. eqb x bit)) masked ∙ map-map (λ x. eqb x bit) (λ x. bit_and x bit) v in
    ap (λ ms. sel_l ms (replicate 64 value) (replicate 64 0)) tests ∙ sel_l-splats (λ x. eqb (bit_and x bit) bit) v 64 value 0 long

abbrev pub IsBlock : List ℕ → Type 0
IsBlock v = (length v ≡ 64) × Each1 (Fits w8) v

pub lane_fits : (v : List ℕ) (i : ℕ) → Each1 (Fits w8) v → get_or v i 0 < 256
lane_fits [] i h = omega arith
lane_fits (x ∷ xs) zero h = h.0.fits
lane_fits (x ∷ xs) (suc i) h = lane_fits xs i h.1

abbrev pub down : ℕ → ℕ → ℕ
down a b = a / 2 ^ b

pub high_ok : (v : List ℕ) → IsBlock v → SwzOk w8 16 64 0 (zip2 down v (replicate 64 4))
high_ok v block =
    let small = Each1-weaker (λ a. a < 256) (λ a. a / 16 < 16) (λ a h. omega arith) v (below_from_Fits w8 v block.1) in
    SwzOk-from_below w8 16 4 64 0 (zip2 down v (replicate 64 4)) refl (omega (arith, length-zip2 down v (replicate 64 4) block.0))
    (Each1-zip2 down (λ j. j < 16) v (replicate 64 4) (Each2-splat (λ a b. down a b < 16) v 64 4 small))

pub low_ok : (v : List ℕ) → IsBlock v → SwzOk w8 16 64 0 (zip2 bit_and v (replicate 64 15))
low_ok v block =
    let small = Each1-all (λ a. bit_and a 15 < 16) (λ a. omega (arith, and_le_r a 15)) v in
    SwzOk-from_below w8 16 4 64 0 (zip2 bit_and v (replicate 64 15)) refl (omega (arith, length-zip2 bit_and v (replicate 64 15) block.0))
    (Each1-zip2 bit_and (λ j. j < 16) v (replicate 64 15) (Each2-splat (λ a b. bit_and a b < 16) v 64 15 small))

-- a table of the 16 values of f, four times over, read at the places g x
pub looked_up : (table : List ℕ) (f g : ℕ → ℕ) (v places : List ℕ) → IsBlock v → places ≡ map g v → ((x : ℕ) → x < 256 → g x < 16)
    → ((i : ℕ) → i < 64 → get_or table i 0 ≡ f (i % 16)) → swz_l w8 16 table 0 places ≡ map (λ x. f (g x)) v
looked_up table f g v places block e small exact =
    let long : length places ≡ 64 = ap length e ∙ length-map v g ∙ block.0 in
    ext_get_or 0 (swz_l w8 16 table 0 places) (map (λ x. f (g x)) v) (length-swz_l w8 16 table 0 places ∙ long ∙ sym (length-map v (λ x. f (g x)) ∙ block.0)) (λ i h.
    let lt : i < 64 = omega (arith, length-swz_l w8 16 table 0 places) in
    let within : i < length v = omega (arith, block.0) in
    let is : get_or places i 0 ≡ g (get_or v i 0) = ap (λ l. get_or l i 0) e ∙ get_or-map g v i 0 0 within in
    let below : get_or places i 0 < 16 = omega (arith, small (get_or v i 0) (lane_fits v i block.1)) in
    let place : 16 * ((0 + i) / 16) + get_or places i 0 < 64 = in_table i (get_or places i 0) lt below in
    let back : (16 * ((0 + i) / 16) + get_or places i 0) % 16 ≡ g (get_or v i 0) = at_column i (get_or places i 0) below ∙ is in
    get_or-swz_l_below w8 16 table 0 places i (omega arith) below
    ∙ exact (16 * ((0 + i) / 16) + get_or places i 0) place
    ∙ ap f back
    ∙ sym (get_or-map (λ x. f (g x)) v i 0 0 within))
  where
    in_table : (i j : ℕ) → i < 64 → j < 16 → 16 * ((0 + i) / 16) + j < 64
    in_table i j p q = omega arith

    at_column : (i j : ℕ) → j < 16 → (16 * ((0 + i) / 16) + j) % 16 ≡ j
    at_column i j q = omega arith
