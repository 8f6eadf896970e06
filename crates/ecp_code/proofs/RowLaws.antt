-- Laws of weighted sums of blocks.
use Rattle.std.proofs.Common.{◌≡◌, ℕ, zero, suc, ◌+◌, ◌-◌, ◌*◌, ◌^◌, ◌<◌, ◌≤◌, List, [], ◌∷◌, ◌++◌, length, get_or, take, drop, replicate, min, refl, ap, sym, ◌∙◌, arith}
use Rattle.std.specs.List.{range_with_len, AllByRecursion}
use Rattle.std.proofs.lemmas.List.{length-replicate, length-drop, length-take-le, take_all, take-append-drop, map-append, drop_more, drop_all, drop_min}
use Rattle.ecp_field.specs.Field.{byte_product}
use Rattle.ecp_field.specs.Lists.{sums, scaled}
use Rattle.ecp_field.proofs.FieldLaws.{product-zero_right}
use Rattle.ecp_field.proofs.ListLaws.{length-sums, length-scaled, sums_assoc, sums_comm, sums-zeros, sums-append}
use Rattle.ecp_code.specs.Weights.{weights}
use Rattle.ecp_code.specs.Rows.{weighted_sum, block_len, row}
use Rattle.ecp_code.specs.Stripes.{filled, blocks}
use Rattle.ecp_code.proofs.BlockLaws.{blocks-suc, blocks-even, length-blocks, length-filled, filled-min}

pub length-weighted_sum : (len : ℕ) (ws : List ℕ) (bs : List (List ℕ)) → AllByRecursion (λ b. length b ≡ len) bs → length (weighted_sum len ws bs) ≡ len
length-weighted_sum len [] bs h = length-replicate len 0
length-weighted_sum len (w ∷ ws) [] h = length-replicate len 0
length-weighted_sum len (w ∷ ws) (b ∷ bs) h =
    let scaled_len : length (scaled w b) ≡ len = length-scaled w b ∙ h.0 in
    length-sums (scaled w b) (weighted_sum len ws bs) (scaled_len ∙ sym (length-weighted_sum len ws bs h.1)) ∙ scaled_len

-- a sum so far, with what the rest of the bytes adds to it, is the whole
pub sum_none : (len k : ℕ) (ws xs : List ℕ) → sums (replicate len 0) (weighted_sum len ws (blocks k len xs)) ≡ weighted_sum len ws (blocks k len xs)
sum_none len k ws xs =
    sums_comm (replicate len 0) (weighted_sum len ws (blocks k len xs))
    ∙ sums-zeros (weighted_sum len ws (blocks k len xs)) len (length-weighted_sum len ws (blocks k len xs) (blocks-even k len xs))

pub sum_more : (len k : ℕ) (sum whole ws rest : List ℕ) (i : ℕ) → i < length ws → length ws ≡ k → length sum ≡ len
    → sums sum (weighted_sum len (drop i ws) (blocks (k - i) len rest)) ≡ whole
    → sums (sums sum (scaled (get_or ws i 0) (filled (length sum) (take (min len (length rest)) rest)))) (weighted_sum len (drop (i + 1) ws) (blocks (k - (i + 1)) len (drop (min len (length rest)) rest))) ≡ whole
sum_more len k sum whole ws rest i h e l inv =
    let w = get_or ws i 0 in
    let others = k - (i + 1) in
    let block : filled (length sum) (take (min len (length rest)) rest) ≡ filled len rest = ap (λ n. filled n (take (min len (length rest)) rest)) l ∙ filled-min len rest in
    let count : k - i ≡ suc others = omega arith in
    let here : weighted_sum len (drop i ws) (blocks (k - i) len rest) ≡ sums (scaled w (filled len rest)) (weighted_sum len (drop (i + 1) ws) (blocks others len (drop len rest))) =
    ap (λ us. weighted_sum len us (blocks (k - i) len rest)) (drop_more ws i 0 h)
    ∙ ap (λ bs. weighted_sum len (w ∷ drop (i + 1) ws) bs) (ap (λ n. blocks n len rest) count ∙ blocks-suc others len rest) in
    ap (λ b. sums (sums sum (scaled w b)) (weighted_sum len (drop (i + 1) ws) (blocks others len (drop (min len (length rest)) rest)))) block
    ∙ ap (λ r. sums (sums sum (scaled w (filled len rest))) (weighted_sum len (drop (i + 1) ws) (blocks others len r))) (drop_min len rest)
    ∙ sums_assoc sum (scaled w (filled len rest)) (weighted_sum len (drop (i + 1) ws) (blocks others len (drop len rest)))
    ∙ ap (sums sum) (sym here) ∙ inv

pub sum_step : (len k : ℕ) (sum sum' whole ws rest rest' : List ℕ) (i : ℕ) → i < length ws → length ws ≡ k → length sum ≡ len
    → sum' ≡ sums sum (scaled (get_or ws i 0) (filled (length sum) (take (min len (length rest)) rest))) → rest' ≡ drop (min len (length rest)) rest
    → sums sum (weighted_sum len (drop i ws) (blocks (k - i) len rest)) ≡ whole
    → (length sum' ≡ len) × (sums sum' (weighted_sum len (drop (i + 1) ws) (blocks (k - (i + 1)) len rest')) ≡ whole)
sum_step len k sum sum' whole ws rest rest' i h e l new after inv =
    let block = filled (length sum) (take (min len (length rest)) rest) in
    let added : length (sums sum (scaled (get_or ws i 0) block)) ≡ len =
    length-sums sum (scaled (get_or ws i 0) block) (sym (length-scaled (get_or ws i 0) block ∙ length-filled (length sum) (take (min len (length rest)) rest))) ∙ l in
    (ap length new ∙ added, rw (new, after) (sum_more len k sum whole ws rest i h e l inv))

pub sum_all : (len : ℕ) (sum whole ws : List ℕ) (bs : List (List ℕ)) (i : ℕ) → length ws ≤ i → length sum ≡ len → sums sum (weighted_sum len (drop i ws) bs) ≡ whole → sum ≡ whole
sum_all len sum whole ws bs i h l inv =
    sym (sums-zeros sum len l) ∙ ap (λ us. sums sum (weighted_sum len us bs)) (sym (drop_all i ws h)) ∙ inv

-- the row of the blocks that some bytes fill
pub row-blocks : (k len : ℕ) (xs : List ℕ) (t : ℕ) → 1 ≤ k → row (blocks k len xs) t ≡ weighted_sum len (weights (range_with_len 0 k) t) (blocks k len xs)
row-blocks zero len xs t h = absurd (omega arith)
row-blocks (suc k) len xs t h =
    let size : block_len (blocks (suc k) len xs) ≡ len = length-filled len (drop (0 * len) xs) in
    ap (λ n. weighted_sum n (weights (range_with_len 0 (length (blocks (suc k) len xs))) t) (blocks (suc k) len xs)) size
    ∙ ap (λ n. weighted_sum len (weights (range_with_len 0 n) t) (blocks (suc k) len xs)) (length-blocks (suc k) len xs)

-- ---- one block

pub scaled-zeros : (c n : ℕ) → c < 2 ^ 8 → scaled c (replicate n 0) ≡ replicate n 0
scaled-zeros c zero p = refl
scaled-zeros c (suc n) p = ap (λ z. z ∷ scaled c (replicate n 0)) (product-zero_right c p) ∙ ap (λ zs. 0 ∷ zs) (scaled-zeros c n p)

-- zeros behind a block add nothing
pub sums_front : (sum block : List ℕ) (c : ℕ) → length block ≤ length sum → c < 2 ^ 8
    → sums (take (length block) sum) (scaled c block) ++ drop (length block) sum ≡ sums sum (scaled c (filled (length sum) block))
sums_front sum block c h p =
    let n = length block in
    let front = take n sum in
    let back = drop n sum in
    let rest = length sum - n in
    let whole : scaled c (filled (length sum) block) ≡ scaled c block ++ replicate rest 0 =
    ap (λ b. scaled c (b ++ replicate rest 0)) (take_all (length sum) block h) ∙ map-append (byte_product c) block (replicate rest 0) ∙ ap (λ zs. scaled c block ++ zs) (scaled-zeros c rest p) in
    let front_len : length front ≡ length (scaled c block) = length-take-le n sum h ∙ sym (length-scaled c block) in
    let back_len : length back ≡ rest = length-drop n sum in
    ap (λ zs. sums front (scaled c block) ++ zs) (sym (sums-zeros back rest back_len))
    ∙ sym (sums-append front back (scaled c block) (replicate rest 0) front_len)
    ∙ ap (λ s. sums s (scaled c block ++ replicate rest 0)) (take-append-drop n sum)
    ∙ ap (sums sum) (sym whole)
