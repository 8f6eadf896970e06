-- A slice of a weighted sum is the weighted sum of the slices.
use Rattle.std.proofs.Common.{◌≡◌, ℕ, ◌+◌, ◌-◌, ◌≤◌, List, [], ◌∷◌, length, map, take, drop, replicate, sym, ◌∙◌, ap, arith}
use Rattle.std.specs.List.{AllByRecursion}
use Rattle.std.proofs.lemmas.List.{take-map, drop-map, take-replicate, drop-replicate}
use Rattle.ecp_field.specs.Field.{byte_product}
use Rattle.ecp_field.specs.Lists.{sums, scaled}
use Rattle.ecp_field.proofs.ListLaws.{take-sums, drop-sums, length-scaled}
use Rattle.ecp_store.specs.Stores.{part}
use Rattle.ecp_code.specs.Rows.{weighted_sum}
use Rattle.ecp_code.proofs.RowLaws.{length-weighted_sum}

part-sums : (off len : ℕ) (xs ys : List ℕ) → length xs ≡ length ys → part (sums xs ys) off len ≡ sums (part xs off len) (part ys off len)
part-sums off len xs ys e = ap (take len) (drop-sums off xs ys e) ∙ take-sums len (drop off xs) (drop off ys)

part-scaled : (off len c : ℕ) (xs : List ℕ) → part (scaled c xs) off len ≡ scaled c (part xs off len)
part-scaled off len c xs = ap (take len) (drop-map (byte_product c) off xs) ∙ take-map (byte_product c) len (drop off xs)

part-zeros : (off len n : ℕ) → off + len ≤ n → part (replicate n 0) off len ≡ replicate len 0
part-zeros off len n within = ap (take len) (drop-replicate off n 0) ∙ take-replicate len (n - off) 0 (omega arith)

pub part-weighted_sum : (off len n : ℕ) (ws : List ℕ) (bs : List (List ℕ)) → off + len ≤ n → AllByRecursion (λ b. length b ≡ n) bs
    → part (weighted_sum n ws bs) off len ≡ weighted_sum len ws (map (λ b. part b off len) bs)
part-weighted_sum off len n [] bs within even = part-zeros off len n within
part-weighted_sum off len n (w ∷ ws) [] within even = part-zeros off len n within
part-weighted_sum off len n (w ∷ ws) (b ∷ bs) within even =
    part-sums off len (scaled w b) (weighted_sum n ws bs) (length-scaled w b ∙ even.0 ∙ sym (length-weighted_sum n ws bs even.1))
    ∙ ap (λ (x : List ℕ). sums x (part (weighted_sum n ws bs) off len)) (part-scaled off len w b)
    ∙ ap (sums (scaled w (part b off len))) (part-weighted_sum off len n ws bs within even.1)
