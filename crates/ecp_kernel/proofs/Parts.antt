-- A list that is made anew from its front, a part at a time.
use Rattle.std.proofs.Common.{◌≡◌, ℕ, ◌+◌, ◌-◌, ◌≤◌, List, ◌++◌, length, take, drop, [], ◌∷◌, refl, ap, sym, ◌∙◌, arith, take-add, bit_xor}
use Rattle.std.proofs.lemmas.List.{take-append-drop, append_assoc, length-take-le, length-drop, drop-drop, drop_all, take_all, append-nil, take-map, drop-map}
use Rattle.std.proofs.Math.Seq.{drop-append_seam, take-append_seam}
use Rattle.std.proofs.lemmas.Simd.{put_chunk_is}
use lib.Lanes.{put_chunk, zip2}
use borrow.Rule.Slice.PartMut.{put_mid}
use Rattle.ecp_field.specs.Field.{byte_product}
use Rattle.ecp_field.specs.Lists.{sums, scaled}
use Rattle.ecp_field.proofs.ListLaws.{length-sums, take-sums, drop-sums}

-- the first n items are made, and the rest is as it was
abbrev pub made : ℕ → List ℕ → List ℕ → List ℕ
made n new old = take n new ++ drop n old

module _ (n : ℕ) (new old : List ℕ) (within : n ≤ length new) where
  pub take-made : take n (made n new old) ≡ take n new
  take-made =
      let long : length (take n new) ≡ n = length-take-le n new within in
      ap (λ k. take k (made n new old)) (sym long) ∙ take-append_seam (take n new) (drop n old)

  pub drop-made : drop n (made n new old) ≡ drop n old
  drop-made =
      let long : length (take n new) ≡ n = length-take-le n new within in
      ap (λ k. drop k (made n new old)) (sym long) ∙ drop-append_seam (take n new) (drop n old)

-- a part that is stored where the made ones end
pub made-more : (n : ℕ) (new old cur part : List ℕ) → length new ≡ length old → length cur ≡ length old → n + length part ≤ length old
    → cur ≡ made n new old → part ≡ take (length part) (drop n new) → put_chunk n cur part ≡ made (n + length part) new old
made-more n new old cur part same long room so_far is =
    let k = length part in
    let within : n ≤ length new = omega arith in
    put_chunk_is n cur part (omega arith)
    ∙ ap (λ xs. take n xs ++ (part ++ drop k (drop n xs))) so_far
    ∙ ap (λ xs. xs ++ (part ++ drop k (drop n (made n new old)))) (take-made n new old within)
    ∙ ap (λ xs. take n new ++ (part ++ drop k xs)) (drop-made n new old within)
    ∙ ap (λ xs. take n new ++ (part ++ xs)) (drop-drop k n old)
    ∙ sym (append_assoc (take n new) part (drop (n + k) old))
    ∙ ap (λ xs. take n new ++ xs ++ drop (n + k) old) is
    ∙ ap (λ xs. xs ++ drop (n + k) old) (sym (take-add n k new))

-- the rest, made at once
pub made-rest : (n : ℕ) (new old cur rest : List ℕ) → length cur ≡ length new → n ≤ length new → cur ≡ made n new old → rest ≡ drop n new
    → put_mid n (length cur - n) cur rest ≡ new
made-rest n new old cur rest long within so_far is =
    let none : drop (length cur - n) (drop n cur) ≡ [] = drop_all (length cur - n) (drop n cur) (omega (arith, length-drop n cur)) in
    ap (λ xs. take n cur ++ (rest ++ xs)) none
    ∙ ap (λ xs. take n cur ++ xs) (append-nil rest)
    ∙ ap (λ xs. take n xs ++ rest) so_far
    ∙ ap (λ xs. xs ++ rest) (take-made n new old within)
    ∙ ap (λ xs. take n new ++ xs) is
    ∙ take-append-drop n new

pub zip2-sums : (xs ys : List ℕ) → zip2 bit_xor xs ys ≡ sums xs ys
zip2-sums [] ys = refl
zip2-sums (x ∷ xs) [] = refl
zip2-sums (x ∷ xs) (y ∷ ys) = ap (λ zs. bit_xor x y ∷ zs) (zip2-sums xs ys)

-- 64 bytes of a new list
pub made-lanes : (n : ℕ) (new old cur part : List ℕ) → length new ≡ length old → length cur ≡ length old → n + 64 ≤ length old
    → cur ≡ made n new old → part ≡ take 64 (drop n new) → put_chunk n cur part ≡ made (n + 64) new old
made-lanes n new old cur part same long room so_far is =
    let k : length part ≡ 64 = ap length is ∙ length-take-le 64 (drop n new) (omega (arith, length-drop n new)) in
    made-more n new old cur part same long (omega arith) so_far (is ∙ ap (λ m. take m (drop n new)) (sym k))
    ∙ ap (λ m. made (n + m) new old) k

-- 64 more sums
pub made-sums : (n : ℕ) (old more cur part : List ℕ) → length more ≡ length old → length cur ≡ length old → n + 64 ≤ length old
    → cur ≡ made n (sums old more) old → part ≡ take 64 (drop n more)
    → put_chunk n cur (zip2 bit_xor (take 64 (drop n cur)) part) ≡ made (n + 64) (sums old more) old
made-sums n old more cur part same long room so_far is =
    let new = sums old more in
    let all : length new ≡ length old = length-sums old more (sym same) in
    let left : drop n cur ≡ drop n old = ap (drop n) so_far ∙ drop-made n new old (omega arith) in
    made-lanes n new old cur (zip2 bit_xor (take 64 (drop n cur)) part) all long room so_far (
    zip2-sums (take 64 (drop n cur)) part
    ∙ ap (λ xs. sums (take 64 xs) part) left
    ∙ ap (sums (take 64 (drop n old))) is
    ∙ sym (take-sums 64 (drop n old) (drop n more))
    ∙ ap (take 64) (sym (drop-sums n old more (sym same))))

-- the products of 64 bytes
pub part-scaled : (c n : ℕ) (xs : List ℕ) → scaled c (take 64 (drop n xs)) ≡ take 64 (drop n (scaled c xs))
part-scaled c n xs = sym (take-map (byte_product c) 64 (drop n xs)) ∙ ap (take 64) (sym (drop-map (byte_product c) n xs))

-- what a plain loop adds to the rest
pub rest-sums : (n : ℕ) (old more cur : List ℕ) → length more ≡ length old → n ≤ length old → cur ≡ made n (sums old more) old
    → sums (drop n cur) (drop n more) ≡ drop n (sums old more)
rest-sums n old more cur same within so_far =
    let left : drop n cur ≡ drop n old = ap (drop n) so_far ∙ drop-made n (sums old more) old (omega (arith, length-sums old more (sym same))) in
    ap (λ xs. sums xs (drop n more)) left ∙ sym (drop-sums n old more (sym same))

-- `&xs[n..]`
pub take-rest : (n : ℕ) (xs : List ℕ) → take (length xs - n) (drop n xs) ≡ drop n xs
take-rest n xs = take_all (length xs - n) (drop n xs) (omega (arith, length-drop n xs))
