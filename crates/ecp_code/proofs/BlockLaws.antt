-- Laws of the blocks that some bytes fill.
use Rattle.std.proofs.Common.{◌≡◌, ℕ, zero, suc, ◌+◌, ◌-◌, ◌*◌, ◌<◌, ◌≤◌, List, [], ◌∷◌, ◌++◌, length, get_or, take, drop, replicate, map, min, All, Some, slice_get, refl, ap, subst, sym, ◌∙◌, inl, inr, arith}
use Rattle.std.specs.List.{range_with_len, AllByRecursion}
use Rattle.std.proofs.lemmas.Bool.{cases_lt}
use Rattle.std.proofs.lemmas.List.{length-take, length-append, length-replicate, length-drop, get_or-take, get_or-drop, get_or_append_left, get_or-append_right, get_or-replicate, get_or_past, ext_get_or, drop-drop, take_min, append-nil}
use Rattle.std.proofs.lemmas.List.FromFn.{length-map-range_with_len, get_or-map-range_with_len}
use Rattle.std.proofs.lemmas.Nat.{mul-add-lt, row_fits}
use Rattle.std.proofs.lemmas.Option.{slice_get-get_or}
use Rattle.ecp_field.specs.Lists.{AreBytes}
use Rattle.ecp_code.specs.Rows.{block_len, IsData}
use Rattle.ecp_code.specs.Stripes.{filled, blocks}
use Rattle.ecp_code.proofs.WeightLaws.{AreBytes-drop}

pub length-filled : (len : ℕ) (xs : List ℕ) → length (filled len xs) ≡ len
length-filled len xs =
    length-append (take len xs) (replicate (len - length xs) 0)
    ∙ simp (length-take, length-replicate) (omega arith)

-- a block has the bytes that it is filled from, which are 0 where they end
pub get_or-filled : (len : ℕ) (xs : List ℕ) (i : ℕ) → i < len → get_or (filled len xs) i 0 ≡ get_or xs i 0
get_or-filled len xs i h =
    elim (cases_lt i (length xs)) [
      | inl within ↦
          let reached : i < length (take len xs) = simp length-take (omega arith) in
          get_or_append_left (take len xs) (replicate (len - length xs) 0) 0 i reached ∙ get_or-take len xs i 0 h
      | inr past ↦
          let all : length (take len xs) ≡ length xs = simp length-take (omega arith) in
          let left : i - length xs < len - length xs = omega arith in
          get_or-append_right (take len xs) (replicate (len - length xs) 0) (length xs) i 0 all past
          ∙ get_or-replicate (len - length xs) (i - length xs) 0 0 left ∙ sym (get_or_past xs i 0 past)
    ]

-- the bytes that a block is filled from determine it as far as it goes
pub filled-same : (len : ℕ) (xs ys : List ℕ) → ((i : ℕ) → i < len → get_or xs i 0 ≡ get_or ys i 0) → filled len xs ≡ filled len ys
filled-same len xs ys same =
    ext_get_or 0 (filled len xs) (filled len ys) (length-filled len xs ∙ sym (length-filled len ys)) (λ i h.
    let within : i < len = omega (arith, length-filled len xs) in
    get_or-filled len xs i within ∙ same i within ∙ sym (get_or-filled len ys i within))

-- a block of which only the front is given has zeros behind it
pub filled-take : (len : ℕ) (xs : List ℕ) → filled len (take len xs) ≡ filled len xs
filled-take len xs = filled-same len (take len xs) xs (λ i h. get_or-take len xs i 0 h)

pub filled-min : (len : ℕ) (xs : List ℕ) → filled len (take (min len (length xs)) xs) ≡ filled len xs
filled-min len xs = ap (filled len) (take_min len xs) ∙ filled-take len xs

-- the front of the bytes, and then zeros for those that lack
pub filled-parts : (len : ℕ) (xs front : List ℕ) → front ≡ take (min len (length xs)) xs → take len front ++ replicate (len - length front) 0 ≡ filled len xs
filled-parts len xs front e = ap (filled len) e ∙ filled-min len xs

-- ---- blocks

-- what the blocks are, from block a on
abbrev from_block : ℕ → ℕ → ℕ → List ℕ → List (List ℕ)
from_block a k len xs = map (λ j. filled len (drop (j * len) xs)) (range_with_len a k)

from_block-next : (a k len : ℕ) (xs : List ℕ) → from_block (a + 1) k len xs ≡ from_block a k len (drop len xs)
from_block-next a zero len xs = refl
from_block-next a (suc k) len xs =
    let place : (a + 1) * len ≡ len + a * len = omega arith in
    let block : filled len (drop ((a + 1) * len) xs) ≡ filled len (drop (a * len) (drop len xs)) =
    ap (filled len) (ap (λ n. drop n xs) place ∙ sym (drop-drop (a * len) len xs)) in
    ap (λ b. b ∷ from_block (a + 1 + 1) k len xs) block
    ∙ ap (λ bs. filled len (drop (a * len) (drop len xs)) ∷ bs) (from_block-next (a + 1) k len xs)

pub blocks-suc : (k len : ℕ) (xs : List ℕ) → blocks (suc k) len xs ≡ filled len xs ∷ blocks k len (drop len xs)
blocks-suc k len xs =
    let none : 0 * len ≡ 0 = omega arith in
    ap (λ n. filled len (drop n xs) ∷ from_block (0 + 1) k len xs) none
    ∙ ap (λ bs. filled len xs ∷ bs) (from_block-next 0 k len xs)

pub length-blocks : (k len : ℕ) (xs : List ℕ) → length (blocks k len xs) ≡ k
length-blocks k len xs = length-map-range_with_len (λ j. filled len (drop (j * len) xs)) 0 k

pub get_or-blocks : (k len : ℕ) (xs : List ℕ) (j : ℕ) (d : List ℕ) → j < k → get_or (blocks k len xs) j d ≡ filled len (drop (j * len) xs)
get_or-blocks k len xs j d h = get_or-map-range_with_len (λ j. filled len (drop (j * len) xs)) 0 k j j d h (omega arith)

-- the blocks have one length
pub blocks-even : (k len : ℕ) (xs : List ℕ) → AllByRecursion (λ block. length block ≡ len) (blocks k len xs)
blocks-even zero len xs = tt
blocks-even (suc k) len xs =
    subst (AllByRecursion (λ block. length block ≡ len)) (sym (blocks-suc k len xs)) (length-filled len xs, blocks-even k len (drop len xs))

-- zeros behind the bytes change no block
pub blocks-filled : (k len : ℕ) (xs : List ℕ) → blocks k len (filled (k * len) xs) ≡ blocks k len xs
blocks-filled k len xs =
    ext_get_or [] (blocks k len (filled (k * len) xs)) (blocks k len xs) (length-blocks k len (filled (k * len) xs) ∙ sym (length-blocks k len xs)) (λ j h.
    let within : j < k = omega (arith, length-blocks k len (filled (k * len) xs)) in
    get_or-blocks k len (filled (k * len) xs) j [] within
    ∙ filled-same len (drop (j * len) (filled (k * len) xs)) (drop (j * len) xs) (λ i less.
    let inside : j * len + i < k * len = in_row j k len i within less in
    get_or-drop (j * len) (filled (k * len) xs) i 0 ∙ get_or-filled (k * len) xs (j * len + i) inside ∙ sym (get_or-drop (j * len) xs i 0))
    ∙ sym (get_or-blocks k len xs j [] within))
  where
    in_row : (j k len i : ℕ) → j < k → i < len → j * len + i < k * len
    in_row j k len i h less = omega (arith, mul-add-lt j len i k h less)

pub block_len-blocks : (k len : ℕ) (xs : List ℕ) → 0 < k → block_len (blocks k len xs) ≡ len
block_len-blocks zero len xs pos = absurd (omega arith)
block_len-blocks (suc k) len xs pos = length-filled len (drop (0 * len) xs)

pub blocks-lengths : (k len : ℕ) (xs : List ℕ) → 0 < k → All (λ block. length block ≡ block_len (blocks k len xs)) (blocks k len xs)
blocks-lengths k len xs pos j d h =
    let within : j < k = omega (arith, length-blocks k len xs) in
    ap length (get_or-blocks k len xs j d within) ∙ length-filled len (drop (j * len) xs) ∙ sym (block_len-blocks k len xs pos)

-- the bytes, and how many blocks they fill and of which length, give the blocks again
pub blocks_again : (k len : ℕ) (xs : List ℕ) (bs : List (List ℕ)) → 0 < k → blocks k len xs ≡ bs → bs ≡ blocks (length bs) (block_len bs) xs
blocks_again k len xs bs pos e =
    let count : length bs ≡ k = ap length (sym e) ∙ length-blocks k len xs in
    let size : block_len bs ≡ len = ap block_len (sym e) ∙ block_len-blocks k len xs pos in
    sym e ∙ ap (λ n. blocks n len xs) (sym count) ∙ ap (λ n. blocks (length bs) n xs) (sym size)

-- a block that lies within the bytes is that part of them
pub slice_get-blocks : (k len : ℕ) (xs : List ℕ) (j : ℕ) → j < k → k * len ≤ length xs → slice_get (blocks k len xs) j ≡ Some (take len (drop (j * len) xs))
slice_get-blocks k len xs j h long =
    let within : j < length (blocks k len xs) = omega (arith, length-blocks k len xs) in
    let fits : j * len + len ≤ k * len = omega (arith, row_fits j len k len h (omega arith)) in
    let none : len - length (drop (j * len) xs) ≡ 0 = simp length-drop (omega arith) in
    slice_get-get_or (blocks k len xs) j [] within
    ∙ ap Some (get_or-blocks k len xs j [] h ∙ ap (λ n. take len (drop (j * len) xs) ++ replicate n 0) none ∙ append-nil (take len (drop (j * len) xs)))

-- ---- blocks of bytes

AreBytes-filled : (len : ℕ) (xs : List ℕ) → AreBytes xs → AreBytes (filled len xs)
AreBytes-filled len xs bytes i =
    elim (cases_lt i len) [
      | inl within ↦ rw (get_or-filled len xs i within) (bytes i)
      | inr past ↦ rw (get_or_past (filled len xs) i 0 (omega (arith, length-filled len xs))) (omega arith)
    ]

pub IsData-blocks : (k len : ℕ) (xs : List ℕ) → k ≤ 256 → AreBytes xs → IsData (blocks k len xs)
IsData-blocks k len xs few bytes = record {
  few = omega (arith, length-blocks k len xs);
  even = λ j d h. let pos : 0 < k = omega (arith, length-blocks k len xs) in blocks-lengths k len xs pos j d h;
  bytes = λ j d h.
      let within : j < k = omega (arith, length-blocks k len xs) in
      subst AreBytes (sym (get_or-blocks k len xs j d within)) (AreBytes-filled len (drop (j * len) xs) (AreBytes-drop xs (j * len) bytes));
}
