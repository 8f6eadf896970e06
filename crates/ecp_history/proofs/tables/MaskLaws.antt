-- The mask of the nodes that are up, and the nodes of that mask.
use Rattle.std.proofs.Common.{◌≡◌, ℕ, zero, suc, ◌+◌, ◌*◌, ◌^◌, ◌<◌, ◌≤◌, ◌==◌, ◌/◌, ◌%◌, Bool, true, false, cond, List, [], ◌∷◌, length, get_or, drop, length-drop, map, refl, sym, ◌∙◌, ap, arith, inl, inr}
use Rattle.std.specs.Prelude.{count_by, All}
use Rattle.std.specs.Int.{bit_at}
use Rattle.std.specs.List.{range_with_len}
use Rattle.std.proofs.Math.Nat.{pow-suc, zero-add}
use Rattle.std.proofs.lemmas.Bool.{cases_lt, false≢true}
use Rattle.std.proofs.lemmas.List.{drop_all, drop_more, get_or_past}
use Rattle.std.proofs.lemmas.List.Sums.{length-filter, sum_by-cons}
use Rattle.std.proofs.lemmas.List.Elements.{filter_passes}
use Rattle.std.proofs.lemmas.Nat.{pow_pos}
use Rattle.std.proofs.lemmas.Nat.Bits.{bit_at-zero, bit_at-suc, bit_at_lowest}
use Rattle.ecp_shape.specs.declared.limits.TheConstants.{MAX_NODES}
use Rattle.ecp_history.specs.table.Placement.{mask_of, nodes_in}
use Rattle.ecp_history.specs.table.Tables.{PlainTable, Node, up_mask, up_count}

-- a flag in front of a mask
below_one : (b : Bool) (m p : ℕ) → m < p → cond b 1 0 + 2 * m < p * 2
below_one true m p h = omega arith
below_one false m p h = omega arith

half : (b : Bool) (m : ℕ) → (cond b 1 0 + 2 * m) / 2 ≡ m
half true m = omega arith
half false m = omega arith

lowest : (b : Bool) (m : ℕ) → (cond b 1 0 + 2 * m) % 2 ≡ cond b 1 0
lowest true m = omega arith
lowest false m = omega arith

-- a mask of n flags is below the power n of two
pub mask_below : (flags : List Bool) (n : ℕ) → length flags ≤ n → mask_of flags < 2 ^ n
mask_below [] n h = pow_pos n
mask_below (flag ∷ flags) zero h = absurd (omega arith)
mask_below (flag ∷ flags) (suc n) h = rw (pow-suc 2 n) (below_one flag (mask_of flags) (2 ^ n) (mask_below flags n (omega arith)))

-- a bit of a mask is its flag
bit_is : (flags : List Bool) (m : ℕ) → bit_at (mask_of flags) m ≡ cond (get_or flags m false) 1 0
bit_is [] m = bit_at-zero m
bit_is (flag ∷ flags) zero = bit_at_lowest (cond flag 1 0 + 2 * mask_of flags) ∙ lowest flag (mask_of flags)
bit_is (flag ∷ flags) (suc m) =
    bit_at-suc (cond flag 1 0 + 2 * mask_of flags) m ∙ ap (λ (n : ℕ). bit_at n m) (half flag (mask_of flags)) ∙ bit_is flags m

tested : (b : Bool) → cond b 1 0 == 1 ≡ b
tested true = refl
tested false = refl

is_set : (flags : List Bool) (m : ℕ) → bit_at (mask_of flags) m == 1 ≡ get_or flags m false
is_set flags m = ap (λ (b : ℕ). b == 1) (bit_is flags m) ∙ tested (get_or flags m false)

abbrev bit : Bool → ℕ
bit b = cond b 1 0

-- the bits that are set from i on are counted by the flags from i on
counted : (flags : List Bool) (i n : ℕ) → length flags ≤ i + n → count_by (λ m. bit_at (mask_of flags) m == 1) (range_with_len i n) ≡ count_by (λ b. b) (drop i flags)
counted flags i zero h = sym (ap (count_by (λ (b : Bool). b)) (drop_all i flags (omega arith)))
counted flags i (suc n) h =
    let rest : ℕ = count_by (λ b. b) (drop (i + 1) flags) in
    let more : count_by (λ m. bit_at (mask_of flags) m == 1) (range_with_len (i + 1) n) ≡ rest = counted flags (i + 1) n (omega arith) in
    sum_by-cons (λ m. cond (bit_at (mask_of flags) m == 1) 1 0) i (range_with_len (i + 1) n)
    ∙ ap (λ (m : ℕ). bit (bit_at (mask_of flags) i == 1) + m) more ∙ ap (λ (b : Bool). bit b + rest) (is_set flags i)
    ∙ (elim (cases_lt i (length flags)) [
      | inl within ↦
          sym (ap (count_by (λ (b : Bool). b)) (drop_more flags i false within) ∙ sum_by-cons (λ b. cond b 1 0) (get_or flags i false) (drop (i + 1) flags))
      | inr past ↦
          let none : rest ≡ count_by (λ b. b) (drop i flags) = ap (count_by (λ (b : Bool). b)) (drop_all (i + 1) flags (omega arith) ∙ sym (drop_all i flags past)) in
          ap (λ (b : Bool). bit b + rest) (get_or_past flags i false past) ∙ zero-add rest ∙ none
    ])

count-map : (nodes : List Node) → count_by (λ b. b) (map (λ x. x.up) nodes) ≡ count_by (λ x. x.up) nodes
count-map [] = refl
count-map (x ∷ nodes) =
    sum_by-cons (λ (b : Bool). cond b 1 0) x.up (map (λ y. y.up) nodes) ∙ ap (λ (n : ℕ). cond x.up 1 0 + n) (count-map nodes)
    ∙ sym (sum_by-cons (λ (y : Node). cond y.up 1 0) x nodes)

length-flags : (nodes : List Node) → length (map (λ x. x.up) nodes) ≡ length nodes
length-flags [] = refl
length-flags (x ∷ nodes) = ap (λ (n : ℕ). suc n) (length-flags nodes)

-- a bit that is set has a flag
within_set : (flags : List Bool) (m : ℕ) → bit_at (mask_of flags) m == 1 ≡ true → m < length flags
within_set flags m set = elim (cases_lt m (length flags)) [
  | inl within ↦ within
  | inr past ↦ absurd (false≢true (sym (get_or_past flags m false past) ∙ sym (is_set flags m) ∙ set))
]

-- the mask of the nodes that are up has as many nodes, and none that is not there
pub up_nodes : (t : PlainTable) → length t.nodes ≤ MAX_NODES → (length (nodes_in (up_mask t)) ≡ up_count t) × All (λ m. m < length t.nodes) (nodes_in (up_mask t))
up_nodes t few =
    let flags : List Bool = map (λ x. x.up) t.nodes in
    let size : length flags ≡ length t.nodes = length-flags t.nodes in
    let test : ℕ → Bool = λ m. bit_at (mask_of flags) m == 1 in (
      length-filter test (range_with_len 0 MAX_NODES) ∙ counted flags 0 MAX_NODES (omega arith) ∙ count-map t.nodes,
      λ k d h.
          omega (arith, size, within_set flags (get_or (nodes_in (up_mask t)) k d) (filter_passes test (range_with_len 0 MAX_NODES) k d h)),
    )

-- the mask of a part of the nodes
pub mask_part : (nodes : List Node) (i : ℕ) → length nodes ≤ MAX_NODES → 0 < i → mask_of (map (λ x. x.up) (drop i nodes)) < 2 ^ 31
mask_part nodes i few some =
    mask_below (map (λ x. x.up) (drop i nodes)) 31 (omega (arith, length-flags (drop i nodes), length-drop i nodes))
