-- The receipts of the rows of a put of one stripe, whose rows have one byte, each from the place that the reservation gives it, are those of the put.
use Rattle.std.proofs.Common.{◌≡◌, ℕ, zero, suc, ◌+◌, ◌*◌, ◌/◌, ◌%◌, ◌<◌, ◌≤◌, ◌==◌, Bool, true, false, cond, List, [], ◌∷◌, length, map, Option, Some, None, refl, sym, ◌∙◌, ap, subst, arith, inl, inr, mul-le-mul_right}
use Rattle.std.specs.Prelude.{All, slice_get}
use Rattle.std.specs.Int.{bit_at}
use Rattle.std.specs.List.{range_with_len}
use Rattle.std.specs.Option.{option_map_or}
use Rattle.std.proofs.Math.Nat.{mod-lt}
use Rattle.std.proofs.lemmas.Bool.{cases_lt, false≢true}
use Rattle.std.proofs.lemmas.List.Elements.{filter_passes}
use Rattle.std.proofs.lemmas.Nat.Bits.{bit_at-zero, bit_at-suc, bit_at_lowest}
use Rattle.std.proofs.lemmas.Option.{slice_get_within}
use Rattle.ecp_shape.specs.declared.limits.TheConstants.{MAX_NODES}
use Rattle.ecp_shape.specs.declared.shape.Shape.{Shape}
use Rattle.ecp_code.specs.Stripes.{stripe_count}
use Rattle.ecp_node.specs.Receipts.{ReceiptState}
use Rattle.ecp_entry.specs.Told.{history_of}
use Rattle.ecp_history.specs.Fronts.{told_table}
use Rattle.ecp_history.specs.declared.table.node.Node.{Node}
use Rattle.ecp_history.specs.table.Placement.{mask_of, nodes_in, place, place_among}
use Rattle.ecp_history.specs.table.Tables.{PlainTable, inc_of, up_count, up_mask}
use Rattle.ecp_history.proofs.tables.MaskLaws.{up_nodes}
use Rattle.ecp_catalog.specs.Outline.{IsKeptAt}
use Rattle.ecp_catalog.proofs.ApartLaws.{nodes-count}
use Rattle.ecp_sequencer.specs.Passes.{PassState}
use Rattle.ecp_coord.specs.declared.published.Published.{Published}
use Rattle.ecp_coord.specs.declared.published.Published.TheVariants.{Stored, NameTaken, Overtaken}
use Rattle.ecp_coord.specs.declared.reservation.Reservation.{Reservation}
use Rattle.ecp_coord.specs.Coords.{CoordState}
use Rattle.ecp_coord.specs.OneByte.{AreRowsOf, IfOvertaken, IsRowOf}
use Rattle.ecp_coord.specs.Puts.{ArePlaces, AreReceipts, DidPublish, IsReserved}
use Rattle.ecp_coord.proofs.SameLaws.{stays_reserved}

-- ---- a node of the mask is up

half : (b : Bool) (m : ℕ) → (cond b 1 0 + 2 * m) / 2 ≡ m
half true m = omega arith
half false m = omega arith

lowest : (b : Bool) (m : ℕ) → (cond b 1 0 + 2 * m) % 2 ≡ cond b 1 0
lowest true m = omega arith
lowest false m = omega arith

bit_of : (nodes : List Node) (m : ℕ) → bit_at (mask_of (map (λ x. x.up) nodes)) m ≡ cond (option_map_or (λ x. x.up) (slice_get nodes m) false) 1 0
bit_of [] m = bit_at-zero m
bit_of (x ∷ nodes) zero = bit_at_lowest (cond x.up 1 0 + 2 * mask_of (map (λ y. y.up) nodes)) ∙ lowest x.up (mask_of (map (λ y. y.up) nodes))
bit_of (x ∷ nodes) (suc m) =
    bit_at-suc (cond x.up 1 0 + 2 * mask_of (map (λ y. y.up) nodes)) m ∙ ap (λ (n : ℕ). bit_at n m) (half x.up (mask_of (map (λ y. y.up) nodes))) ∙ bit_of nodes m

tested : (b : Bool) → cond b 1 0 == 1 ≡ b
tested true = refl
tested false = refl

alive : (o : Option Node) → option_map_or (λ x. x.up) o false ≡ true → o ≡ Some (record { up = true; inc = option_map_or (λ x. x.inc) o 0 })
alive None up = absurd (false≢true up)
alive (Some x) up = ap (λ (b : Bool). Some (let y : Node = record { up = b; inc = x.inc } in y)) up

set_up : (nodes : List Node) (m : ℕ) → bit_at (mask_of (map (λ x. x.up) nodes)) m == 1 ≡ true
    → slice_get nodes m ≡ Some (record { up = true; inc = option_map_or (λ x. x.inc) (slice_get nodes m) 0 })
set_up nodes m set =
    let up : option_map_or (λ x. x.up) (slice_get nodes m) false ≡ true =
    sym (ap (λ (b : ℕ). b == 1) (bit_of nodes m) ∙ tested (option_map_or (λ x. x.up) (slice_get nodes m) false)) ∙ set in
    alive (slice_get nodes m) up

-- a place among the nodes of a table that are up is there, and up
record IsUpAt (t : PlainTable) (m : ℕ) : Type 0 where
  below : m < length t.nodes
  up : slice_get t.nodes m ≡ Some (record { up = true; inc = inc_of t m })

up_at : (t : PlainTable) (ms : List ℕ) (s r : ℕ) → All (λ m. m < length t.nodes) ms → All (λ m. bit_at (mask_of (map (λ x. x.up) t.nodes)) m == 1 ≡ true) ms → 1 ≤ length ms → IsUpAt t (place_among ms s r)
up_at t ms s r there set some =
    let at : (s + r) % length ms < length ms = mod-lt (s + r) some in
    record { below = there ((s + r) % length ms) 0 at; up = set_up t.nodes (place_among ms s r) (set ((s + r) % length ms) 0 at) }

place_up : (t : PlainTable) (s r : ℕ) → length t.nodes ≤ MAX_NODES → 1 ≤ up_count t → IsUpAt t (place (up_mask t) s r)
place_up t s r few some =
    up_at t (nodes_in (up_mask t)) s r (up_nodes t few).1 (filter_passes (λ m. bit_at (up_mask t) m == 1) (range_with_len 0 MAX_NODES)) (subst (λ (k : ℕ). 1 ≤ k) (sym (up_nodes t few).0) some)

-- ---- the receipts

-- the sizes: so many rows of one byte a stripe, so many of them data, on so many nodes
abbrev pub sized : ℕ → ℕ → ℕ → Shape
sized n k nodes = record { n = n; k = k; nodes = nodes; block = 1 }

first_of : (i n r : ℕ) → i * n + r < n → i ≡ 0
first_of i n r lt = elim (cases_lt 0 i) [
  | inl some ↦ absurd (omega (arith, lt, mul-le-mul_right {m = 1} {n = i} n (omega (arith, some))))
  | inr none ↦ omega (arith, none)
]

kept_at : (n k nodes : ℕ) (t : PlainTable) {N : Type 0} (res : Reservation N) (i r : ℕ) (blocks : List (List ℕ)) (x : ReceiptState) → length t.nodes ≤ MAX_NODES → 1 ≤ up_count t → ArePlaces (sized n k nodes) t res
    → i ≡ 0 → IsRowOf res r x → IsKeptAt (sized n k nodes) false t res.up (res.first + i) r blocks x
kept_at n k nodes t res i r blocks x few some places first row =
    let same : res.first ≡ res.first + i = omega (arith, first) in
    let node : x.node ≡ place (up_mask t) res.first r = row.node ∙ ap (λ (k : ℕ). place k res.first r) places.nodes in
    let up : IsUpAt t x.node = subst (IsUpAt t) (sym node) (place_up t res.first r few some) in
    let low : x.node < MAX_NODES = let below = up.below in omega (arith, below, few) in
    record {
      of_stripe = row.stripe ∙ same;
      of_row = row.row;
      placed = row.node ∙ ap (λ (s : ℕ). place res.up s r) same;
      alive = up.up ∙ ap (λ (k : ℕ). Some (let y : Node = record { up = true; inc = k } in y)) (sym (row.inc ∙ places.incs x.node low));
      bytes = row.bytes;
    }

module _ (n k nodes : ℕ) {N : Type 0} (p : PassState) (res : Reservation N) (few : nodes ≤ 32) (some : 1 ≤ n) (is : IsReserved (sized n k nodes) false p res) where
  receipts_in : (content : List ℕ) (rows : List ReceiptState) → stripe_count k 1 res.len ≡ 1 → length content ≡ res.len → AreRowsOf res n rows → AreReceipts (sized n k nodes) false res content rows
  receipts_in content rows one size are =
      let counted : res.stripes ≡ 1 = is.counted ∙ one in
      record {
        len = size;
        full = are.count ∙ (let whole : n ≡ 1 * n = omega arith in whole) ∙ ap (λ (m : ℕ). m * n) (sym counted);
        kept = λ i r blocks x there low here.
            let within : i * n + r < length rows = slice_get_within rows (i * n + r) x here in
            let first : i ≡ 0 = first_of i n r (subst (λ (m : ℕ). i * n + r < m) are.count within) in
            let at : slice_get rows (0 * n + r) ≡ Some x = subst (λ (j : ℕ). slice_get rows (j * n + r) ≡ Some x) first here in
            let row : slice_get rows r ≡ Some x = subst (λ (j : ℕ). slice_get rows j ≡ Some x) (let plain : 0 * n + r ≡ r = omega arith in plain) at in
            let size : length (told_table (sized n k nodes) res.front.items).nodes ≡ nodes = nodes-count (sized n k nodes) (history_of res.front.items) in
            let enough : n ≤ up_count (told_table (sized n k nodes) res.front.items) = is.places.enough in
            kept_at n k nodes (told_table (sized n k nodes) res.front.items) res i r blocks x (omega (arith, size, few)) (omega (arith, some, enough)) is.places first (are.each r x row);
      }

pub receipts_are : (n k nodes : ℕ) {N : Type 0} (shape : Shape) (told : Bool) (p : PassState) (res : Reservation N) (content : List ℕ) (rows : List ReceiptState) → shape ≡ sized n k nodes → told ≡ false → nodes ≤ 32 → 1 ≤ n
    → IsReserved shape told p res → stripe_count k 1 res.len ≡ 1 → length content ≡ res.len → AreRowsOf res n rows → AreReceipts shape told res content rows
receipts_are n k nodes shape told p res content rows sizes none few some is one size are =
    let in_sizes : IsReserved (sized n k nodes) false p res = subst (λ (b : Bool). IsReserved (sized n k nodes) b p res) none (subst (λ (z : Shape). IsReserved z told p res) sizes is) in
    subst (λ (z : Shape). AreReceipts z told res content rows) (sym sizes)
    (subst (λ (b : Bool). AreReceipts (sized n k nodes) b res content rows) (sym none) (receipts_in n k nodes p res few some in_sizes content rows one size are))

-- ---- a put that a loss overtook has its places

pub kept_places : (shape : Shape) (told : Bool) (s t : CoordState) {N : Type 0} (v w : PassState) (res : Reservation N) (content : List ℕ) (rows : List ReceiptState) (result : Published N)
    → DidPublish shape told s v res content rows t w result → IsReserved shape told v res → IfOvertaken result (IsReserved shape told w res)
kept_places shape told s t v w res content rows (Stored first stripes) did is = tt
kept_places shape told s t v w res content rows (NameTaken receipts) did is = tt
kept_places shape told s t v w res content rows (Overtaken at receipts) did is = stays_reserved shape told s.sequence t.sequence v w res did.1.event did.1.calls is
