-- The rows of a put at their nodes.
use Rattle.std.proofs.Common.{◌≡◌, ℕ, ◌+◌, ◌-◌, ◌*◌, ◌/◌, ◌%◌, ◌^◌, ◌<◌, ◌≤◌, ◌==◌, Bool, true, false, cond, List, [], ◌∷◌, ◌++◌, length, take, drop, replicate, get_or, Option, Some, None, Result, Ok, Err, IfOk, OnOk, refl, sym, ◌∙◌, ap, subst, arith, inl, inr, length-append, length-drop}
use Rattle.std.specs.Prelude.{slice_get, slice_index}
use Rattle.std.specs.Int.{bit_at}
use Rattle.std.specs.List.{range_with_len}
use Rattle.std.specs.Option.{option_map_or}
use Rattle.std.proofs.Math.Nat.{mod-lt}
use Rattle.std.proofs.lemmas.Bool.{false≢true}
use Rattle.std.proofs.lemmas.List.Elements.{filter_passes}
use Rattle.std.proofs.lemmas.Nat.{div-mul-add, same_from_place}
use Rattle.std.proofs.lemmas.Option.{same_Some, slice_get_within}
use Rattle.ecp_shape.specs.declared.limits.TheConstants.{MAX_NODES}
use Rattle.ecp_shape.specs.declared.shape.Shape.{Shape}
use Rattle.ecp_shape.specs.Range.{IsInRange}
use Rattle.ecp_code.specs.Rows.{row}
use Rattle.ecp_code.specs.Stripes.{blocks, filled, stripe_count, stripe_len, stripes}
use Rattle.ecp_code.proofs.BlockLaws.{IsData-blocks, blocks-even, blocks-filled, filled-take, length-blocks, slice_get-blocks}
use Rattle.ecp_code.proofs.DataLaws.{row-data}
use Rattle.ecp_code.proofs.HelperLaws.{length-row}
use Rattle.ecp_code.proofs.StripeLaws.{slice_get-stripes}
use Rattle.ecp_entry.specs.Told.{history_of}
use Rattle.ecp_node.specs.Receipts.{ReceiptState}
use Rattle.ecp_history.specs.declared.table.node.Node.{Node}
use Rattle.ecp_history.specs.Fronts.{told_table}
use Rattle.ecp_history.specs.table.Placement.{nodes_in, place}
use Rattle.ecp_history.specs.table.Tables.{PlainTable, up_mask}
use Rattle.ecp_history.proofs.LegalLaws.{get_split}
use Rattle.ecp_history.proofs.tables.MaskLaws.{up_nodes}
use Rattle.ecp_catalog.specs.Outline.{AreOfRow}
use Rattle.ecp_catalog.proofs.ApartLaws.{nodes-count}
use Rattle.ecp_coord.specs.declared.reservation.Reservation.{Reservation}
use Rattle.ecp_coord.specs.Puts.{AreReceipts}
use Rattle.ecp_coord.proofs.OvertakeLaws.{bit_of}
use Rattle.ecp_cluster.specs.Keeping.{AddsRows, AreFirstKept, HasPlaces, IsKeptAs, IsKeptFor, KeepsRow}

-- ---- the place of a row

flag_set : (b : Bool) → cond b 1 0 == 1 ≡ true → b ≡ true
flag_set true is = refl
flag_set false is = absurd (false≢true is)

-- a node that is up, by its incarnation
node_up : (o : Option Node) (inc : ℕ) → option_map_or (λ x. x.up) o false ≡ true → inc ≡ option_map_or (λ x. x.inc) o 0 → o ≡ Some (record { up = true; inc = inc })
node_up None inc up is = absurd (false≢true up)
node_up (Some x) inc up is =
    ap (λ (b : Bool). Some (let y : Node = record { up = b; inc = x.inc } in y)) up ∙ ap (λ (n : ℕ). Some (let y : Node = record { up = true; inc = n } in y)) (sym is)

module _ (shape : Shape) {N : Type 0} (res : Reservation N) (range : IsInRange shape) (has : HasPlaces shape res) where
  abbrev t : PlainTable
  t = told_table shape res.front.items

  abbrev ns : List ℕ
  ns = nodes_in (up_mask t)

  few : length t.nodes ≤ MAX_NODES
  few = omega (arith, nodes-count shape (history_of res.front.items), range.few)

  -- there are as many nodes as a stripe has rows
  pub rows_placed : (r : ℕ) → r < shape.n → r < length (nodes_in res.up)
  rows_placed r low =
      let all : length (nodes_in res.up) ≡ length ns = ap (λ (m : ℕ). length (nodes_in m)) has.nodes in
      let enough = has.enough in
      omega (arith, all, (up_nodes t few).0, enough, low)

  -- the place of a row is a node that is up, in the incarnation of the reservation
  pub place_up : (s r : ℕ) → r < shape.n → slice_get t.nodes (place res.up s r) ≡ Some (record { up = true; inc = slice_index res.incs (place res.up s r) })
  place_up s r low =
      let m : ℕ = place (up_mask t) s r in
      let some : r < length ns = subst (λ (k : ℕ). r < length (nodes_in k)) has.nodes (rows_placed r low) in
      let at : (s + r) % length ns < length ns = mod-lt (s + r) (omega (arith, some)) in
      let there : m < length t.nodes = (up_nodes t few).1 ((s + r) % length ns) 0 at in
      let set : bit_at (up_mask t) m == 1 ≡ true = filter_passes (λ k. bit_at (up_mask t) k == 1) (range_with_len 0 MAX_NODES) ((s + r) % length ns) 0 at in
      let up : option_map_or (λ x. x.up) (slice_get t.nodes m) false ≡ true =
      flag_set (option_map_or (λ x. x.up) (slice_get t.nodes m) false) (ap (λ (b : ℕ). b == 1) (sym (bit_of t.nodes m)) ∙ set) in
      subst (λ (k : ℕ). slice_get t.nodes (place k s r) ≡ Some (record { up = true; inc = slice_index res.incs (place k s r) })) (sym has.nodes)
      (node_up (slice_get t.nodes m) (slice_index res.incs m) up (has.incs m (omega (arith, there, few))))

  pub place_there : (s r : ℕ) → r < shape.n → place res.up s r < shape.nodes
  place_there s r low = omega (arith, slice_get_within t.nodes (place res.up s r) _ (place_up s r low), nodes-count shape (history_of res.front.items))

  -- what a node keeps there is the row
  pub keeps_row : (told : Bool) (node inc s r : ℕ) (bytes : List ℕ) (x : ReceiptState) → node ≡ place res.up s r → inc ≡ slice_index res.incs node → r < shape.n → IsKeptAs node inc s r bytes x
      → KeepsRow shape told res s r bytes x
  keeps_row told node inc s r bytes x at during low is = λ bs are. record {
    of_stripe = is.of_stripe;
    of_row = is.of_row;
    placed = is.on_node ∙ at;
    alive = ap (slice_get t.nodes) (is.on_node ∙ at) ∙ place_up s r low
        ∙ ap (λ (k : ℕ). Some (let y : Node = record { up = true; inc = k } in y)) (ap (slice_index res.incs) (sym at) ∙ sym during ∙ sym is.during);
    bytes = subst (λ (b : List ℕ). AreOfRow shape told bs r b) (sym is.its_bytes) are;
  }

-- ---- the bytes of a row

-- those of a row are as many as a block has
pub of_row : (shape : Shape) (told : Bool) (xs : List ℕ) (r : ℕ) (bytes : List ℕ) → 1 ≤ shape.k → bytes ≡ row (blocks shape.k shape.block xs) r
    → AreOfRow shape told (blocks shape.k shape.block xs) r bytes
of_row shape true xs r bytes some is = is
of_row shape false xs r bytes some is = ap (λ (ys : List ℕ). length ys) is ∙ length-row shape.k shape.block xs r some (blocks-even shape.k shape.block xs)

-- a data row is that part of whole data
pub data_row : (k len : ℕ) (xs : List ℕ) (r : ℕ) → k ≤ 256 → r < k → length xs ≡ k * len → ((k : ℕ) → slice_index xs k < 2 ^ 8) → take len (drop (r * len) xs) ≡ row (blocks k len xs) r
data_row k len xs r few low whole bytes =
    same_Some (take len (drop (r * len) xs)) (row (blocks k len xs) r)
    (sym (slice_get-blocks k len xs r low (omega (arith, whole))) ∙ row-data (blocks k len xs) r (IsData-blocks k len xs few bytes) (omega (arith, low, length-blocks k len xs)))

-- whole data has blocks of this length
pub whole_len : (k len : ℕ) → 1 ≤ k → stripe_len k (k * len) ≡ len
whole_len k len some =
    let sum : k * len + k - 1 ≡ len * k + (k - 1) = omega (arith, some) in
    ap (λ (n : ℕ). n / k) sum ∙ div-mul-add len k (k - 1) (omega (arith, some))

-- ---- one row more, and one stripe more

module _ (shape : Shape) (told : Bool) {N : Type 0} (res : Reservation N) where
  pub none_added : (i : ℕ) (bs : List (List ℕ)) (old : List ReceiptState) → AddsRows shape told res i bs old 0 old
  none_added i bs old = λ content at first. record { each = omega (arith, first.each); kept = first.kept }

  pub one_added : (i s : ℕ) (bs : List (List ℕ)) (old now : List ReceiptState) (r : ℕ) (x : ReceiptState) → s ≡ res.first + i → r < shape.n → IsKeptFor shape told res s r bs x
      → AddsRows shape told res i bs old r now → AddsRows shape told res i bs old (r + 1) (now ++ x ∷ [])
  one_added i s bs old now r x number low is so_far = λ content at first.
      let so = so_far content at first in
      record {
        each = omega (arith, length-append now (x ∷ []), so.each);
        kept = λ j q ds y there small here. elim (get_split now x (j * shape.n + q) y here) [
          | inl before ↦ so.kept j q ds y there small before
          | inr last ↦
              let places = same_from_place j q i r shape.n small low (last.0 ∙ so.each) in
              let same : bs ≡ ds = same_Some bs ds (sym at ∙ ap (slice_get (stripes shape.k shape.block content)) (sym places.0) ∙ there) in
              subst (λ (z : ReceiptState). IsKeptFor shape told res (res.first + j) q ds z) last.1
              (subst (λ (d : List (List ℕ)). IsKeptFor shape told res (res.first + j) q d x) same
              (subst (λ (n : ℕ). IsKeptFor shape told res (res.first + j) n bs x) (sym places.1)
              (subst (λ (n : ℕ). IsKeptFor shape told res (res.first + n) r bs x) (sym places.0)
              (subst (λ (n : ℕ). IsKeptFor shape told res n r bs x) number is))))
        ];
      }

  pub none_kept : (content : List ℕ) → AreFirstKept shape told res content 0 []
  none_kept content = record { each = refl; kept = λ i r bs x at low here. absurd (cc) }

  -- a stripe whose data blocks are those of these bytes
  pub stripe_added : (content xs : List ℕ) (i : ℕ) (old new : List ReceiptState) → i < stripe_count shape.k shape.block (length content)
      → blocks shape.k shape.block xs ≡ blocks shape.k shape.block (drop (i * (shape.k * shape.block)) content)
      → AreFirstKept shape told res content (i * shape.n) old → AddsRows shape told res i (blocks shape.k shape.block xs) old shape.n new
      → AreFirstKept shape told res content ((i + 1) * shape.n) new
  stripe_added content xs i old new low same first adds =
      let count : i * shape.n + shape.n ≡ (i + 1) * shape.n = omega arith in
      subst (λ (n : ℕ). AreFirstKept shape told res content n new) count
      (adds content (slice_get-stripes shape.k shape.block content i low ∙ ap (λ (bs : List (List ℕ)). Some bs) (sym same)) first)

  pub all_kept : (content : List ℕ) (count : ℕ) (rows : List ReceiptState) → length content ≡ res.len → count ≡ res.stripes * shape.n → AreFirstKept shape told res content count rows
      → AreReceipts shape told res content rows
  all_kept content count rows len whole first = record { len = len; full = first.each ∙ whole; kept = first.kept }

-- ---- the bytes of a stripe

-- where the file has all of them
pub in_place : (k len : ℕ) (rest : List ℕ) → blocks k len (take (k * len) rest) ≡ blocks k len rest
in_place k len rest = sym (blocks-filled k len (take (k * len) rest)) ∙ ap (blocks k len) (filled-take (k * len) rest) ∙ blocks-filled k len rest

-- ---- whether it was kept or not

pub kept_either : {N E : Type 0} (shape : Shape) (told : Bool) (res : Reservation N) (s r : ℕ) (bs : List (List ℕ)) (bytes : List ℕ) (result : Result ReceiptState E) → AreOfRow shape told bs r bytes
    → IfOk result (KeepsRow shape told res s r bytes) → IfOk result (IsKeptFor shape told res s r bs)
kept_either shape told res s r bs bytes (Ok x) are keeps = keeps bs are
kept_either shape told res s r bs bytes (Err why) are keeps = tt

pub added_either : {N A E : Type 0} (shape : Shape) (told : Bool) (res : Reservation N) (content xs : List ℕ) (i : ℕ) (old new : List ReceiptState) (result : Result A E)
    → i < stripe_count shape.k shape.block (length content) → blocks shape.k shape.block xs ≡ blocks shape.k shape.block (drop (i * (shape.k * shape.block)) content)
    → AreFirstKept shape told res content (i * shape.n) old → OnOk result (AddsRows shape told res i (blocks shape.k shape.block xs) old shape.n new)
    → OnOk result (AreFirstKept shape told res content ((i + 1) * shape.n) new)
added_either shape told res content xs i old new (Ok a) low same first adds = stripe_added shape told res content xs i old new low same first adds
added_either shape told res content xs i old new (Err why) low same first adds = tt
