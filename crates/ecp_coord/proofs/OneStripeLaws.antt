-- The two rows of one stripe of one byte are those of a put of one byte.
use Rattle.std.proofs.Common.{◌≡◌, ℕ, zero, suc, ◌+◌, ◌*◌, ◌<◌, Bool, true, false, List, [], ◌∷◌, length, Some, refl, sym, ◌∙◌, ap, subst, arith}
use Rattle.std.specs.Prelude.{slice_get}
use Rattle.std.proofs.lemmas.Option.{same_Some, slice_get_within}
use Rattle.ecp_shape.specs.declared.shape.Shape.{Shape}
use Rattle.ecp_book.specs.Logs.{Log}
use Rattle.ecp_code.specs.Stripes.{stripe_count}
use Rattle.ecp_node.specs.Receipts.{ReceiptState}
use Rattle.ecp_history.specs.Fronts.{told_table}
use Rattle.ecp_history.specs.declared.table.node.Node.{Node}
use Rattle.ecp_history.specs.table.Placement.{place}
use Rattle.ecp_history.specs.table.Tables.{PlainTable, start, up_mask}
use Rattle.ecp_catalog.specs.Outline.{AreKept, IsKeptAt}
use Rattle.ecp_coord.specs.declared.reservation.Reservation.{Reservation}
use Rattle.ecp_coord.specs.OneStripe.{AreRows, IsRow}
use Rattle.ecp_coord.specs.Puts.{AreReceipts}

-- the sizes: two rows a stripe, on two nodes
abbrev pub two : Shape
two = record { n = 2; k = 1; nodes = 2; block = 1 }

one_kept : (r up : ℕ) (blocks : List (List ℕ)) (x : ReceiptState) → IsRow r x → r ≡ place up 0 r → slice_get (start two).nodes r ≡ Some (record { up = true; inc = 0 })
    → IsKeptAt two false (start two) up 0 r blocks x
one_kept r up blocks x is placed alive = record {
  of_stripe = is.stripe;
  of_row = is.row;
  placed = is.node ∙ placed;
  alive = ap (slice_get (start two).nodes) is.node ∙ alive ∙ ap (λ (k : ℕ). Some (let y : Node = record { up = true; inc = k } in y)) (sym is.inc);
  bytes = is.bytes;
}

both_kept : (content : List ℕ) (rows : List ReceiptState) → AreRows rows → AreKept two false (start two) 0 3 content rows
both_kept content rows are i r blocks x at low here =
    let all : slice_get (are.zero_row ∷ are.one_row ∷ []) (i * 2 + r) ≡ Some x = ap (λ (xs : List ReceiptState). slice_get xs (i * 2 + r)) (sym are.both) ∙ here in
    let within : i * 2 + r < 2 = slice_get_within (are.zero_row ∷ are.one_row ∷ []) (i * 2 + r) x all in
    let first : i ≡ 0 = omega (arith, within) in
    let found : slice_get (are.zero_row ∷ are.one_row ∷ []) r ≡ Some x = ap (slice_get (are.zero_row ∷ are.one_row ∷ [])) (let same : r ≡ i * 2 + r = omega (arith, first) in same) ∙ all in
    subst (λ (k : ℕ). IsKeptAt two false (start two) 3 k r blocks x) (let same : 0 ≡ 0 + i = omega (arith, first) in same) (by_row r low found)
  where
    by_row : (q : ℕ) → q < 2 → slice_get (are.zero_row ∷ are.one_row ∷ []) q ≡ Some x → IsKeptAt two false (start two) 3 0 q blocks x
    by_row zero low found = subst (IsKeptAt two false (start two) 3 0 0 blocks) (same_Some are.zero_row x found) (one_kept 0 3 blocks are.zero_row are.zero_is refl refl)
    by_row (suc zero) low found = subst (IsKeptAt two false (start two) 3 0 1 blocks) (same_Some are.one_row x found) (one_kept 1 3 blocks are.one_row are.one_is refl refl)
    by_row (suc (suc q)) low found = absurd (omega (arith, low))

pub receipts_are : {N : Type 0} (shape : Shape) (told : Bool) (res : Reservation N) (content : List ℕ) (rows : List ReceiptState) → shape ≡ two → told ≡ false → length content ≡ 1 → res.len ≡ 1 → res.first ≡ 0
    → res.stripes ≡ stripe_count shape.k shape.block res.len → res.front.items ≡ [] → res.up ≡ up_mask (told_table shape res.front.items) → AreRows rows → AreReceipts shape told res content rows
receipts_are shape told res content rows sizes none size len first count empty up are =
    let table : told_table shape res.front.items ≡ start two = ap (λ (xs : Log). told_table shape xs) empty ∙ ap (λ (z : Shape). start z) sizes in
    let mask : res.up ≡ 3 = up ∙ ap (λ (t : PlainTable). up_mask t) table in
    let counted : res.stripes ≡ 1 = count ∙ ap (λ (n : ℕ). stripe_count shape.k shape.block n) len ∙ ap (λ (z : Shape). stripe_count z.k z.block 1) sizes in
    record {
      len = size ∙ sym len;
      full = ap (λ (xs : List ReceiptState). length xs) are.both ∙ sym (ap (λ (n : ℕ). n * shape.n) counted ∙ ap (λ (z : Shape). 1 * z.n) sizes);
      kept = subst (λ (z : Shape). AreKept z told (told_table shape res.front.items) res.first res.up content rows) (sym sizes)
          (subst (λ (b : Bool). AreKept two b (told_table shape res.front.items) res.first res.up content rows) (sym none)
          (subst (λ (t : PlainTable). AreKept two false t res.first res.up content rows) (sym table)
          (subst (λ (k : ℕ). AreKept two false (start two) k res.up content rows) (sym first)
          (subst (λ (m : ℕ). AreKept two false (start two) 0 m content rows) (sym mask) (both_kept content rows are)))));
    }
