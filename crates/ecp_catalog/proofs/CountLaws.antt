-- Counting the live ones among some rows, and listing them.
use Rattle.std.proofs.Common.{◌≡◌, ℕ, zero, suc, ◌+◌, ◌-◌, ◌^◌, ◌<◌, ◌≤◌, ◌==◌, ◌&&◌, Bool, true, false, cond, List, [], ◌∷◌, ◌++◌, length, map, take, get_or, set, slice_get, filter, count_by, Option, Some, None, refl, sym, ◌∙◌, ap, subst, arith, inl, inr, length-take-le, drop, ◌*◌, mul-le-mul_right}
use Rattle.std.specs.Prelude.{All}
use Rattle.std.specs.List.{enumerate_from}
use Rattle.std.specs.Option.{option_map, option_map_or}
use Rattle.std.proofs.Math.Seq.{take-append_seam}
use Rattle.ecp_shape.specs.declared.shape.Shape.{Shape}
use Rattle.ecp_shape.specs.Range.{IsInRange}
use Rattle.ecp_catalog.specs.declared.limits.TheConstants.{END_OF_STRIPES}
use Rattle.ecp_catalog.specs.Kept.{rows_stored, stripes_stored}
use Rattle.std.proofs.lemmas.Bool.{false≢true, cases_eq, eq-eqb, ne_eqb}
use Rattle.std.proofs.lemmas.List.{map-append, take_more, length-map}
use Rattle.std.proofs.lemmas.List.Elements.{All-set, All-weaker, filter-append}
use Rattle.std.proofs.lemmas.List.Sums.{sum_by_more, sum_by-cons, count_by-le-length}
use Rattle.std.proofs.lemmas.Option.{slice_get-get_or, slice_get_within, same_Some}
use Rattle.ecp_node.specs.Receipts.{ReceiptState}
use Rattle.ecp_history.specs.declared.table.node.Node.{Node}
use Rattle.ecp_history.specs.declared.table.standing.Standing.{Standing}
use Rattle.ecp_history.specs.table.Tables.{stands_live}
use Rattle.ecp_plan.specs.declared.live_row.LiveRow.{LiveRow}
use Rattle.ecp_catalog.specs.Standing.{FileSeen, is_up_in, standing, live_among}
use Rattle.ecp_catalog.specs.Catalogs.{NodeSeen, uncounted, live_of, CountsRows}
use Rattle.ecp_catalog.proofs.NodeLaws.{changed_at-set, at-changed_same, at-changed_other, node-uncounted, length-uncounted}
use Rattle.ecp_catalog.specs.Catalogs.{changed_at, counted}
use Rattle.ecp_catalog.proofs.LossLaws.{enumerate-more}

-- one live row more, behind the others
pub live_among-more : (xs : List Standing) (y : Standing) → live_among (xs ++ y ∷ []) ≡ live_among xs ++ cond y.live (record { row = length xs; node = y.node } ∷ []) []
live_among-more xs y =
    ap (λ (ps : List (ℕ × Standing)). map made (filter (λ (p : ℕ × Standing). p.1.live) ps)) (enumerate-more 0 xs y)
    ∙ ap (map made) (filter-append (λ (p : ℕ × Standing). p.1.live) (enumerate_from 0 xs) ((0 + length xs, y) ∷ []))
    ∙ map-append made (filter (λ (p : ℕ × Standing). p.1.live) (enumerate_from 0 xs)) (filter (λ (p : ℕ × Standing). p.1.live) ((0 + length xs, y) ∷ []))
    ∙ ap (λ (ps : List LiveRow). live_among xs ++ ps) (one y.live)
  where
    made : ℕ × Standing → LiveRow
    made p = record { row = p.0; node = p.1.node }

    one : (b : Bool) → map (λ (p : ℕ × Standing). let x : LiveRow = record { row = p.0; node = p.1.node } in x) (cond b ((0 + length xs, y) ∷ []) []) ≡ cond b (record { row = length xs; node = y.node } ∷ []) []
    one true =
        let none : 0 + length xs ≡ length xs = omega arith in
        ap (λ (n : ℕ). let x : LiveRow = record { row = n; node = y.node } in x ∷ []) none
    one false = refl

-- 1 where it is so
abbrev bit : Bool → ℕ
bit b = cond b 1 0

-- the node of a row that stands live is there
pub live-within : (nodes : List Node) (x : ReceiptState) → (standing nodes x).live ≡ true → x.node < length nodes
live-within nodes x live = one (slice_get nodes x.node) refl live where
  one : (o : Option Node) → slice_get nodes x.node ≡ o → option_map_or (is_up_in x.inc) o false ≡ true → x.node < length nodes
  one None at is = absurd (false≢true is)
  one (Some y) at is = slice_get_within nodes x.node y at

uncounted-set : (xs : List NodeSeen) (j : ℕ) (y : NodeSeen) → y ≡ get_or xs j y → map uncounted (set xs j (counted y)) ≡ map uncounted xs
uncounted-set [] j y is = refl
uncounted-set (x ∷ xs) zero y is = ap (λ (z : NodeSeen). uncounted z ∷ map uncounted xs) is
uncounted-set (x ∷ xs) (suc j) y is = ap (λ (zs : List NodeSeen). uncounted x ∷ zs) (uncounted-set xs j y is)

live-set : (xs : List NodeSeen) (j m : ℕ) (y : NodeSeen) → j < length xs → y ≡ get_or xs j y → live_of (set xs j (counted y)) m ≡ live_of xs m + cond (j == m) 1 0
live-set xs j m y h is =
    let set_is : set xs j (counted y) ≡ changed_at counted j xs = ap (λ (z : NodeSeen). set xs j (counted z)) is ∙ sym (changed_at-set counted j xs y h) in
    ap (λ (zs : List NodeSeen). live_of zs m) set_is ∙ (elim (cases_eq m j) [
      | inl same ↦
          let at : slice_get xs j ≡ Some (get_or xs j y) = slice_get-get_or xs j y h in
          let own : j == m ≡ true = eq-eqb j m (sym same) in
          subst (λ (k : ℕ). live_of (changed_at counted j xs) k ≡ live_of xs k + cond (j == m) 1 0) (sym same)
          (at-changed_same (λ x. x.live) 0 counted j xs h (get_or xs j y) at
          ∙ ap (λ (n : ℕ). n + 1) (sym (ap (λ (o : Option NodeSeen). option_map_or (λ x. x.live) o 0) at)) ∙ ap (λ (b : Bool). live_of xs j + cond b 1 0) (sym own))
      | inr other ↦
          let apart : j == m ≡ false = ne_eqb j m (λ same. other (sym same)) in
          let none : live_of xs m ≡ live_of xs m + 0 = omega arith in
          at-changed_other (λ x. x.live) 0 counted j m xs other ∙ none ∙ ap (λ (b : Bool). live_of xs m + cond b 1 0) (sym apart)
    ])

-- what counting so far gives, one row on
module _ (old nodes : List NodeSeen) (rows : List ReceiptState) (i : ℕ) (x : ReceiptState) (low : i < length rows) (is : x ≡ get_or rows i x) where
  more : (m : ℕ) → count_by (λ y. stands_live m (standing (map (λ z. z.node) old) y)) (take (i + 1) rows)
      ≡ count_by (λ y. stands_live m (standing (map (λ z. z.node) old) y)) (take i rows) + cond (stands_live m (standing (map (λ z. z.node) old) x)) 1 0
  more m =
      sum_by_more (λ (y : ReceiptState). cond (stands_live m (standing (map (λ z. z.node) old) y)) 1 0) rows i x low
      ∙ ap (λ (y : ReceiptState). count_by (λ z. stands_live m (standing (map (λ w. w.node) old) z)) (take i rows) + cond (stands_live m (standing (map (λ z. z.node) old) y)) 1 0) (sym is)

  same_nodes : map uncounted nodes ≡ map uncounted old → map (λ z. z.node) nodes ≡ map (λ z. z.node) old
  same_nodes same = node-uncounted nodes ∙ ap (map (λ z. z.node)) same ∙ sym (node-uncounted old)

  pub counts-live : (y : NodeSeen) → CountsRows old nodes (take i rows) → (standing (map (λ z. z.node) nodes) x).live ≡ true → x.node < length nodes → y ≡ get_or nodes x.node y
      → CountsRows old (set nodes x.node (counted y)) (take (i + 1) rows)
  counts-live y so_far live there at = record {
    same = uncounted-set nodes x.node y at ∙ so_far.same;
    live = λ m.
        let stands : (standing (map (λ z. z.node) old) x).live ≡ true = ap (λ (ns : List Node). (standing ns x).live) (sym (same_nodes so_far.same)) ∙ live in
        let one : stands_live m (standing (map (λ z. z.node) old) x) ≡ (x.node == m) = ap (λ (b : Bool). b && (x.node == m)) stands in
        let here : bit (stands_live m (standing (map (λ z. z.node) old) x)) ≡ bit (x.node == m) = ap bit one in
        omega (arith, live-set nodes x.node m y there at, so_far.live m, more m, here);
  }

  pub counts-lost : CountsRows old nodes (take i rows) → (standing (map (λ z. z.node) nodes) x).live ≡ false → CountsRows old nodes (take (i + 1) rows)
  counts-lost so_far lost = record {
    same = so_far.same;
    live = λ m.
        let stands : (standing (map (λ z. z.node) old) x).live ≡ false = ap (λ (ns : List Node). (standing ns x).live) (sym (same_nodes so_far.same)) ∙ lost in
        let one : bit (stands_live m (standing (map (λ z. z.node) old) x)) ≡ 0 = ap (λ (b : Bool). bit (b && (x.node == m))) stands in
        omega (arith, so_far.live m, more m, one);
  }

-- there is room for the rows that are left
pub room-live : (nodes : List NodeSeen) (len i j : ℕ) (y : NodeSeen) → i < len → j < length nodes → y ≡ get_or nodes j y → All (λ x. x.live + (len - i) < 2 ^ 32) nodes
    → All (λ x. x.live + (len - (i + 1)) < 2 ^ 32) (set nodes j (counted y))
room-live nodes len i j y low there at room =
    let one : y.live + (len - i) < 2 ^ 32 = subst (λ (z : NodeSeen). z.live + (len - i) < 2 ^ 32) (sym at) (room j y there) in
    All-set (λ (x : NodeSeen). x.live + (len - (i + 1)) < 2 ^ 32) nodes j (counted y) (omega (arith, one, low))
    (All-weaker (λ (x : NodeSeen). x.live + (len - i) < 2 ^ 32) (λ x. x.live + (len - (i + 1)) < 2 ^ 32) (λ x h. omega (arith, h)) nodes room)

pub room-lost : (nodes : List NodeSeen) (len i : ℕ) → All (λ x. x.live + (len - i) < 2 ^ 32) nodes → All (λ x. x.live + (len - (i + 1)) < 2 ^ 32) nodes
room-lost nodes len i room = All-weaker (λ (x : NodeSeen). x.live + (len - i) < 2 ^ 32) (λ x. x.live + (len - (i + 1)) < 2 ^ 32) (λ x h. omega (arith, h)) nodes room

-- one row more is listed
pub rows-more : (nodes : List Node) (rows : List ReceiptState) (k : ℕ) (x : ReceiptState) → k < length rows → x ≡ get_or rows k x
    → live_among (map (standing nodes) (take (k + 1) rows)) ≡ live_among (map (standing nodes) (take k rows)) ++ cond (standing nodes x).live (record { row = k; node = x.node } ∷ []) []
rows-more nodes rows k x low is =
    let xs : List Standing = map (standing nodes) (take k rows) in
    let count : length xs ≡ k = length-map (take k rows) (standing nodes) ∙ length-take-le k rows (omega (arith, low)) in
    let taken : take (k + 1) rows ≡ take k rows ++ x ∷ [] = take_more rows k x low ∙ ap (λ (y : ReceiptState). take k rows ++ y ∷ []) (sym is) in
    ap (λ (ys : List ReceiptState). live_among (map (standing nodes) ys)) taken
    ∙ ap live_among (map-append (standing nodes) (take k rows) (x ∷ []))
    ∙ live_among-more xs (standing nodes x)
    ∙ ap (λ (n : ℕ). live_among xs ++ cond (standing nodes x).live (record { row = n; node = x.node } ∷ []) []) count

-- the live blocks and one file more are counted in 32 bits
pub fits : (shape : Shape) (old : List FileSeen) (f : FileSeen) (live : ℕ) → IsInRange shape → live ≤ rows_stored shape old → length f.rows ≡ f.file.stripes * shape.n
    → stripes_stored (f ∷ old) ≤ END_OF_STRIPES → live + length f.rows < 2 ^ 32
fits shape old f live in_range few full most =
    let whole : stripes_stored (f ∷ old) ≡ f.file.stripes + stripes_stored old = sum_by-cons (λ (x : FileSeen). x.file.stripes) f old in
    let rows : (f.file.stripes + stripes_stored old) * shape.n ≤ END_OF_STRIPES * shape.n = mul-le-mul_right shape.n (omega (arith, whole, most)) in
    omega (arith, rows, full, few, in_range.at_most)

-- as many rows as the stripe numbers allow are counted in 32 bits
pub rows-fit : (shape : Shape) (files : List FileSeen) → IsInRange shape → stripes_stored files ≤ END_OF_STRIPES → rows_stored shape files < 2 ^ 32
rows-fit shape files in_range most =
    let rows : stripes_stored files * shape.n ≤ END_OF_STRIPES * shape.n = mul-le-mul_right shape.n most in
    omega (arith, rows, in_range.at_most)

-- the live blocks of the node that is read
pub live-read : (nodes : List NodeSeen) (m : ℕ) (y : NodeSeen) → m < length nodes → y ≡ get_or nodes m y → live_of nodes m ≡ y.live
live-read nodes m y h is = ap (λ (o : Option NodeSeen). option_map_or (λ x. x.live) o 0) (slice_get-get_or nodes m y h ∙ ap (λ (z : NodeSeen). Some z) (sym is))

-- one block more on a node, and no more than there are
pub few-counted : (nodes : List NodeSeen) (m most : ℕ) (y : NodeSeen) → y.live < most → All (λ x. x.live ≤ most) nodes → All (λ x. x.live ≤ most) (set nodes m (counted y))
few-counted nodes m most y room few = All-set (λ (x : NodeSeen). x.live ≤ most) nodes m (counted y) (omega (arith, room)) few

-- no more are live than were, and these rows
pub few-more : (old new : List NodeSeen) (rows : List ReceiptState) (most : ℕ) → CountsRows old new rows → All (λ x. x.live ≤ most) old → All (λ x. x.live ≤ most + length rows) new
few-more old new rows most counts few k d h =
    let size : length new ≡ length old = length-uncounted new ∙ ap length counts.same ∙ sym (length-uncounted old) in
    let low : k < length old = omega (arith, h, size) in
    let here : live_of new k ≡ (get_or new k d).live = ap (λ (o : Option NodeSeen). option_map_or (λ x. x.live) o 0) (slice_get-get_or new k d h) in
    let there : live_of old k ≡ (get_or old k d).live = ap (λ (o : Option NodeSeen). option_map_or (λ x. x.live) o 0) (slice_get-get_or old k d low) in
    omega (arith, here, there, few k d low, counts.live k, count_by-le-length (λ (x : ReceiptState). stands_live k (standing (map (λ y. y.node) old) x)) rows)

pub rows_stored-more : (shape : Shape) (old : List FileSeen) (f : FileSeen) → rows_stored shape (f ∷ old) ≡ rows_stored shape old + f.file.stripes * shape.n
rows_stored-more shape old f =
    let whole : stripes_stored (f ∷ old) ≡ f.file.stripes + stripes_stored old = sum_by-cons (λ (x : FileSeen). x.file.stripes) f old in
    ap (λ (n : ℕ). n * shape.n) whole ∙ spread_out f.file.stripes (stripes_stored old) shape.n
  where
    spread_out : (a b n : ℕ) → (a + b) * n ≡ b * n + a * n
    spread_out a b n = omega arith

-- what is written over a list of the same length
pub written : {X : Type 0} (n : ℕ) (ws xs : List X) → length ws ≡ n → take n (ws ++ drop (length ws) xs) ≡ ws
written n ws xs is = ap (λ (m : ℕ). take m (ws ++ drop (length ws) xs)) (sym is) ∙ take-append_seam ws (drop (length ws) xs)

-- the receipts of the newest file
pub newest_rows : (files old : List FileSeen) (f : FileSeen) (rows : List ReceiptState) → files ≡ f ∷ old → option_map (λ x. x.rows) (slice_get files 0) ≡ Some rows → rows ≡ f.rows
newest_rows files old f rows is at = sym (same_Some f.rows rows (sym (ap (λ (fs : List FileSeen). option_map (λ x. x.rows) (slice_get fs 0)) is) ∙ at))
