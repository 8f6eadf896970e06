-- The catalog that stored a file is the outline of the history with the entry that stores it.
use Rattle.std.proofs.Common.{◌≡◌, ℕ, zero, suc, ◌+◌, ◌-◌, ◌*◌, ◌<◌, ◌≤◌, ◌⊎◌, ◌==◌, Bool, true, false, cond, ◌&&◌, List, [], ◌∷◌, ◌++◌, length, map, take, drop, fold, slice_get, get_or, find, count_by, sum_by, is_some, Option, Some, None, refl, sym, ◌∙◌, ap, subst, arith, inl, inr, length-drop, length-take-le, mul-le-mul_right, add_comm, zero-add}
use Rattle.std.specs.Prelude.{nat_le, nat_lt, option_map}
use Rattle.std.specs.Option.{option_map_or}
use Rattle.std.proofs.lemmas.Bool.{false≢true, cases_lt, eqb-true, eq-eqb, ne_eqb}
use Rattle.std.proofs.lemmas.Bool.Decides.{nat_tests}
use Rattle.std.proofs.lemmas.Option.{slice_get-map, slice_get_within, slice_get-get_or, get_or_from_slice_get}
use Rattle.std.proofs.lemmas.List.{length-map, get_or-take, get_or-drop, drop-drop, nil_from_length}
use Rattle.std.proofs.lemmas.List.FromFn.{fill_by_all}
use Rattle.std.proofs.lemmas.List.Sums.{sum_by-cons, sum_by-take-drop}
use Rattle.ecp_shape.specs.declared.shape.Shape.{Shape}
use Rattle.ecp_code.specs.Rows.{row}
use Rattle.ecp_code.specs.Stripes.{stripes}
use Rattle.ecp_node.specs.Receipts.{ReceiptState}
use Rattle.ecp_entry.specs.declared.act.Act.{Act}
use Rattle.ecp_entry.specs.declared.act.Act.TheVariants.{Stored}
use Rattle.ecp_entry.specs.declared.entry.Entry.{Entry}
use Rattle.ecp_entry.specs.Entries.{lost_node}
use Rattle.ecp_history.specs.Acts.{AreFresh, HoldsIn}
use Rattle.ecp_history.specs.Fronts.{AreOfBlock}
use Rattle.ecp_history.specs.Legal.{IsLegal, MayFollow}
use Rattle.ecp_history.specs.table.Placement.{nodes_in, place_among}
use Rattle.ecp_history.specs.declared.table.file.File.{File}
use Rattle.ecp_history.specs.declared.table.node.Node.{Node}
use Rattle.ecp_history.specs.declared.table.standing.Standing.{Standing}
use Rattle.ecp_history.specs.table.Tables.{Stripe, PlainTable, stripe_of, rows_of, data_of, live_on, stands_live, inc_of}
use Rattle.ecp_history.specs.table.Steps.{rows_among, stripes_among, placed, stored, after_act, table_of, table_at}
use Rattle.ecp_history.proofs.StripeLaws.{stored_by}
use Rattle.ecp_history.proofs.tables.StoreLaws.{length-stripes_among}
use Rattle.ecp_catalog.specs.Standing.{FileSeen, has_number, file_with, receipts_in, standing, is_up_in}
use Rattle.ecp_catalog.specs.Catalogs.{CatalogState, NodeSeen, Stores, receipts_of}
use Rattle.ecp_catalog.specs.Outline.{loss_positions, IsOutline, AreOfRow, IsKeptAt, AreKept, file_stored}
use Rattle.ecp_catalog.proofs.NodeLaws.{node-uncounted, losses-uncounted, length-uncounted}
use Rattle.ecp_catalog.proofs.OutlineLaws.{one_more, no_position, onto, same_receipt}

-- ---- stripes that are put among others

-- one that is put is found
find-placed_same : (xs : List Stripe) (x : Stripe) → find (λ y. y.number == x.number) (placed xs x) ≡ Some x
find-placed_same [] x = rw (eq-eqb x.number x.number refl) refl
find-placed_same (y ∷ ys) x = one (nat_lt x.number y.number) (x.number == y.number) refl (find-placed_same ys x) where
  own : x.number == x.number ≡ true
  own = eq-eqb x.number x.number refl

  one : (less same : Bool) → x.number == y.number ≡ same → find (λ z. z.number == x.number) (placed ys x) ≡ Some x
      → find (λ z. z.number == x.number) (cond less (x ∷ y ∷ ys) (cond same (x ∷ ys) (y ∷ placed ys x))) ≡ Some x
  one true same is more = rw own refl
  one false true is more = rw own refl
  one false false is more =
      let other : y.number == x.number ≡ false = grind (arith, nat_tests) in
      rw other more

-- and leaves the others
find-placed_other : (s : ℕ) (xs : List Stripe) (x : Stripe) → x.number == s ≡ false → find (λ y. y.number == s) (placed xs x) ≡ find (λ y. y.number == s) xs
find-placed_other s [] x off = rw off refl
find-placed_other s (y ∷ ys) x off = one (nat_lt x.number y.number) (x.number == y.number) refl (find-placed_other s ys x off) where
  one : (less same : Bool) → x.number == y.number ≡ same → find (λ z. z.number == s) (placed ys x) ≡ find (λ z. z.number == s) ys
      → find (λ z. z.number == s) (cond less (x ∷ y ∷ ys) (cond same (x ∷ ys) (y ∷ placed ys x))) ≡ find (λ z. z.number == s) (y ∷ ys)
  one true same is more = rw off refl
  one false true is more =
      let gone : y.number == s ≡ false = ap (λ (n : ℕ). n == s) (sym (eqb-true x.number y.number is)) ∙ off in
      rw (off, gone) refl
  one false false is more = ap (λ (o : Option Stripe). cond (y.number == s) (Some y) o) more

-- new stripes take no place of others
pub find-put_other : (nodes : List ℕ) (n a : ℕ) (ds : List (List (List ℕ))) (xs : List Stripe) (s : ℕ) → (s < a) ⊎ (a + length ds ≤ s)
    → find (λ x. x.number == s) (fold placed xs (stripes_among nodes n a ds)) ≡ find (λ x. x.number == s) xs
find-put_other nodes n a [] xs s outside = refl
find-put_other nodes n a (d ∷ ds) xs s outside =
    let x : Stripe = record { number = a; blocks = d; rows = rows_among nodes n a } in
    let other : a == s ≡ false = grind (arith, nat_tests) in
    find-put_other nodes n (a + 1) ds (placed xs x) s (elim outside [ inl below ↦ inl (omega arith) | inr above ↦ inr (omega arith) ])
    ∙ find-placed_other s xs x other

-- and are found themselves
pub find-put_new : (nodes : List ℕ) (n a : ℕ) (ds : List (List (List ℕ))) (xs : List Stripe) (i : ℕ) (d : List (List ℕ)) → slice_get ds i ≡ Some d
    → find (λ x. x.number == a + i) (fold placed xs (stripes_among nodes n a ds)) ≡ Some (record { number = a + i; blocks = d; rows = rows_among nodes n (a + i) })
find-put_new nodes n a [] xs i d is = cc
find-put_new nodes n a (b ∷ ds) xs zero d is =
    let x : Stripe = record { number = a; blocks = b; rows = rows_among nodes n a } in
    let here : a + 0 ≡ a = omega arith in
    rw here (find-put_other nodes n (a + 1) ds (placed xs x) a (inl (omega arith)) ∙ find-placed_same xs x
    ∙ ap (λ (o : Option (List (List ℕ))). option_map (λ c. record { number = a; blocks = c; rows = rows_among nodes n a }) o) is)
find-put_new nodes n a (b ∷ ds) xs (suc i) d is =
    let x : Stripe = record { number = a; blocks = b; rows = rows_among nodes n a } in
    let next : a + suc i ≡ a + 1 + i = omega arith in
    rw next (find-put_new nodes n (a + 1) ds (placed xs x) i d is)

-- what a sum over stripes gains by a new one
sum-placed : (f : Stripe → ℕ) (xs : List Stripe) (x : Stripe) → find (λ y. y.number == x.number) xs ≡ None → sum_by f (placed xs x) ≡ f x + sum_by f xs
sum-placed f [] x none = sum_by-cons f x []
sum-placed f (y ∷ ys) x none = one (nat_lt x.number y.number) (x.number == y.number) (y.number == x.number) refl refl none (sum-placed f ys x) where
  one : (less same turned : Bool) → x.number == y.number ≡ same → y.number == x.number ≡ turned → cond turned (Some y) (find (λ z. z.number == x.number) ys) ≡ None
      → (find (λ z. z.number == x.number) ys ≡ None → sum_by f (placed ys x) ≡ f x + sum_by f ys)
      → sum_by f (cond less (x ∷ y ∷ ys) (cond same (x ∷ ys) (y ∷ placed ys x))) ≡ f x + sum_by f (y ∷ ys)
  one less same true is turns missing more = cc
  one true same false is turns missing more = sum_by-cons f x (y ∷ ys)
  one false true false is turns missing more = absurd (false≢true (sym turns ∙ eq-eqb y.number x.number (sym (eqb-true x.number y.number is))))
  one false false false is turns missing more =
      let rest : sum_by f (placed ys x) ≡ f x + sum_by f ys = more missing in
      omega (arith, rest, sum_by-cons f y (placed ys x), sum_by-cons f y ys)

pub sum-put : (f : Stripe → ℕ) (nodes : List ℕ) (n a : ℕ) (ds : List (List (List ℕ))) (xs : List Stripe)
    → ((s : ℕ) → a ≤ s → s < a + length ds → find (λ x. x.number == s) xs ≡ None)
    → sum_by f (fold placed xs (stripes_among nodes n a ds)) ≡ sum_by f (stripes_among nodes n a ds) + sum_by f xs
sum-put f nodes n a [] xs none = sym (zero-add (sum_by f xs))
sum-put f nodes n a (d ∷ ds) xs none =
    let x : Stripe = record { number = a; blocks = d; rows = rows_among nodes n a } in
    let first : sum_by f (placed xs x) ≡ f x + sum_by f xs = sum-placed f xs x (none a (omega arith) (omega arith)) in
    let rest : sum_by f (fold placed (placed xs x) (stripes_among nodes n (a + 1) ds)) ≡ sum_by f (stripes_among nodes n (a + 1) ds) + sum_by f (placed xs x) =
    sum-put f nodes n (a + 1) ds (placed xs x) (λ s from to.
    let other : a == s ≡ false = ne_eqb a s (λ same. omega (arith, same, from)) in
    find-placed_other s xs x other ∙ none s (omega (arith, from)) (omega (arith, to))) in
    omega (arith, first, rest, sum_by-cons f x (stripes_among nodes n (a + 1) ds))

-- ---- receipts by stripes

count-map : (m : ℕ) (nodes : List Node) (xs : List ReceiptState) → count_by (λ x. stands_live m (standing nodes x)) xs ≡ count_by (stands_live m) (map (standing nodes) xs)
count-map m nodes [] = refl
count-map m nodes (x ∷ xs) =
    sum_by-cons (λ (y : ReceiptState). cond (stands_live m (standing nodes y)) 1 0) x xs
    ∙ ap (λ (n : ℕ). cond (stands_live m (standing nodes x)) 1 0 + n) (count-map m nodes xs)
    ∙ sym (sum_by-cons (λ (y : Standing). cond (stands_live m y) 1 0) (standing nodes x) (map (standing nodes) xs))

-- the live rows of new stripes are those of their receipts
count-stripes : (m n : ℕ) (at : List ℕ) (nodes : List Node) (a : ℕ) (ds : List (List (List ℕ))) (rows : List ReceiptState) → length rows ≡ length ds * n
    → ((i : ℕ) → i < length ds → map (standing nodes) (take n (drop (i * n) rows)) ≡ rows_among at n (a + i))
    → count_by (λ x. stands_live m (standing nodes x)) rows ≡ sum_by (λ x. count_by (stands_live m) x.rows) (stripes_among at n a ds)
count-stripes m n at nodes a [] rows size chunks =
    let none : rows ≡ [] = nil_from_length rows (omega (arith, size)) in
    ap (count_by (λ (x : ReceiptState). stands_live m (standing nodes x))) none
count-stripes m n at nodes a (d ∷ ds) rows size chunks =
    let live : ReceiptState → Bool = λ x. stands_live m (standing nodes x) in
    let x : Stripe = record { number = a; blocks = d; rows = rows_among at n a } in
    let here : a + 0 ≡ a = omega arith in
    let split : length (d ∷ ds) * n ≡ length ds * n + n = omega arith in
    let whole : length rows ≡ length ds * n + n = size ∙ split in
    let start : 0 ≡ 0 * n = omega arith in
    let first : map (standing nodes) (take n rows) ≡ rows_among at n a =
    ap (λ (k : ℕ). map (standing nodes) (take n (drop k rows))) start ∙ chunks 0 (omega arith) ∙ ap (rows_among at n) here in
    let one : count_by live (take n rows) ≡ count_by (stands_live m) (rows_among at n a) = count-map m nodes (take n rows) ∙ ap (count_by (stands_live m)) first in
    let rest : count_by live (drop n rows) ≡ sum_by (λ y. count_by (stands_live m) y.rows) (stripes_among at n (a + 1) ds) =
    count-stripes m n at nodes (a + 1) ds (drop n rows) (omega (arith, length-drop n rows, whole)) (λ i h.
    let along : n + i * n ≡ suc i * n = omega arith in
    let number : a + suc i ≡ a + 1 + i = omega arith in
    ap (λ (k : List ReceiptState). map (standing nodes) (take n k)) (drop-drop (i * n) n rows ∙ ap (λ (k : ℕ). drop k rows) along) ∙ chunks (suc i) (omega (arith, h))
    ∙ ap (rows_among at n) number) in
    omega (arith, one, rest, sum_by-take-drop (λ (y : ReceiptState). cond (live y) 1 0) rows n, sum_by-cons (λ (y : Stripe). count_by (stands_live m) y.rows) x (stripes_among at n (a + 1) ds))

-- some receipt, where a look-up wants a default
blank : ReceiptState
blank = record { stripe = 0; row = 0; serial = 0; inc = 0; node = 0; bytes = []; items = [] }

-- stripe i of a content has its n receipts among those of all
pub room_for : (i count n : ℕ) → i < count → i * n + n ≤ count * n
room_for i count n h =
    let next : suc i * n ≤ count * n = mul-le-mul_right n h in
    omega (arith, next)

pub length-chunk : (i count n : ℕ) (rows : List ReceiptState) → i < count → length rows ≡ count * n → length (take n (drop (i * n) rows)) ≡ n
length-chunk i count n rows h size = length-take-le n (drop (i * n) rows) (omega (arith, length-drop (i * n) rows, room_for i count n h, size))

pub get-chunk : (i count n r : ℕ) (rows : List ReceiptState) → i < count → length rows ≡ count * n → r < n → slice_get (take n (drop (i * n) rows)) r ≡ slice_get rows (i * n + r)
get-chunk i count n r rows h size low =
    let within : r < length (take n (drop (i * n) rows)) = omega (arith, length-chunk i count n rows h size, low) in
    let there : i * n + r < length rows = omega (arith, room_for i count n h, size, low) in
    slice_get-get_or (take n (drop (i * n) rows)) r blank within
    ∙ ap (λ (x : ReceiptState). Some x) (get_or-take n (drop (i * n) rows) r blank low ∙ get_or-drop (i * n) rows r blank)
    ∙ sym (slice_get-get_or rows (i * n + r) blank there)

-- a row that is kept at its place stands there and is live
stands_kept : (shape : Shape) (told : Bool) (t : PlainTable) (up s r : ℕ) (d : List (List ℕ)) (x : ReceiptState) → IsKeptAt shape told t up s r d x
    → standing t.nodes x ≡ record { node = place_among (nodes_in up) s r; live = true }
stands_kept shape told t up s r d x kept =
    let own : x.inc == x.inc ≡ true = eq-eqb x.inc x.inc refl in
    let live : option_map_or (is_up_in x.inc) (slice_get t.nodes x.node) false ≡ true = ap (λ (o : Option Node). option_map_or (is_up_in x.inc) o false) kept.alive ∙ own in
    ap (λ (b : Bool). let y : Standing = record { node = x.node; live = b } in y) live
    ∙ ap (λ (m : ℕ). let y : Standing = record { node = m; live = true } in y) kept.placed

chunk-stands : (shape : Shape) (told : Bool) (t : PlainTable) (first up : ℕ) (content : List ℕ) (rows : List ReceiptState) (i count : ℕ) (d : List (List ℕ))
    → AreKept shape told t first up content rows → i < count → length rows ≡ count * shape.n → slice_get (stripes shape.k shape.block content) i ≡ Some d
    → map (standing t.nodes) (take shape.n (drop (i * shape.n) rows)) ≡ rows_among (nodes_in up) shape.n (first + i)
chunk-stands shape told t first up content rows i count d kept h size is =
    let n = shape.n in
    let chunk : List ReceiptState = take n (drop (i * n) rows) in
    let y : Standing = record { node = 0; live = false } in
    fill_by_all (λ r. let x : Standing = record { node = place_among (nodes_in up) (first + i) r; live = true } in x) (map (standing t.nodes) chunk) n y
    (length-map chunk (standing t.nodes) ∙ length-chunk i count n rows h size)
    (λ r low.
    let there : i * n + r < length rows = omega (arith, room_for i count n h, size, low) in
    let x : ReceiptState = get_or rows (i * n + r) blank in
    let at : slice_get rows (i * n + r) ≡ Some x = slice_get-get_or rows (i * n + r) blank there in
    let found : slice_get (map (standing t.nodes) chunk) r ≡ Some (standing t.nodes x) =
    slice_get-map (standing t.nodes) chunk r ∙ ap (option_map (standing t.nodes)) (get-chunk i count n r rows h size low ∙ at) in
    get_or_from_slice_get (map (standing t.nodes) chunk) r (standing t.nodes x) y found ∙ stands_kept shape told t up (first + i) r d x (kept i r d x is low at))

-- ---- the outline

-- a number is one of a new stripe, or none
pub place_in : (s first count : ℕ) → ((i : ℕ) × (i < count) × (s ≡ first + i)) ⊎ ((s < first) ⊎ (first + count ≤ s))
place_in s first count = elim (cases_lt s first) [
  | inl below ↦ inr (inl below)
  | inr from ↦ elim (cases_lt s (first + count)) [
    | inl within ↦ inl (s - first, omega (arith, from, within), omega (arith, from))
    | inr above ↦ inr (inr above)
  ]
]

-- no stripe has a number that no entry has stored
none_found : (o : Option Stripe) → (is_some (option_map (λ x. x.blocks) o) ≡ true → ⊥) → o ≡ None
none_found None never = refl
none_found (Some x) never = absurd (never refl)

pub unstored : (shape : Shape) (told : Bool) (history : List Entry) (first count s : ℕ) → IsLegal shape told history → AreFresh history first count → first ≤ s → s < first + count
    → stripe_of (table_of shape history) s ≡ None
unstored shape told history first count s legal fresh from to =
    none_found (stripe_of (table_of shape history) s) (λ there. false≢true (sym (fresh s from to) ∙ stored_by shape told history s legal there))

no_file : (o : Option FileSeen) → is_some o ≡ false → o ≡ None
no_file None is = refl
no_file (Some f) is = absurd (false≢true (sym is))

pub free_numbers : (shape : Shape) (told : Bool) (c : CatalogState) (history : List Entry) (first count s : ℕ) → IsLegal shape told history → IsOutline shape told c history
    → AreFresh history first count → first ≤ s → s < first + count → file_with c.files s ≡ None
free_numbers shape told c history first count s legal is fresh from to =
    no_file (file_with c.files s) (is.stripes s ∙ ap (λ (o : Option Stripe). is_some o) (unstored shape told history first count s legal fresh from to))

-- the bytes of a row of a stripe's data are those of the block
row_of_block : (shape : Shape) (told : Bool) (t : PlainTable) (s r : ℕ) (d : List (List ℕ)) (bytes : List ℕ) → data_of t s ≡ d → AreOfRow shape told d r bytes → AreOfBlock shape told t s r bytes
row_of_block shape true t s r d bytes same is = is ∙ ap (λ (c : List (List ℕ)). row c r) (sym same)
row_of_block shape false t s r d bytes same is = is

-- the receipts of a stripe, where one file more is there
receipts-new : (n : ℕ) (f : FileSeen) (files : List FileSeen) (i : ℕ) → i < f.file.stripes → receipts_in n (f ∷ files) (f.file.first + i) ≡ take n (drop (i * n) f.rows)
receipts-new n f files i h =
    let has : (nat_le f.file.first (f.file.first + i) && nat_lt (f.file.first + i) (f.file.first + f.file.stripes)) ≡ true = grind (arith, nat_tests) in
    let at : f.file.first + i - f.file.first ≡ i = omega arith in
    rw (has, at) refl

off_number : (s : ℕ) (f : FileSeen) → (s < f.file.first) ⊎ (f.file.first + f.file.stripes ≤ s) → has_number s f ≡ false
off_number s f outside = grind (arith, nat_tests)

on_number : (i : ℕ) (f : FileSeen) → i < f.file.stripes → has_number (f.file.first + i) f ≡ true
on_number i f h = grind (arith, nat_tests)

receipts-old : (n : ℕ) (f : FileSeen) (files : List FileSeen) (s : ℕ) → has_number s f ≡ false → receipts_in n (f ∷ files) s ≡ receipts_in n files s
receipts-old n f files s off = rw off refl

pub stored_outline : (shape : Shape) (told : Bool) (old new : CatalogState) (history : List Entry) (e : Entry) (first count up : ℕ) (rows : List ReceiptState)
    → IsLegal shape told history → IsOutline shape told old history → MayFollow shape told history e → e.line.act ≡ Stored first count up
    → AreKept shape told (table_of shape history) first up e.bytes rows → length rows ≡ count * shape.n
    → Stores old new (record { file = file_stored e first count; rows = rows }) → IsOutline shape told new (history ++ e ∷ [])
stored_outline shape told old new history e first count up rows legal is next act kept size stores =
    let t : PlainTable = table_of shape history in
    let n : ℕ = shape.n in
    let ds : List (List (List ℕ)) = stripes shape.k shape.block e.bytes in
    let at : List ℕ = nodes_in up in
    let f : FileSeen = record { file = file_stored e first count; rows = rows } in
    let u : PlainTable = stored shape t e.name e.bytes first up in
    let says : HoldsIn shape told history t (table_at shape history e.line.point) e (Stored first count up) =
    subst (HoldsIn shape told history t (table_at shape history e.line.point) e) act next.holds in
    let counted : count ≡ length ds = says.counted in
    let none : (s : ℕ) → first ≤ s → s < first + length ds → find (λ x. x.number == s) t.stripes ≡ None =
    λ s from to. unstored shape told history first count s legal says.fresh from (subst (λ (c : ℕ). s < first + c) (sym counted) to) in
    let table : table_of shape (history ++ e ∷ []) ≡ u = one_more shape history e ∙ ap (after_act shape t e) act in
    let nodes : map (λ x. x.node) new.nodes ≡ map (λ x. x.node) old.nodes =
    node-uncounted new.nodes ∙ ap (map (λ x. x.node)) stores.counts.same ∙ sym (node-uncounted old.nodes) in
    let as_many : length new.nodes ≡ length old.nodes = length-uncounted new.nodes ∙ ap length stores.counts.same ∙ sym (length-uncounted old.nodes) in
    let receipts : (s : ℕ) → receipts_of new s ≡ receipts_in n (f ∷ old.files) s =
    λ s. ap (λ (k : Shape). receipts_in k.n new.files s) (stores.file.shape ∙ is.sizes) ∙ ap (λ (fs : List FileSeen). receipts_in n fs s) stores.file.files in
    let before : (s : ℕ) → receipts_in n old.files s ≡ receipts_of old s = λ s. ap (λ (k : Shape). receipts_in k.n old.files s) (sym is.sizes) in
    let datum : (i : ℕ) → i < count → slice_get ds i ≡ Some (get_or ds i []) = λ i h. slice_get-get_or ds i [] (omega (arith, h, counted)) in
    let put : (i : ℕ) → i < count → stripe_of u (first + i) ≡ Some (record { number = first + i; blocks = get_or ds i []; rows = rows_among at n (first + i) }) =
    λ i h. find-put_new at n first ds t.stripes i (get_or ds i []) (datum i h) in
    let stays : (s : ℕ) → (s < first) ⊎ (first + count ≤ s) → stripe_of u s ≡ stripe_of t s =
    λ s outside. find-put_other at n first ds t.stripes s (subst (λ (c : ℕ). (s < first) ⊎ (first + c ≤ s)) counted outside) in
    let chunk : (i : ℕ) → i < count → map (standing t.nodes) (take n (drop (i * n) rows)) ≡ rows_among at n (first + i) =
    λ i h. chunk-stands shape told t first up e.bytes rows i count (get_or ds i []) kept h size (datum i h) in
    let kept_new : (s i r : ℕ) (x : ReceiptState) → i < count → s ≡ first + i → slice_get (receipts_of new s) r ≡ Some x → IsKeptAt shape told t up (first + i) r (get_or ds i []) x =
    λ s i r x i_low place h.
    let here : slice_get (take n (drop (i * n) rows)) r ≡ Some x =
    ap (λ (xs : List ReceiptState). slice_get xs r) (sym (receipts s ∙ ap (receipts_in n (f ∷ old.files)) place ∙ receipts-new n f old.files i i_low)) ∙ h in
    let low : r < n = omega (arith, slice_get_within (take n (drop (i * n) rows)) r x here, length-chunk i count n rows i_low size) in
    kept i r (get_or ds i []) x (datum i i_low) low (sym (get-chunk i count n r rows i_low size low) ∙ here) in
    let kept_old : (s r : ℕ) (x : ReceiptState) → (s < first) ⊎ (first + count ≤ s) → slice_get (receipts_of new s) r ≡ Some x → slice_get (receipts_of old s) r ≡ Some x =
    λ s r x outside h. ap (λ (xs : List ReceiptState). slice_get xs r) (sym (receipts s ∙ receipts-old n f old.files s (off_number s f outside) ∙ before s)) ∙ h in
    onto shape told new u (table_of shape (history ++ e ∷ [])) (λ m. loss_positions m history) (λ m. loss_positions m (history ++ e ∷ []))
    (record {
      sizes = stores.file.shape ∙ is.sizes;
      files = ap (map (λ x. x.file)) stores.file.files ∙ ap (λ (fs : List File). file_stored e first count ∷ fs) is.files
          ∙ ap (λ (c : ℕ). file_stored e first c ∷ t.files) (counted ∙ sym (length-stripes_among at n first ds));
      nodes = nodes ∙ is.nodes;
      stripes = λ s. ap (λ (fs : List FileSeen). is_some (file_with fs s)) stores.file.files ∙ (elim (place_in s first count) [
        | inl new ↦ subst (λ (j : ℕ). is_some (file_with (f ∷ old.files) j) ≡ is_some (stripe_of u j)) (sym new.2)
            (ap (λ (b : Bool). is_some (cond b (Some f) (file_with old.files (first + new.0)))) (on_number new.0 f new.1) ∙ sym (ap (λ (o : Option Stripe). is_some o) (put new.0 new.1)))
        | inr outside ↦ ap (λ (b : Bool). is_some (cond b (Some f) (file_with old.files s))) (off_number s f outside) ∙ is.stripes s ∙ sym (ap (λ (o : Option Stripe). is_some o) (stays s outside))
      ]);
      rows = λ s. ap (λ (ns : List Node). map (standing ns) (receipts_of new s)) (nodes ∙ is.nodes) ∙ ap (map (standing t.nodes)) (receipts s) ∙ (elim (place_in s first count) [
        | inl new ↦ subst (λ (j : ℕ). map (standing t.nodes) (receipts_in n (f ∷ old.files) j) ≡ rows_of u j) (sym new.2)
            (ap (map (standing t.nodes)) (receipts-new n f old.files new.0 new.1) ∙ chunk new.0 new.1 ∙ sym (ap (λ (o : Option Stripe). option_map_or (λ x. x.rows) o []) (put new.0 new.1)))
        | inr outside ↦ ap (map (standing t.nodes)) (receipts-old n f old.files s (off_number s f outside) ∙ before s) ∙ ap (λ (ns : List Node). map (standing ns) (receipts_of old s)) (sym is.nodes)
            ∙ is.rows s ∙ sym (ap (λ (o : Option Stripe). option_map_or (λ x. x.rows) o []) (stays s outside))
      ]);
      receipts = λ s r x h. elim (place_in s first count) [
        | inl new ↦
            let own : IsKeptAt shape told t up (first + new.0) r (get_or ds new.0 []) x = kept_new s new.0 r x new.1 new.2 h in
            record {
              of_stripe = own.of_stripe ∙ sym new.2;
              of_row = own.of_row;
              bytes = row_of_block shape told u s r (get_or ds new.0 []) x.bytes
                  (ap (data_of u) new.2 ∙ ap (λ (o : Option Stripe). option_map_or (λ y. y.blocks) o []) (put new.0 new.1)) own.bytes;
            }
        | inr outside ↦
            same_receipt shape told t u s r x (ap (λ (o : Option Stripe). option_map_or (λ y. y.blocks) o []) (stays s outside))
            (is.receipts s r x (kept_old s r x outside h))
      ];
      past = λ s r x h. elim (place_in s first count) [
        | inl new ↦
            let own : IsKeptAt shape told t up (first + new.0) r (get_or ds new.0 []) x = kept_new s new.0 r x new.1 new.2 h in
            let same : inc_of t x.node ≡ x.inc = ap (λ (o : Option Node). option_map_or (λ y. y.inc) o 0) own.alive in
            omega (arith, same)
        | inr outside ↦
            is.past s r x (kept_old s r x outside h)
      ];
      live = λ m h.
          stores.counts.live m ∙ ap (λ (k : ℕ). k + count_by (λ x. stands_live m (standing (map (λ y. y.node) old.nodes) x)) rows) (is.live m (subst (λ (k : ℕ). m < k) as_many h))
          ∙ ap (λ (ns : List Node). live_on t m + count_by (λ x. stands_live m (standing ns x)) rows) is.nodes
          ∙ ap (λ (k : ℕ). live_on t m + k) (count-stripes m n at t.nodes first ds rows (size ∙ ap (λ (c : ℕ). c * n) counted) (λ i i_low. chunk i (omega (arith, i_low, counted))))
          ∙ add_comm (live_on t m) (sum_by (λ x. count_by (stands_live m) x.rows) (stripes_among at n first ds))
          ∙ sym (sum-put (λ x. count_by (stands_live m) x.rows) at n first ds t.stripes none);
      losses = λ m h.
          losses-uncounted new.nodes m ∙ ap (λ (xs : List NodeSeen). option_map_or (λ x. x.losses) (slice_get xs m) []) stores.counts.same
          ∙ sym (losses-uncounted old.nodes m) ∙ is.losses m (subst (λ (k : ℕ). m < k) as_many h);
    })
    table (λ m. no_position m history e (ap (λ (a : Act). lost_node a e.deed) act))
