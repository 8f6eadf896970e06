-- The catalog that took the receipt of a restored block is the outline.
use Rattle.std.proofs.Common.{◌≡◌, ◌≢◌, ℕ, zero, suc, ◌+◌, ◌*◌, ◌<◌, ◌≤◌, ◌⊎◌, ◌==◌, Bool, true, false, cond, List, [], ◌∷◌, ◌++◌, length, map, set, take, drop, fold, slice_get, get_or, find, count_by, sum_by, is_some, Option, Some, None, refl, sym, ◌∙◌, ap, subst, arith, inl, inr, append-nil, append_assoc}
use Rattle.std.specs.Prelude.{not, IsSomeAnd, option_map}
use Rattle.std.specs.List.{list_any}
use Rattle.std.specs.Option.{option_map_or}
use Rattle.std.proofs.lemmas.Bool.{cases_eq, cases_lt, eqb-true, eq-eqb, false≢true, ne_eqb, or_parts}
use Rattle.std.proofs.lemmas.Bool.Decides.{nat_tests}
use Rattle.std.proofs.lemmas.List.{length-map, map-set, take-append-drop}
use Rattle.std.proofs.lemmas.List.FromFn.{length-map-range_with_len}
use Rattle.std.proofs.lemmas.List.Sums.{count_by-le-length, sum_by-cons}
use Rattle.std.proofs.lemmas.Option.{same_Some, slice_get-get_or, slice_get_past}
use Rattle.ecp_shape.specs.declared.shape.Shape.{Shape}
use Rattle.ecp_code.specs.Stripes.{stripes}
use Rattle.ecp_node.specs.Receipts.{ReceiptState}
use Rattle.ecp_entry.specs.declared.act.Act.{Act}
use Rattle.ecp_entry.specs.declared.act.Act.TheVariants.{Stored, Lost, Joined, Restored, Drop}
use Rattle.ecp_entry.specs.declared.entry.Entry.{Entry}
use Rattle.ecp_entry.specs.Entries.{deed_node, is_loss, is_number, lost_node}
use Rattle.ecp_history.specs.Acts.{HoldsIn, Joins}
use Rattle.ecp_history.specs.Fronts.{AreOfBlock}
use Rattle.ecp_history.specs.Legal.{IsLegal, MayFollow}
use Rattle.ecp_history.specs.declared.table.file.File.{File}
use Rattle.ecp_history.specs.declared.table.node.Node.{Node}
use Rattle.ecp_history.specs.declared.table.standing.Standing.{Standing}
use Rattle.ecp_history.specs.table.Placement.{nodes_in, place_among}
use Rattle.ecp_history.specs.table.Rising.{IsRising, AllAbove}
use Rattle.ecp_history.specs.table.Tables.{Stripe, PlainTable, stripe_of, data_of, live_on, stands_live, is_down, is_lost, inc_of}
use Rattle.ecp_history.specs.table.Steps.{rows_among, stripes_among, placed, with_rows, without_node, lost, joined, change_row, live_onto, given_up, with_row, with_block, stored, after_act, after, table_of, table_at}
use Rattle.ecp_history.proofs.LegalLaws.{beginning, last_follows, onwards}
use Rattle.ecp_history.proofs.tables.KeptLaws.{rising-with_rows}
use Rattle.ecp_history.proofs.tables.OrderLaws.{rising-placed}
use Rattle.ecp_history.proofs.tables.StoreLaws.{length-stripes_among}
use Rattle.ecp_catalog.specs.Standing.{FileSeen, file_with, has_number, receipts_in, standing, is_up_in}
use Rattle.ecp_catalog.specs.Catalogs.{CatalogState, NodeSeen, Restores, changed_at, counted, is_lost_in, live_of, losses_of, new_node, plain, receipts_of, with_receipt}
use Rattle.ecp_catalog.specs.Kept.{rows_stored, stripes_stored}
use Rattle.ecp_catalog.specs.Outline.{loss_positions, IsOutline, IsReceiptOf}
use Rattle.ecp_catalog.proofs.NodeLaws.{at-changed_at, at-changed_other, at-changed_same, inc_at, length-changed_at, map-changed_at}
use Rattle.ecp_catalog.proofs.OutlineLaws.{blocks, changed, find-with_rows, no_position, one_more, onto, same_receipt, there}
use Rattle.ecp_catalog.proofs.StoredLaws.{sum-put, unstored}
use Rattle.ecp_catalog.proofs.ReplaceLaws.{stripes-of}

-- ---- the node of the receipt is up

get_other : (xs : List Node) (i m : ℕ) (y : Node) → i ≢ m → slice_get (set xs i y) m ≡ slice_get xs m
get_other [] i m y apart = refl
get_other (x ∷ xs) zero zero y apart = absurd (apart refl)
get_other (x ∷ xs) zero (suc m) y apart = refl
get_other (x ∷ xs) (suc i) zero y apart = refl
get_other (x ∷ xs) (suc i) (suc m) y apart = get_other xs i m y (λ same. apart (ap (λ (n : ℕ). suc n) same))

stays_lost : (t : PlainTable) (m : ℕ) (y : Node) (node : Option ℕ) → is_number node m ≡ false → slice_get t.nodes m ≡ Some y → slice_get (option_map_or (lost t) node t).nodes m ≡ Some y
stays_lost t m y None off is = is
stays_lost t m y (Some i) off is = get_other t.nodes i m _ (λ same. false≢true (sym off ∙ eq-eqb i m same)) ∙ is

-- a node that joins was down
stays_joined : (t : PlainTable) (inc m : ℕ) (y : Node) (node : Option ℕ) → IsSomeAnd node (Joins t inc) → y.up ≡ true → slice_get t.nodes m ≡ Some y
    → slice_get (option_map_or (λ i. joined t i inc) node t).nodes m ≡ Some y
stays_joined t inc m y None joins up is = is
stays_joined t inc m y (Some i) joins up is =
    let apart : i ≢ m = λ same.
    let down : is_down t m ≡ true = subst (λ (k : ℕ). is_down t k ≡ true) same joins.down in
    false≢true (sym (ap (λ (o : Option Node). option_map_or (λ x. not x.up) o false) is ∙ ap not up) ∙ down) in
    get_other t.nodes i m _ apart ∙ is

one_stays : (shape : Shape) (told : Bool) (h : List Entry) (t p : PlainTable) (e : Entry) (act : Act) (m : ℕ) (y : Node) → HoldsIn shape told h t p e act
    → is_number (lost_node act e.deed) m ≡ false → y.up ≡ true → slice_get t.nodes m ≡ Some y → slice_get (after_act shape t e act).nodes m ≡ Some y
one_stays shape told h t p e (Lost count) m y holds off up is = stays_lost t m y (deed_node e.deed) off is
one_stays shape told h t p e (Joined inc) m y holds off up is = stays_joined t inc m y (deed_node e.deed) holds up is
one_stays shape told h t p e _ m y holds off up is = is

-- a node that is up and is not lost stays up in its incarnation
stays_up : (shape : Shape) (told : Bool) (before more : List Entry) (m : ℕ) (y : Node) → IsLegal shape told (before ++ more) → list_any (is_loss m) more ≡ false → y.up ≡ true
    → slice_get (table_of shape before).nodes m ≡ Some y → slice_get (table_of shape (before ++ more)).nodes m ≡ Some y
stays_up shape told before [] m y legal none up is = subst (λ (h : List Entry). slice_get (table_of shape h).nodes m ≡ Some y) (sym (append-nil before)) is
stays_up shape told before (e ∷ more) m y legal none up is =
    let split : (before ++ e ∷ []) ++ more ≡ before ++ e ∷ more = append_assoc before (e ∷ []) more in
    let whole : IsLegal shape told ((before ++ e ∷ []) ++ more) = subst (IsLegal shape told) (sym split) legal in
    let next : MayFollow shape told before e = last_follows shape told before e (beginning shape told (before ++ e ∷ []) more whole) in
    let off = or_parts (is_loss m e) (list_any (is_loss m) more) none in
    let one : slice_get (table_of shape (before ++ e ∷ [])).nodes m ≡ Some y =
    ap (λ (t : PlainTable). slice_get t.nodes m) (one_more shape before e)
    ∙ one_stays shape told before (table_of shape before) _ e e.line.act m y next.holds off.0 up is in
    subst (λ (h : List Entry). slice_get (table_of shape h).nodes m ≡ Some y) split (stays_up shape told (before ++ e ∷ []) more m y whole off.1 up one)

-- a node that is up in an incarnation
up_as : (nodes : List Node) (m inc : ℕ) → option_map_or (λ x. x.up) (slice_get nodes m) false ≡ true → inc ≡ inc_at nodes m → slice_get nodes m ≡ Some (record { up = true; inc = inc })
up_as nodes m inc up is = one (slice_get nodes m) up is where
  one : (o : Option Node) → option_map_or (λ x. x.up) o false ≡ true → inc ≡ option_map_or (λ x. x.inc) o 0 → o ≡ Some (record { up = true; inc = inc })
  one None up is = absurd (false≢true up)
  one (Some x) up is =
      ap (λ (b : Bool). let y : Node = record { up = b; inc = x.inc } in Some y) up ∙ ap (λ (i : ℕ). let y : Node = record { up = true; inc = i } in Some y) (sym is)

-- and a receipt of it
pub up_live : (nodes : List Node) (x : ReceiptState) → option_map_or (λ y. y.up) (slice_get nodes x.node) false ≡ true → x.inc ≡ inc_at nodes x.node → (standing nodes x).live ≡ true
up_live nodes x up is =
    let own : x.inc == x.inc ≡ true = eq-eqb x.inc x.inc refl in
    ap (λ (o : Option Node). option_map_or (is_up_in x.inc) o false) (up_as nodes x.node x.inc up is) ∙ own

-- what is said where a block is restored
abbrev Says : Shape → Bool → List Entry → Entry → ℕ → ℕ → ℕ → ℕ → Type 0
Says shape told history e s r m inc = HoldsIn shape told history (table_of shape history) (table_at shape history e.line.point) e (Restored s r m inc)

said : (shape : Shape) (told : Bool) (history : List Entry) (e : Entry) (s r m inc : ℕ) → MayFollow shape told history e → e.line.act ≡ Restored s r m inc → Says shape told history e s r m inc
said shape told history e s r m inc next act = subst (HoldsIn shape told history (table_of shape history) (table_at shape history e.line.point) e) act next.holds

up_now : (shape : Shape) (told : Bool) (history : List Entry) (e : Entry) (s r m inc : ℕ) → IsLegal shape told history → MayFollow shape told history e → e.line.act ≡ Restored s r m inc
    → slice_get (table_of shape history).nodes m ≡ Some (record { up = true; inc = inc })
up_now shape told history e s r m inc legal next act =
    let says : Says shape told history e s r m inc = said shape told history e s r m inc next act in
    let p : ℕ = e.line.point in
    let whole : take p history ++ drop p history ≡ history = take-append-drop p history in
    subst (λ (h : List Entry). slice_get (table_of shape h).nodes m ≡ Some (record { up = true; inc = inc })) whole
    (stays_up shape told (take p history) (drop p history) m (record { up = true; inc = inc }) (subst (IsLegal shape told) (sym whole) legal) says.steady refl
    (up_as (table_at shape history p).nodes m inc says.up says.inc_is))

pub restores_up : (shape : Shape) (told : Bool) (c : CatalogState) (history : List Entry) (e : Entry) (x : ReceiptState) → IsLegal shape told history → IsOutline shape told c history
    → MayFollow shape told history e → e.line.act ≡ Restored x.stripe x.row x.node x.inc → (standing (plain c).nodes x).live ≡ true
restores_up shape told c history e x legal is next act =
    let own : x.inc == x.inc ≡ true = eq-eqb x.inc x.inc refl in
    ap (λ (ns : List Node). option_map_or (is_up_in x.inc) (slice_get ns x.node) false) is.nodes
    ∙ ap (λ (o : Option Node). option_map_or (is_up_in x.inc) o false) (up_now shape told history e x.stripe x.row x.node x.inc legal next act) ∙ own

pub restores_lost : (shape : Shape) (told : Bool) (c : CatalogState) (history : List Entry) (e : Entry) (s r m inc : ℕ) → IsOutline shape told c history → MayFollow shape told history e
    → e.line.act ≡ Restored s r m inc → is_lost_in c s r ≡ true
restores_lost shape told c history e s r m inc is next act =
    ap (λ (xs : List Standing). option_map_or (λ x. not x.live) (slice_get xs r) false) (is.rows s) ∙ (said shape told history e s r m inc next act).lost

-- ---- tables rise, and have the rows of their files

rising-stored : (nodes : List ℕ) (n s : ℕ) (ds : List (List (List ℕ))) (xs : List Stripe) → IsRising xs → IsRising (fold placed xs (stripes_among nodes n s ds))
rising-stored nodes n s [] xs rising = rising
rising-stored nodes n s (d ∷ ds) xs rising =
    rising-stored nodes n (s + 1) ds (placed xs (record { number = s; blocks = d; rows = rows_among nodes n s })) (rising-placed xs (record { number = s; blocks = d; rows = rows_among nodes n s }) rising)

rising-lost : (t : PlainTable) (node : Option ℕ) → IsRising t.stripes → IsRising (option_map_or (lost t) node t).stripes
rising-lost t None rising = rising
rising-lost t (Some m) rising = rising-with_rows (λ x. map (without_node m) x.rows) t.stripes rising

rising-joined : (t : PlainTable) (inc : ℕ) (node : Option ℕ) → IsRising t.stripes → IsRising (option_map_or (λ m. joined t m inc) node t).stripes
rising-joined t inc None rising = rising
rising-joined t inc (Some m) rising = rising

rising-after : (shape : Shape) (t : PlainTable) (e : Entry) (act : Act) → IsRising t.stripes → IsRising (after_act shape t e act).stripes
rising-after shape t e (Stored first count up) rising = rising-stored (nodes_in up) shape.n first (stripes shape.k shape.block e.bytes) t.stripes rising
rising-after shape t e (Lost count) rising = rising-lost t (deed_node e.deed) rising
rising-after shape t e (Joined inc) rising = rising-joined t inc (deed_node e.deed) rising
rising-after shape t e (Restored s r m inc) rising = rising-with_rows (λ x. cond (x.number == s) (change_row (live_onto m) r x.rows) x.rows) t.stripes rising
rising-after shape t e (Drop s r) rising = rising-with_rows (λ x. cond (x.number == s) (change_row given_up r x.rows) x.rows) t.stripes rising
rising-after shape t e _ rising = rising

rising-fold : (shape : Shape) (t : PlainTable) (history : List Entry) → IsRising t.stripes → IsRising (fold (after shape) t history).stripes
rising-fold shape t [] rising = rising
rising-fold shape t (e ∷ history) rising = rising-fold shape (after shape t e) history (rising-after shape t e e.line.act rising)

pub rising_table : (shape : Shape) (history : List Entry) → IsRising (table_of shape history).stripes
rising_table shape history = rising-fold shape _ history tt

-- how many rows some stripes have
abbrev row_count : List Stripe → ℕ
row_count xs = sum_by (λ x. length x.rows) xs

rows-among : (nodes : List ℕ) (n a : ℕ) (ds : List (List (List ℕ))) → row_count (stripes_among nodes n a ds) ≡ length ds * n
rows-among nodes n a [] = zero_rows where
  zero_rows : 0 ≡ 0 * n
  zero_rows = omega arith
rows-among nodes n a (d ∷ ds) =
    let x : Stripe = record { number = a; blocks = d; rows = rows_among nodes n a } in
    let first : length (rows_among nodes n a) ≡ n = length-map-range_with_len (λ (r : ℕ). let y : Standing = record { node = place_among nodes a r; live = true } in y) 0 n in
    let split : length (d ∷ ds) * n ≡ length ds * n + n = omega arith in
    omega (arith, sum_by-cons (λ (y : Stripe). length y.rows) x (stripes_among nodes n (a + 1) ds), first, rows-among nodes n (a + 1) ds, split)

rows-with_rows : (change : Stripe → List Standing) → ((x : Stripe) → length (change x) ≡ length x.rows) → (xs : List Stripe) → row_count (with_rows change xs) ≡ row_count xs
rows-with_rows change same [] = refl
rows-with_rows change same (x ∷ xs) =
    let y : Stripe = record { number = x.number; blocks = x.blocks; rows = change x } in
    omega (arith, sum_by-cons (λ (z : Stripe). length z.rows) y (with_rows change xs), sum_by-cons (λ (z : Stripe). length z.rows) x xs, same x, rows-with_rows change same xs)

length-change_row : (change : Standing → Standing) (r : ℕ) (xs : List Standing) → length (change_row change r xs) ≡ length xs
length-change_row change r [] = refl
length-change_row change zero (x ∷ xs) = refl
length-change_row change (suc r) (x ∷ xs) = ap (λ (n : ℕ). suc n) (length-change_row change r xs)

length-block : (s r : ℕ) (change : Standing → Standing) (x : Stripe) → length (cond (x.number == s) (change_row change r x.rows) x.rows) ≡ length x.rows
length-block s r change x = one (x.number == s) where
  one : (b : Bool) → length (cond b (change_row change r x.rows) x.rows) ≡ length x.rows
  one true = length-change_row change r x.rows
  one false = refl

-- a table has n rows for each stripe of its files
abbrev HasRows : ℕ → PlainTable → Type 0
HasRows n t = row_count t.stripes ≡ sum_by (λ f. f.stripes) t.files * n

rows-lost-node : (n : ℕ) (t : PlainTable) (node : Option ℕ) → HasRows n t → HasRows n (option_map_or (lost t) node t)
rows-lost-node n t None has = has
rows-lost-node n t (Some m) has = rows-with_rows (λ x. map (without_node m) x.rows) (λ x. length-map x.rows (without_node m)) t.stripes ∙ has

rows-joined : (n : ℕ) (t : PlainTable) (inc : ℕ) (node : Option ℕ) → HasRows n t → HasRows n (option_map_or (λ m. joined t m inc) node t)
rows-joined n t inc None has = has
rows-joined n t inc (Some m) has = has

rows-stored : (shape : Shape) (told : Bool) (h : List Entry) (p : PlainTable) (e : Entry) (first count up : ℕ) → IsLegal shape told h → HoldsIn shape told h (table_of shape h) p e (Stored first count up)
    → HasRows shape.n (table_of shape h) → HasRows shape.n (stored shape (table_of shape h) e.name e.bytes first up)
rows-stored shape told h p e first count up legal says has =
    let t : PlainTable = table_of shape h in
    let ds : List (List (List ℕ)) = stripes shape.k shape.block e.bytes in
    let added : List Stripe = stripes_among (nodes_in up) shape.n first ds in
    let f : File = record { name = e.name; len = length e.bytes; first = first; stripes = length added } in
    let old : ℕ = sum_by (λ g. g.stripes) t.files in
    let put : row_count (fold placed t.stripes added) ≡ row_count added + row_count t.stripes =
    sum-put (λ x. length x.rows) (nodes_in up) shape.n first ds t.stripes
    (λ s from to. unstored shape told h first count s legal says.fresh from (omega (arith, to, says.counted))) in
    let whole : sum_by (λ g. g.stripes) (f ∷ t.files) ≡ length added + old = sum_by-cons (λ (g : File). g.stripes) f t.files in
    put ∙ ap (λ (k : ℕ). k + row_count t.stripes) (rows-among (nodes_in up) shape.n first ds ∙ ap (λ (k : ℕ). k * shape.n) (sym (length-stripes_among (nodes_in up) shape.n first ds)))
    ∙ ap (λ (k : ℕ). length added * shape.n + k) has ∙ sym (spread_out (length added) old shape.n) ∙ ap (λ (k : ℕ). k * shape.n) (sym whole)
  where
    spread_out : (a b n : ℕ) → (a + b) * n ≡ a * n + b * n
    spread_out a b n = omega arith

rows-after : (shape : Shape) (told : Bool) (h : List Entry) (p : PlainTable) (e : Entry) (act : Act) → IsLegal shape told h → HoldsIn shape told h (table_of shape h) p e act
    → HasRows shape.n (table_of shape h) → HasRows shape.n (after_act shape (table_of shape h) e act)
rows-after shape told h p e (Stored first count up) legal holds has = rows-stored shape told h p e first count up legal holds has
rows-after shape told h p e (Lost count) legal holds has = rows-lost-node shape.n (table_of shape h) (deed_node e.deed) has
rows-after shape told h p e (Joined inc) legal holds has = rows-joined shape.n (table_of shape h) inc (deed_node e.deed) has
rows-after shape told h p e (Restored s r m inc) legal holds has =
    rows-with_rows (λ x. cond (x.number == s) (change_row (live_onto m) r x.rows) x.rows) (length-block s r (live_onto m)) (table_of shape h).stripes ∙ has
rows-after shape told h p e (Drop s r) legal holds has =
    rows-with_rows (λ x. cond (x.number == s) (change_row given_up r x.rows) x.rows) (length-block s r given_up) (table_of shape h).stripes ∙ has
rows-after shape told h p e _ legal holds has = has

rows_of_files : (shape : Shape) (told : Bool) (history : List Entry) → IsLegal shape told history → HasRows shape.n (table_of shape history)
rows_of_files shape told history legal =
    onwards shape told (λ h. HasRows shape.n (table_of shape h)) (λ h e was next has.
    subst (HasRows shape.n) (sym (one_more shape h e)) (rows-after shape told h (table_at shape h e.line.point) e e.line.act was next.holds has))
    [] history legal (let none : 0 ≡ 0 * shape.n = omega arith in none)

-- ---- live blocks, where one is lost

-- whether a row of these is lost
abbrev lost_at_row : ℕ → List Standing → Bool
lost_at_row r xs = option_map_or (λ x. not x.live) (slice_get xs r) false

-- 1 where it is so
abbrev bit : Bool → ℕ
bit b = cond b 1 0

-- what is lost is not live
not_live : (b : Bool) → not b ≡ true → b ≡ false
not_live true is = sym is
not_live false is = refl

live-fewer : (m r : ℕ) (xs : List Standing) → lost_at_row r xs ≡ true → count_by (stands_live m) xs < length xs
live-fewer m r [] is = absurd (false≢true is)
live-fewer m zero (x ∷ xs) is =
    let off : x.live ≡ false = not_live x.live is in
    let none : bit (stands_live m x) ≡ 0 = rw off refl in
    omega (arith, sum_by-cons (λ (y : Standing). cond (stands_live m y) 1 0) x xs, none, count_by-le-length (stands_live m) xs)
live-fewer m (suc r) (x ∷ xs) is =
    omega (arith, sum_by-cons (λ (y : Standing). cond (stands_live m y) 1 0) x xs, bit_few (stands_live m x), live-fewer m r xs is)
  where
    bit_few : (b : Bool) → cond b 1 0 ≤ 1
    bit_few true = omega arith
    bit_few false = omega arith

live-most : (m : ℕ) (xs : List Stripe) → sum_by (λ x. count_by (stands_live m) x.rows) xs ≤ row_count xs
live-most m [] = omega arith
live-most m (x ∷ xs) =
    omega (arith, sum_by-cons (λ (y : Stripe). count_by (stands_live m) y.rows) x xs, sum_by-cons (λ (y : Stripe). length y.rows) x xs, count_by-le-length (stands_live m) x.rows, live-most m xs)

live-below : (m s r : ℕ) (xs : List Stripe) → lost_at_row r (option_map_or (λ x. x.rows) (find (λ x. x.number == s) xs) []) ≡ true → sum_by (λ x. count_by (stands_live m) x.rows) xs < row_count xs
live-below m s r [] is = absurd (false≢true is)
live-below m s r (x ∷ xs) is = one (x.number == s) is (live-below m s r xs) where
  one : (b : Bool) → lost_at_row r (option_map_or (λ y. y.rows) (cond b (Some x) (find (λ y. y.number == s) xs)) []) ≡ true
      → (lost_at_row r (option_map_or (λ y. y.rows) (find (λ y. y.number == s) xs) []) ≡ true → sum_by (λ y. count_by (stands_live m) y.rows) xs < row_count xs)
      → sum_by (λ y. count_by (stands_live m) y.rows) (x ∷ xs) < row_count (x ∷ xs)
  one true is more =
      omega (arith, sum_by-cons (λ (y : Stripe). count_by (stands_live m) y.rows) x xs, sum_by-cons (λ (y : Stripe). length y.rows) x xs, live-fewer m r x.rows is, live-most m xs)
  one false is more =
      omega (arith, sum_by-cons (λ (y : Stripe). count_by (stands_live m) y.rows) x xs, sum_by-cons (λ (y : Stripe). length y.rows) x xs, count_by-le-length (stands_live m) x.rows, more is)

pub live_few : (shape : Shape) (told : Bool) (c : CatalogState) (history : List Entry) (s r m : ℕ) → IsLegal shape told history → IsOutline shape told c history → is_lost_in c s r ≡ true
    → live_of c.nodes m < rows_stored c.shape c.files
live_few shape told c history s r m legal is gone =
    let t : PlainTable = table_of shape history in
    let below : live_on t m < row_count t.stripes = live-below m s r t.stripes (ap (lost_at_row r) (sym (is.rows s)) ∙ gone) in
    let all : rows_stored c.shape c.files ≡ row_count t.stripes =
    ap (λ (z : Shape). stripes_stored c.files * z.n) is.sizes
    ∙ ap (λ (k : ℕ). k * shape.n) (stripes-of c.files ∙ ap (sum_by (λ (f : File). f.stripes)) is.files) ∙ sym (rows_of_files shape told history legal) in
    elim (cases_lt m (length c.nodes)) [
      | inl within ↦ omega (arith, below, all, is.live m within)
      | inr past ↦
          let none : live_of c.nodes m ≡ 0 = ap (λ (o : Option NodeSeen). option_map_or (λ x. x.live) o 0) (slice_get_past c.nodes m past) in
          omega (arith, below, all, none)
    ]

-- ---- a row that comes to be live

count-restored : (m node r : ℕ) (xs : List Standing) → lost_at_row r xs ≡ true → count_by (stands_live m) (change_row (live_onto node) r xs) ≡ count_by (stands_live m) xs + cond (node == m) 1 0
count-restored m node r [] is = absurd (false≢true is)
count-restored m node zero (x ∷ xs) is =
    let off : x.live ≡ false = not_live x.live is in
    let none : bit (stands_live m x) ≡ 0 = rw off refl in
    omega (arith, sum_by-cons (λ (y : Standing). cond (stands_live m y) 1 0) x xs, none, sum_by-cons (λ (y : Standing). cond (stands_live m y) 1 0) (live_onto node x) xs)
count-restored m node (suc r) (x ∷ xs) is =
    omega (arith, sum_by-cons (λ (y : Standing). cond (stands_live m y) 1 0) x xs, sum_by-cons (λ (y : Standing). cond (stands_live m y) 1 0) x (change_row (live_onto node) r xs), count-restored m node r xs is)

-- no stripe behind has the number
unchanged_above : (f : Stripe → ℕ) (s r : ℕ) (change : Standing → Standing) (xs : List Stripe) → AllAbove s xs → sum_by f (with_row s r change xs) ≡ sum_by f xs
unchanged_above f s r change [] above = refl
unchanged_above f s r change (x ∷ xs) above =
    let more : s < x.number = above.0 in
    let other : x.number == s ≡ false = grind (arith, nat_tests) in
    let same : f (record { number = x.number; blocks = x.blocks; rows = cond (x.number == s) (change_row change r x.rows) x.rows }) ≡ f x = rw other refl in
    omega (
      arith,
      sum_by-cons f (record { number = x.number; blocks = x.blocks; rows = cond (x.number == s) (change_row change r x.rows) x.rows }) (with_row s r change xs),
      sum_by-cons f x xs,
      same,
      unchanged_above f s r change xs above.1,
    )

live_on-restored : (m node s r : ℕ) (xs : List Stripe) → IsRising xs → lost_at_row r (option_map_or (λ x. x.rows) (find (λ x. x.number == s) xs) []) ≡ true
    → sum_by (λ x. count_by (stands_live m) x.rows) (with_row s r (live_onto node) xs) ≡ sum_by (λ x. count_by (stands_live m) x.rows) xs + cond (node == m) 1 0
live_on-restored m node s r [] rising is = absurd (false≢true is)
live_on-restored m node s r (x ∷ xs) rising is = one (x.number == s) refl is (live_on-restored m node s r xs rising.1) where
  one : (b : Bool) → x.number == s ≡ b → lost_at_row r (option_map_or (λ y. y.rows) (cond b (Some x) (find (λ y. y.number == s) xs)) []) ≡ true
      → (lost_at_row r (option_map_or (λ y. y.rows) (find (λ y. y.number == s) xs) []) ≡ true
      → sum_by (λ y. count_by (stands_live m) y.rows) (with_row s r (live_onto node) xs) ≡ sum_by (λ y. count_by (stands_live m) y.rows) xs + cond (node == m) 1 0)
      → sum_by (λ y. count_by (stands_live m) y.rows) (record { number = x.number; blocks = x.blocks; rows = cond b (change_row (live_onto node) r x.rows) x.rows } ∷ with_row s r (live_onto node) xs)
      ≡ sum_by (λ y. count_by (stands_live m) y.rows) (x ∷ xs) + cond (node == m) 1 0
  one true own is more =
      let above : AllAbove s xs = subst (λ (n : ℕ). AllAbove n xs) (eqb-true x.number s own) rising.0 in
      omega (
        arith,
        sum_by-cons (λ (y : Stripe). count_by (stands_live m) y.rows) (record { number = x.number; blocks = x.blocks; rows = change_row (live_onto node) r x.rows }) (with_row s r (live_onto node) xs),
        sum_by-cons (λ (y : Stripe). count_by (stands_live m) y.rows) x xs,
        count-restored m node r x.rows is,
        unchanged_above (λ y. count_by (stands_live m) y.rows) s r (live_onto node) xs above,
      )
  one false own is more =
      omega (
        arith,
        sum_by-cons (λ (y : Stripe). count_by (stands_live m) y.rows) x (with_row s r (live_onto node) xs),
        sum_by-cons (λ (y : Stripe). count_by (stands_live m) y.rows) x xs,
        more is,
      )

-- ---- where the rows stand

live-set : (r node : ℕ) (xs : List Standing) → change_row (live_onto node) r xs ≡ set xs r (record { node = node; live = true })
live-set r node [] = refl
live-set zero node (x ∷ xs) = refl
live-set (suc r) node (x ∷ xs) = ap (λ (ys : List Standing). x ∷ ys) (live-set r node xs)

-- the stripe that is found has its number
number_found : (s : ℕ) (xs : List Stripe) (x : Stripe) → find (λ y. y.number == s) xs ≡ Some x → x.number ≡ s
number_found s [] x is = cc
number_found s (y ∷ ys) x is = one (y.number == s) refl is (number_found s ys x) where
  one : (b : Bool) → y.number == s ≡ b → cond b (Some y) (find (λ z. z.number == s) ys) ≡ Some x → (find (λ z. z.number == s) ys ≡ Some x → x.number ≡ s) → x.number ≡ s
  one true passes is more = ap (λ (z : Stripe). z.number) (sym (same_Some y x is)) ∙ eqb-true y.number s passes
  one false fails is more = more is

either_way : (b : Bool) (xs : List Standing) → xs ≡ cond b xs xs
either_way true xs = refl
either_way false xs = refl

-- the rows of a stripe of the table, where one row is live on a node
rows-restored : (i s r node : ℕ) (o : Option Stripe) → ((x : Stripe) → o ≡ Some x → x.number ≡ i)
    → option_map_or (λ (x : Stripe). x.rows) (option_map (changed (λ x. cond (x.number == s) (change_row (live_onto node) r x.rows) x.rows)) o) []
    ≡ cond (i == s) (set (option_map_or (λ x. x.rows) o []) r (record { node = node; live = true })) (option_map_or (λ x. x.rows) o [])
rows-restored i s r node None numbered = either_way (i == s) []
rows-restored i s r node (Some x) numbered =
    ap (λ (k : ℕ). cond (k == s) (change_row (live_onto node) r x.rows) x.rows) (numbered x refl)
    ∙ ap (λ (ys : List Standing). cond (i == s) ys x.rows) (live-set r node x.rows)

-- the rows of a stripe by its receipts
rows-received : (nodes : List Node) (x : ReceiptState) (s : ℕ) (xs : List ReceiptState) → (standing nodes x).live ≡ true
    → map (standing nodes) (with_receipt x s xs) ≡ cond (s == x.stripe) (set (map (standing nodes) xs) x.row (record { node = x.node; live = true })) (map (standing nodes) xs)
rows-received nodes x s xs live = one (s == x.stripe) where
  one : (b : Bool) → map (standing nodes) (cond b (set xs x.row x) xs) ≡ cond b (set (map (standing nodes) xs) x.row (record { node = x.node; live = true })) (map (standing nodes) xs)
  one true = map-set (standing nodes) xs x.row x ∙ ap (λ (b : Bool). set (map (standing nodes) xs) x.row (record { node = x.node; live = b })) live
  one false = refl

-- a receipt of the stripe is the new one, or one that was there
get-set : (xs : List ReceiptState) (k r : ℕ) (x y : ReceiptState) → slice_get (set xs k x) r ≡ Some y → ((r ≡ k) × (y ≡ x)) ⊎ (slice_get xs r ≡ Some y)
get-set [] k r x y is = cc
get-set (z ∷ xs) zero zero x y is = inl (refl, sym (same_Some x y is))
get-set (z ∷ xs) zero (suc r) x y is = inr is
get-set (z ∷ xs) (suc k) zero x y is = inr is
get-set (z ∷ xs) (suc k) (suc r) x y is = elim (get-set xs k r x y is) [ inl new ↦ inl (ap (λ (n : ℕ). suc n) new.0, new.1) | inr old ↦ inr old ]

get-received : (x : ReceiptState) (s r : ℕ) (xs : List ReceiptState) (y : ReceiptState) → slice_get (with_receipt x s xs) r ≡ Some y
    → ((s ≡ x.stripe) × (r ≡ x.row) × (y ≡ x)) ⊎ (slice_get xs r ≡ Some y)
get-received x s r xs y is = one (s == x.stripe) refl is where
  one : (b : Bool) → s == x.stripe ≡ b → slice_get (cond b (set xs x.row x) xs) r ≡ Some y → ((s ≡ x.stripe) × (r ≡ x.row) × (y ≡ x)) ⊎ (slice_get xs r ≡ Some y)
  one true own is = elim (get-set xs x.row r x y is) [ inl new ↦ inl (eqb-true s x.stripe own, new.0, new.1) | inr old ↦ inr old ]
  one false other is = inr is

-- whether a stripe is there is said by the files alone
there-of : (s : ℕ) (files : List FileSeen) → is_some (file_with files s) ≡ is_some (find (λ f. has_number s (record { file = f; rows = [] })) (map (λ f. f.file) files))
there-of s [] = refl
there-of s (f ∷ files) = one (has_number s f) (there-of s files) where
  one : (b : Bool) → is_some (file_with files s) ≡ is_some (find (λ g. has_number s (record { file = g; rows = [] })) (map (λ g. g.file) files))
      → is_some (cond b (Some f) (file_with files s)) ≡ is_some (cond b (Some f.file) (find (λ g. has_number s (record { file = g; rows = [] })) (map (λ g. g.file) files)))
  one true more = refl
  one false more = more

-- one block more on a node
live-counted : (nodes : List NodeSeen) (k m : ℕ) → m < length nodes → live_of (changed_at counted k nodes) m ≡ live_of nodes m + cond (k == m) 1 0
live-counted nodes k m within = elim (cases_eq m k) [
  | inl same ↦
      let y : NodeSeen = get_or nodes m new_node in
      let at : slice_get nodes m ≡ Some y = slice_get-get_or nodes m new_node within in
      let own : k == m ≡ true = eq-eqb k m (sym same) in
      let here : live_of (changed_at counted k nodes) m ≡ y.live + 1 =
      subst (λ (j : ℕ). live_of (changed_at counted j nodes) m ≡ y.live + 1) same (at-changed_same (λ x. x.live) 0 counted m nodes within y at) in
      let was : live_of nodes m ≡ y.live = ap (λ (o : Option NodeSeen). option_map_or (λ x. x.live) o 0) at in
      rw own (omega (arith, here, was))
  | inr other ↦
      let off : k == m ≡ false = ne_eqb k m (λ same. other (sym same)) in
      let here : live_of (changed_at counted k nodes) m ≡ live_of nodes m = at-changed_other (λ x. x.live) 0 counted k m nodes other in
      rw off (omega (arith, here))
]

-- ---- the outline

pub restored_outline : (shape : Shape) (told : Bool) (old new : CatalogState) (history : List Entry) (e : Entry) (x : ReceiptState) → IsLegal shape told history → IsOutline shape told old history
    → MayFollow shape told history e → e.line.act ≡ Restored x.stripe x.row x.node x.inc → AreOfBlock shape told (table_of shape history) x.stripe x.row x.bytes → Restores old new x
    → IsOutline shape told new (history ++ e ∷ [])
restored_outline shape told old new history e x legal is next act bytes takes =
    let t : PlainTable = table_of shape history in
    let s : ℕ = x.stripe in
    let r : ℕ = x.row in
    let change : Stripe → List Standing = λ y. cond (y.number == s) (change_row (live_onto x.node) r y.rows) y.rows in
    let u : PlainTable = with_block t s r (live_onto x.node) in
    let table : table_of shape (history ++ e ∷ []) ≡ u = one_more shape history e ∙ ap (after_act shape t e) act in
    let found : (i : ℕ) → find (λ y. y.number == i) (with_rows change t.stripes) ≡ option_map (changed change) (stripe_of t i) = λ i. find-with_rows change i t.stripes in
    let same_nodes : map (λ y. y.node) new.nodes ≡ map (λ y. y.node) old.nodes = ap (map (λ (y : NodeSeen). y.node)) takes.nodes ∙ map-changed_at counted (λ y. refl) x.node old.nodes in
    let as_many : length new.nodes ≡ length old.nodes = ap length takes.nodes ∙ length-changed_at counted x.node old.nodes in
    let receipts : (i : ℕ) → receipts_of new i ≡ with_receipt x i (receipts_of old i) =
    λ i. ap (λ (z : Shape). receipts_in z.n new.files i) takes.files.shape ∙ takes.files.receipts i in
    let same_data : (i : ℕ) → data_of u i ≡ data_of t i = λ i. ap (λ (o : Option Stripe). option_map_or (λ y. y.blocks) o []) (found i) ∙ blocks change (stripe_of t i) in
    let live : (standing (plain old).nodes x).live ≡ true = restores_up shape told old history e x legal is next act in
    let gone : is_lost t s r ≡ true = (said shape told history e s r x.node x.inc next act).lost in
    onto shape told new u (table_of shape (history ++ e ∷ [])) (λ m. loss_positions m history) (λ m. loss_positions m (history ++ e ∷ []))
    (record {
      sizes = takes.files.shape ∙ is.sizes;
      files = takes.files.files ∙ is.files;
      nodes = same_nodes ∙ is.nodes;
      stripes = λ i.
          there-of i new.files ∙ ap (λ (fs : List File). is_some (find (λ f. has_number i (record { file = f; rows = [] })) fs)) takes.files.files ∙ sym (there-of i old.files)
          ∙ is.stripes i ∙ sym (ap (λ (o : Option Stripe). is_some o) (found i) ∙ there change (stripe_of t i));
      rows = λ i.
          ap (λ (ns : List Node). map (standing ns) (receipts_of new i)) same_nodes ∙ ap (map (standing (plain old).nodes)) (receipts i)
          ∙ rows-received (plain old).nodes x i (receipts_of old i) live
          ∙ ap (λ (ys : List Standing). cond (i == s) (set ys r (record { node = x.node; live = true })) ys) (is.rows i)
          ∙ sym (ap (λ (o : Option Stripe). option_map_or (λ y. y.rows) o []) (found i) ∙ rows-restored i s r x.node (stripe_of t i) (number_found i t.stripes));
      receipts = λ i k y h. elim (get-received x i k (receipts_of old i) y (ap (λ (ys : List ReceiptState). slice_get ys k) (sym (receipts i)) ∙ h)) [
        | inl own ↦
            let of_block : IsReceiptOf shape told t s r x = record { of_stripe = refl; of_row = refl; bytes = bytes } in
            same_receipt shape told t u i k y (same_data i)
            (subst (λ (j : ℕ). IsReceiptOf shape told t j k y) (sym own.0)
            (subst (λ (j : ℕ). IsReceiptOf shape told t s j y) (sym own.1)
            (subst (IsReceiptOf shape told t s r) (sym own.2) of_block)))
        | inr was ↦ same_receipt shape told t u i k y (same_data i) (is.receipts i k y was)
      ];
      past = λ i k y h. elim (get-received x i k (receipts_of old i) y (ap (λ (ys : List ReceiptState). slice_get ys k) (sym (receipts i)) ∙ h)) [
        | inl own ↦
            let here : inc_of t x.node ≡ x.inc = ap (λ (o : Option Node). option_map_or (λ z. z.inc) o 0) (up_now shape told history e s r x.node x.inc legal next act) in
            subst (λ (z : ReceiptState). z.inc ≤ inc_of t z.node) (sym own.2) (omega (arith, here))
        | inr was ↦ is.past i k y was
      ];
      live = λ m h.
          let within : m < length old.nodes = omega (arith, h, as_many) in
          ap (λ (ns : List NodeSeen). live_of ns m) takes.nodes ∙ live-counted old.nodes x.node m within ∙ ap (λ (n : ℕ). n + cond (x.node == m) 1 0) (is.live m within)
          ∙ sym (live_on-restored m x.node s r t.stripes (rising_table shape history) gone);
      losses = λ m h.
          ap (λ (ns : List NodeSeen). losses_of ns m) takes.nodes ∙ at-changed_at (λ y. y.losses) [] counted (λ y. refl) x.node m old.nodes
          ∙ is.losses m (subst (λ (n : ℕ). m < n) as_many h);
    })
    table (λ m. no_position m history e (ap (λ (a : Act). lost_node a e.deed) act))
