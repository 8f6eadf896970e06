-- Past the last node no block is live, and no entry tells of a failure.
use Rattle.std.proofs.Common.{◌≡◌, ℕ, zero, suc, ◌+◌, ◌%◌, ◌<◌, ◌≤◌, ◌==◌, Bool, true, false, cond, nat_lt, List, [], ◌∷◌, ◌++◌, length, take, map, get_or, All, IsTrue, Option, Some, refl, sym, ◌∙◌, ap, subst, inl, inr, arith}
use Rattle.std.specs.Prelude.{slice_get, fold, find}
use Rattle.std.specs.Int.{bit_at}
use Rattle.std.specs.List.{range_with_len}
use Rattle.std.specs.Option.{option_map_or}
use Rattle.std.proofs.lemmas.Bool.{false≢true, cases_lt, cond_both, ne_eqb}
use Rattle.std.proofs.lemmas.List.{get_or_past}
use Rattle.std.proofs.lemmas.List.Elements.{All-filter, All-weaker}
use Rattle.std.proofs.lemmas.List.FromFn.{get_or-range_with_len, length-range_with_len}
use Rattle.std.proofs.lemmas.List.Sums.{count_by-le-length, fold-append}
use Rattle.std.proofs.lemmas.Option.{slice_get_past}
use Rattle.ecp_code.specs.Stripes as code
use Rattle.ecp_entry.specs.declared.act.Act.{Act}
use Rattle.ecp_entry.specs.declared.act.Act.TheVariants.{Stored, Restored, StoreFailed, MendFailed, Drop}
use Rattle.ecp_entry.specs.declared.entry.Entry.{Entry}
use Rattle.ecp_shape.specs.declared.limits.TheConstants.{MAX_NODES, MAX_SESSIONS}
use Rattle.ecp_shape.specs.declared.shape.Shape.{Shape}
use Rattle.ecp_catalog.proofs.ApartLaws.{nodes-count}
use Rattle.ecp_history.specs.declared.table.node.Node.{Node}
use Rattle.ecp_history.specs.declared.table.standing.Standing.{Standing}
use Rattle.ecp_history.specs.Acts.{HoldsIn}
use Rattle.ecp_history.specs.Counted.{faults_spent, spends}
use Rattle.ecp_history.specs.Legal.{IsLegal, MayFollow}
use Rattle.ecp_history.specs.table.Placement.{nodes_in, place_among}
use Rattle.ecp_history.specs.table.Steps.{placed, rows_among, stripes_among, after, after_act, table_at, table_of}
use Rattle.ecp_history.specs.table.Tables.{PlainTable, Stripe, start, is_live_on, is_up, stands_live, up_count, up_mask}
use Rattle.ecp_history.proofs.CountLaws.{faults_spent-more}
use Rattle.ecp_history.proofs.LegalLaws.{onwards}
use Rattle.ecp_history.proofs.LossLaws.{NoneLive, NoBlocks, keeps_none}
use Rattle.ecp_history.proofs.tables.MaskLaws.{up_nodes}
use Rattle.ecp_service.proofs.served.Lists.{one_if}

-- the table after one more entry
table_push : (shape : Shape) (before : List Entry) (e : Entry) → table_of shape (before ++ e ∷ []) ≡ after shape (table_of shape before) e
table_push shape before e = fold-append (after shape) (start shape) before (e ∷ [])

-- ---- the rows of a stripe that is stored

-- the place of a row is one of the nodes
place_below : (m : ℕ) (nodes : List ℕ) (s r : ℕ) → 0 < m → All (λ k. k < m) nodes → place_among nodes s r < m
place_below m nodes s r some all = elim (cases_lt ((s + r) % length nodes) (length nodes)) [
  | inl within ↦ all ((s + r) % length nodes) 0 within
  | inr past ↦ subst (λ (k : ℕ). k < m) (sym (get_or_past nodes ((s + r) % length nodes) 0 past)) some
]

range_off : (m : ℕ) (f : ℕ → Standing) → ((r : ℕ) → stands_live m (f r) ≡ false) → (a n : ℕ) → NoneLive m (map f (range_with_len a n))
range_off m f off a zero = tt
range_off m f off a (suc n) = (off a, range_off m f off (a + 1) n)

rows_off : (m : ℕ) (nodes : List ℕ) (n s : ℕ) → (0 < n → 0 < m) → All (λ k. k < m) nodes → NoneLive m (rows_among nodes n s)
rows_off m nodes zero s some all = tt
rows_off m nodes (suc n) s some all =
    range_off m (λ r. record { node = place_among nodes s r; live = true })
    (λ r. ne_eqb (place_among nodes s r) m (λ is. let below : place_among nodes s r < m = place_below m nodes s r (some (omega arith)) all in omega (arith, is, below))) 0 (suc n)

placed_off : (m : ℕ) (xs : List Stripe) (x : Stripe) → NoneLive m x.rows → NoBlocks m xs → NoBlocks m (placed xs x)
placed_off m [] x off none = (off, tt)
placed_off m (y ∷ ys) x off none =
    cond_both (nat_lt x.number y.number) (x ∷ y ∷ ys) (cond (x.number == y.number) (x ∷ ys) (y ∷ placed ys x)) (λ (zs : List Stripe). NoBlocks m zs)
    (λ before. (off, none))
    (λ past. cond_both (x.number == y.number) (x ∷ ys) (y ∷ placed ys x) (λ (zs : List Stripe). NoBlocks m zs) (λ same. (off, none.1)) (λ behind. (none.0, placed_off m ys x off none.1)))

all_placed : (m : ℕ) (nodes : List ℕ) (n s : ℕ) (contents : List (List (List ℕ))) (xs : List Stripe) → (0 < n → 0 < m) → All (λ k. k < m) nodes → NoBlocks m xs
    → NoBlocks m (fold placed xs (stripes_among nodes n s contents))
all_placed m nodes n s [] xs some all none = none
all_placed m nodes n s (blocks ∷ more) xs some all none =
    all_placed m nodes n (s + 1) more (placed xs (record { number = s; blocks = blocks; rows = rows_among nodes n s })) some all
    (placed_off m xs (record { number = s; blocks = blocks; rows = rows_among nodes n s }) (rows_off m nodes n s some all) none)

-- ---- the nodes of a table

-- no mask has a node past the greatest number of nodes
in_range : (mask : ℕ) → All (λ k. k < MAX_NODES) (nodes_in mask)
in_range mask =
    All-filter (λ k. bit_at mask k == 1) (λ k. k < MAX_NODES) (range_with_len 0 MAX_NODES)
    (λ k d lt.
    let within : k < MAX_NODES = omega (arith, lt, length-range_with_len 0 MAX_NODES) in
    let is : get_or (range_with_len 0 MAX_NODES) k d ≡ 0 + k = get_or-range_with_len 0 MAX_NODES k d within in
    omega (arith, is, within))

up_below : (t : PlainTable) (m : ℕ) → length t.nodes ≤ m → All (λ k. k < m) (nodes_in (up_mask t))
up_below t m past = elim (cases_lt MAX_NODES (length t.nodes)) [
  | inl many ↦ All-weaker (λ k. k < MAX_NODES) (λ k. k < m) (λ k lt. omega (arith, lt, many, past)) (nodes_in (up_mask t)) (in_range (up_mask t))
  | inr few ↦ All-weaker (λ k. k < length t.nodes) (λ k. k < m) (λ k lt. omega (arith, lt, past)) (nodes_in (up_mask t)) (up_nodes t few).1
]

-- a node that is up is there
up_there : (t : PlainTable) (m : ℕ) → IsTrue (is_up t m) → m < length t.nodes
up_there t m up = elim (cases_lt m (length t.nodes)) [
  | inl there ↦ there
  | inr past ↦ absurd (false≢true (sym (ap (λ (o : Option Node). option_map_or (λ x. x.up) o false) (slice_get_past t.nodes m past)) ∙ up))
]

-- ---- a legal history

-- what an entry leaves
none_after : (shape : Shape) (told : Bool) (m : ℕ) (before : List Entry) (e : Entry) (act : Act) → shape.nodes ≤ m
    → HoldsIn shape told before (table_of shape before) (table_at shape before e.line.point) e act → NoBlocks m (table_of shape before).stripes
    → NoBlocks m (after_act shape (table_of shape before) e act).stripes
none_after shape told m before e (Stored first stripes up) past holds none =
    let p : PlainTable = table_at shape before e.line.point in
    let nodes : length p.nodes ≡ shape.nodes = nodes-count shape (take e.line.point before) in
    let most : up_count p ≤ length p.nodes = count_by-le-length (λ x. x.up) p.nodes in
    let enough : shape.n ≤ up_count p = holds.enough in
    all_placed m (nodes_in up) shape.n first (code.stripes shape.k shape.block e.bytes) (table_of shape before).stripes
    (λ some. omega (arith, some, enough, most, nodes, past))
    (subst (λ (mask : ℕ). All (λ k. k < m) (nodes_in mask)) (sym holds.mask) (up_below p m (omega (arith, nodes, past))))
    none
none_after shape told m before e (Restored stripe row node inc) past holds none =
    let p : PlainTable = table_at shape before e.line.point in
    let nodes : length p.nodes ≡ shape.nodes = nodes-count shape (take e.line.point before) in
    let there : node < length p.nodes = up_there p node holds.up in
    keeps_none shape m (table_of shape before) e (Restored stripe row node inc) (ne_eqb node m (λ is. omega (arith, is, there, nodes, past))) none
none_after shape told m before e act past holds none = keeps_none shape m (table_of shape before) e act refl none

row_off : (m : ℕ) (rows : List Standing) (r : ℕ) → NoneLive m rows → option_map_or (stands_live m) (slice_get rows r) false ≡ false
row_off m [] r none = refl
row_off m (x ∷ rows) zero none = none.0
row_off m (x ∷ rows) (suc r) none = row_off m rows r none.1

not_on : (m : ℕ) (xs : List Stripe) (s r : ℕ) → NoBlocks m xs → option_map_or (stands_live m) (slice_get (option_map_or (λ x. x.rows) (find (λ x. x.number == s) xs) []) r) false ≡ false
not_on m [] s r none = refl
not_on m (x ∷ xs) s r none = either (x.number == s) (not_on m xs s r none.1) where
  either : (b : Bool) → option_map_or (stands_live m) (slice_get (option_map_or (λ y. y.rows) (find (λ y. y.number == s) xs) []) r) false ≡ false
      → option_map_or (stands_live m) (slice_get (option_map_or (λ x. x.rows) (cond b (Some x) (find (λ x. x.number == s) xs)) []) r) false ≡ false
  either true rest = row_off m x.rows r none.0
  either false rest = rest

-- an entry spends no fault of a node that is not there
spends_none : (shape : Shape) (told : Bool) (m : ℕ) (before : List Entry) (e : Entry) (act : Act) → shape.nodes ≤ m
    → HoldsIn shape told before (table_of shape before) (table_at shape before e.line.point) e act → NoBlocks m (table_of shape before).stripes
    → spends m e.line.caller act ≡ false
spends_none shape told m before e (StoreFailed node) past holds none = ne_eqb node m (λ is. omega (arith, is, holds, past))
spends_none shape told m before e (MendFailed stripe row node) past holds none = ne_eqb node m (λ is. omega (arith, is, holds, past))
spends_none shape told m before e (Drop stripe row) past holds none = ne_eqb e.line.caller (MAX_SESSIONS + m) (λ is.
    let same : holds.0 ≡ m = omega (arith, is, holds.1) in
    let live : is_live_on (table_of shape before) stripe row m ≡ true = ap (λ (k : ℕ). is_live_on (table_of shape before) stripe row k) (sym same) ∙ holds.2 in
    false≢true (sym (not_on m (table_of shape before).stripes stripe row none) ∙ live))
spends_none shape told m before e _ past holds none = refl

-- nothing is on a node, and nothing was spent of it
record HasNothing (shape : Shape) (m : ℕ) (history : List Entry) : Type 0 where
  blocks : NoBlocks m (table_of shape history).stripes
  spent : faults_spent m history ≡ 0

nothing_more : (shape : Shape) (told : Bool) (m : ℕ) → shape.nodes ≤ m → (h : List Entry) (e : Entry) → MayFollow shape told h e → HasNothing shape m h → HasNothing shape m (h ++ e ∷ [])
nothing_more shape told m past h e may nothing = record {
  blocks = subst (λ (t : PlainTable). NoBlocks m t.stripes) (sym (table_push shape h e)) (none_after shape told m h e e.line.act past may.holds nothing.blocks);
  spent = faults_spent-more m h e
      ∙ ap (λ (b : Bool). faults_spent m h + one_if b) (spends_none shape told m h e e.line.act past may.holds nothing.blocks)
      ∙ omega (arith, nothing.spent);
}

pub nothing_spent : (shape : Shape) (told : Bool) (history : List Entry) (m : ℕ) → IsLegal shape told history → shape.nodes ≤ m → faults_spent m history ≡ 0
nothing_spent shape told history m legal past =
    (onwards shape told (HasNothing shape m) (λ h e before may. nothing_more shape told m past h e may) [] history legal (record { blocks = tt; spent = refl })).spent
