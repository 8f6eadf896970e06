-- No two rows of a stripe are live on one node.
use Rattle.std.proofs.Common.{◌≡◌, ℕ, zero, suc, ◌+◌, ◌*◌, ◌<◌, ◌≤◌, ◌/◌, ◌%◌, ◌⊎◌, ◌==◌, Bool, true, false, cond, ◌&&◌, List, [], ◌∷◌, length, map, take, filter, fold, get_or, slice_get, find, Option, Some, None, refl, sym, ◌∙◌, ap, subst, arith, inl, inr, length-set, mul-le-mul_left}
use Rattle.std.specs.Prelude.{nat_eq, ⊤, option_map}
use Rattle.std.specs.List.{AllByRecursion, IsDistinct, enumerate_from, range_with_len}
use Rattle.std.specs.Option.{option_map_or}
use Rattle.std.specs.Int.{bit_at}
use Rattle.std.proofs.lemmas.Bool.{false≢true, ne_eqb, eqb-false, eqb-true, cases_order, cases_Bool}
use Rattle.std.proofs.lemmas.Option.{slice_get-get_or}
use Rattle.std.proofs.lemmas.List.{length-replicate}
use Rattle.ecp_shape.specs.declared.shape.Shape.{Shape}
use Rattle.ecp_shape.specs.Range.{IsInRange}
use Rattle.ecp_shape.specs.declared.limits.TheConstants.{MAX_NODES}
use Rattle.ecp_code.specs.Stripes.{stripes}
use Rattle.ecp_entry.specs.declared.act.Act.{Act}
use Rattle.ecp_entry.specs.declared.act.Act.TheVariants.{Stored, Lost, Joined, Restored, Drop}
use Rattle.ecp_entry.specs.declared.entry.Entry.{Entry}
use Rattle.ecp_entry.specs.Entries.{deed_node}
use Rattle.ecp_history.specs.declared.table.node.Node.{Node}
use Rattle.ecp_history.specs.declared.table.standing.Standing.{Standing}
use Rattle.ecp_history.specs.Acts.{HoldsIn}
use Rattle.ecp_history.specs.Legal.{IsLegal}
use Rattle.ecp_history.specs.table.Placement.{nodes_in, place_among}
use Rattle.ecp_history.specs.table.Tables.{Stripe, PlainTable, start, stripe_of, rows_of, stands_live}
use Rattle.ecp_history.specs.table.Steps.{rows_among, stripes_among, placed, with_rows, without_node, lost, joined, change_row, live_onto, given_up, with_block, after_act, after, table_of}
use Rattle.ecp_history.proofs.LegalLaws.{onwards}
use Rattle.ecp_history.proofs.tables.MaskLaws.{up_nodes}
use Rattle.ecp_plan.specs.declared.live_row.LiveRow.{LiveRow}
use Rattle.ecp_catalog.specs.Standing.{live_among}
use Rattle.ecp_catalog.proofs.OutlineLaws.{one_more, find-with_rows, changed}
use Rattle.ecp_catalog.proofs.StoredLaws.{find-put_new, find-put_other, place_in}

-- a live row is not on this node
abbrev pub Off : ℕ → Standing → Type 0
Off m y = y.live ≡ true → nat_eq m y.node ≡ false

-- no two live rows are on one node
abbrev pub Apart : List Standing → Type 0
Apart [] = ⊤
Apart (x ∷ xs) = (x.live ≡ true → AllByRecursion (Off x.node) xs) × Apart xs

-- ---- the nodes and rows of live rows

nodes-off : (m n : ℕ) (xs : List Standing) → AllByRecursion (Off m) xs
    → AllByRecursion (λ k. nat_eq m k ≡ false) (map (λ (x : LiveRow). x.node) (map (λ p. let y : LiveRow = record { row = p.0; node = p.1.node } in y) (filter (λ (p : ℕ × Standing). p.1.live) (enumerate_from n xs))))
nodes-off m n [] off = tt
nodes-off m n (x ∷ xs) off = one x.live refl (nodes-off m (n + 1) xs off.1) where
  one : (b : Bool) → x.live ≡ b → AllByRecursion (λ k. nat_eq m k ≡ false) (map (λ (y : LiveRow). y.node) (map (λ p. let y : LiveRow = record { row = p.0; node = p.1.node } in y) (filter (λ (p : ℕ × Standing). p.1.live) (enumerate_from (n + 1) xs))))
      → AllByRecursion (λ k. nat_eq m k ≡ false) (map (λ (y : LiveRow). y.node) (map (λ p. let y : LiveRow = record { row = p.0; node = p.1.node } in y) (cond b ((n, x) ∷ filter (λ (p : ℕ × Standing). p.1.live) (enumerate_from (n + 1) xs)) (filter (λ (p : ℕ × Standing). p.1.live) (enumerate_from (n + 1) xs)))))
  one true live more = (off.0 live, more)
  one false live more = more

distinct-from : (n : ℕ) (xs : List Standing) → Apart xs
    → IsDistinct nat_eq (map (λ (x : LiveRow). x.node) (map (λ p. let y : LiveRow = record { row = p.0; node = p.1.node } in y) (filter (λ (p : ℕ × Standing). p.1.live) (enumerate_from n xs))))
unfolding IsDistinct
distinct-from n [] apart = tt
distinct-from n (x ∷ xs) apart = one x.live refl (distinct-from (n + 1) xs apart.1) where
  one : (b : Bool) → x.live ≡ b → IsDistinct nat_eq (map (λ (y : LiveRow). y.node) (map (λ p. let y : LiveRow = record { row = p.0; node = p.1.node } in y) (filter (λ (p : ℕ × Standing). p.1.live) (enumerate_from (n + 1) xs))))
      → IsDistinct nat_eq (map (λ (y : LiveRow). y.node) (map (λ p. let y : LiveRow = record { row = p.0; node = p.1.node } in y) (cond b ((n, x) ∷ filter (λ (p : ℕ × Standing). p.1.live) (enumerate_from (n + 1) xs)) (filter (λ (p : ℕ × Standing). p.1.live) (enumerate_from (n + 1) xs)))))
  one true live more = (nodes-off x.node (n + 1) xs (apart.0 live), more)
  one false live more = more

pub distinct_nodes : (xs : List Standing) → Apart xs → IsDistinct nat_eq (map (λ x. x.node) (live_among xs))
distinct_nodes xs apart = distinct-from 0 xs apart

-- rows behind a number
rows-off : (m n : ℕ) (xs : List Standing) → m < n
    → AllByRecursion (λ k. nat_eq m k ≡ false) (map (λ (x : LiveRow). x.row) (map (λ p. let y : LiveRow = record { row = p.0; node = p.1.node } in y) (filter (λ (p : ℕ × Standing). p.1.live) (enumerate_from n xs))))
rows-off m n [] low = tt
rows-off m n (x ∷ xs) low = one x.live (rows-off m (n + 1) xs (omega arith)) where
  one : (b : Bool) → AllByRecursion (λ k. nat_eq m k ≡ false) (map (λ (y : LiveRow). y.row) (map (λ p. let y : LiveRow = record { row = p.0; node = p.1.node } in y) (filter (λ (p : ℕ × Standing). p.1.live) (enumerate_from (n + 1) xs))))
      → AllByRecursion (λ k. nat_eq m k ≡ false) (map (λ (y : LiveRow). y.row) (map (λ p. let y : LiveRow = record { row = p.0; node = p.1.node } in y) (cond b ((n, x) ∷ filter (λ (p : ℕ × Standing). p.1.live) (enumerate_from (n + 1) xs)) (filter (λ (p : ℕ × Standing). p.1.live) (enumerate_from (n + 1) xs)))))
  one true more = (ne_eqb m n (λ same. omega (arith, same, low)), more)
  one false more = more

rows-from : (n : ℕ) (xs : List Standing)
    → IsDistinct nat_eq (map (λ (x : LiveRow). x.row) (map (λ p. let y : LiveRow = record { row = p.0; node = p.1.node } in y) (filter (λ (p : ℕ × Standing). p.1.live) (enumerate_from n xs))))
unfolding IsDistinct
rows-from n [] = tt
rows-from n (x ∷ xs) = one x.live (rows-from (n + 1) xs) where
  one : (b : Bool) → IsDistinct nat_eq (map (λ (y : LiveRow). y.row) (map (λ p. let y : LiveRow = record { row = p.0; node = p.1.node } in y) (filter (λ (p : ℕ × Standing). p.1.live) (enumerate_from (n + 1) xs))))
      → IsDistinct nat_eq (map (λ (y : LiveRow). y.row) (map (λ p. let y : LiveRow = record { row = p.0; node = p.1.node } in y) (cond b ((n, x) ∷ filter (λ (p : ℕ × Standing). p.1.live) (enumerate_from (n + 1) xs)) (filter (λ (p : ℕ × Standing). p.1.live) (enumerate_from (n + 1) xs)))))
  one true more = (rows-off n (n + 1) xs (omega arith), more)
  one false more = more

pub distinct_rows : (xs : List Standing) → IsDistinct nat_eq (map (λ x. x.row) (live_among xs))
distinct_rows xs = rows-from 0 xs

-- ---- changes that bring no row to life

-- a change that leaves the node, and makes no row live
pub record Weakens (change : Standing → Standing) : Type 0 where
  pub node : (x : Standing) → (change x).node ≡ x.node
  pub live : (x : Standing) → (change x).live ≡ true → x.live ≡ true

off-change : (change : Standing → Standing) (m : ℕ) (x : Standing) → Weakens change → Off m x → Off m (change x)
off-change change m x weak off live = ap (nat_eq m) (weak.node x) ∙ off (weak.live x live)

off-map : (change : Standing → Standing) (m : ℕ) (xs : List Standing) → Weakens change → AllByRecursion (Off m) xs → AllByRecursion (Off m) (map change xs)
off-map change m [] weak off = tt
off-map change m (x ∷ xs) weak off = (off-change change m x weak off.0, off-map change m xs weak off.1)

apart-map : (change : Standing → Standing) (xs : List Standing) → Weakens change → Apart xs → Apart (map change xs)
apart-map change [] weak apart = tt
apart-map change (x ∷ xs) weak apart = (
  λ live. subst (λ (m : ℕ). AllByRecursion (Off m) (map change xs)) (sym (weak.node x)) (off-map change x.node xs weak (apart.0 (weak.live x live))),
  apart-map change xs weak apart.1,
)

off-change_row : (change : Standing → Standing) (m r : ℕ) (xs : List Standing) → Weakens change → AllByRecursion (Off m) xs → AllByRecursion (Off m) (change_row change r xs)
off-change_row change m r [] weak off = tt
off-change_row change m zero (x ∷ xs) weak off = (off-change change m x weak off.0, off.1)
off-change_row change m (suc r) (x ∷ xs) weak off = (off.0, off-change_row change m r xs weak off.1)

apart-change_row : (change : Standing → Standing) (r : ℕ) (xs : List Standing) → Weakens change → Apart xs → Apart (change_row change r xs)
apart-change_row change r [] weak apart = tt
apart-change_row change zero (x ∷ xs) weak apart =
    (λ live. subst (λ (m : ℕ). AllByRecursion (Off m) xs) (sym (weak.node x)) (apart.0 (weak.live x live)), apart.1)
apart-change_row change (suc r) (x ∷ xs) weak apart = (λ live. off-change_row change x.node r xs weak (apart.0 live), apart-change_row change r xs weak apart.1)

weak-without : (m : ℕ) → Weakens (without_node m)
weak-without m = record { node = λ x. leaves (x.node == m) x; live = λ x live. stays (x.node == m) x live } where
  leaves : (b : Bool) (x : Standing) → (cond b (record { node = x.node; live = false }) x).node ≡ x.node
  leaves true x = refl
  leaves false x = refl

  stays : (b : Bool) (x : Standing) → (cond b (record { node = x.node; live = false }) x).live ≡ true → x.live ≡ true
  stays true x live = absurd (false≢true live)
  stays false x live = live

weak-given_up : Weakens given_up
weak-given_up = record { node = λ x. refl; live = λ x live. absurd (false≢true live) }

-- ---- a row brought to life where no other is

-- no other row than this one is live on the node
abbrev pub Alone : ℕ → ℕ → List Standing → Type 0
Alone node r xs = (k : ℕ) → (k ≡ r → ⊥) → option_map_or (stands_live node) (slice_get xs k) false ≡ false

off-one : (node : ℕ) (y : Standing) → stands_live node y ≡ false → Off node y
off-one node y none live =
    let other : y.node == node ≡ false = sym (ap (λ (b : Bool). b && (y.node == node)) live) ∙ none in
    ne_eqb node y.node (λ same. eqb-false y.node node other (sym same))

off-all : (node : ℕ) (xs : List Standing) → ((k : ℕ) → option_map_or (stands_live node) (slice_get xs k) false ≡ false) → AllByRecursion (Off node) xs
off-all node [] none = tt
off-all node (x ∷ xs) none = (off-one node x (none 0), off-all node xs (λ k. none (suc k)))

off-live_onto : (node m r : ℕ) (xs : List Standing) → nat_eq m node ≡ false → AllByRecursion (Off m) xs → AllByRecursion (Off m) (change_row (live_onto node) r xs)
off-live_onto node m r [] other off = tt
off-live_onto node m zero (x ∷ xs) other off = (λ live. other, off.1)
off-live_onto node m (suc r) (x ∷ xs) other off = (off.0, off-live_onto node m r xs other off.1)

apart-live_onto : (node r : ℕ) (xs : List Standing) → Alone node r xs → Apart xs → Apart (change_row (live_onto node) r xs)
apart-live_onto node r [] alone apart = tt
apart-live_onto node zero (x ∷ xs) alone apart = (λ live. off-all node xs (λ k. alone (suc k) (λ same. never k same)), apart.1) where
  never : (k : ℕ) → suc k ≡ 0 → ⊥
  never k same = omega (arith, same)
apart-live_onto node (suc r) (x ∷ xs) alone apart = (
  λ live.
      let off : Off node x = off-one node x (alone 0 (λ same. zero_is_no_suc same)) in
      let other : nat_eq x.node node ≡ false = ne_eqb x.node node (λ same. eqb-false node x.node (off live) (sym same)) in
      off-live_onto node x.node r xs other (apart.0 live),
  apart-live_onto node r xs (λ k other. alone (suc k) (λ same. other (less same))) apart.1,
)
  where
    zero_is_no_suc : 0 ≡ suc r → ⊥
    zero_is_no_suc same = omega (arith, same)

    less : {k : ℕ} → suc k ≡ suc r → k ≡ r
    less same = omega (arith, same)

-- ---- rows at their places

-- each number has higher ones behind it
abbrev Rises : List ℕ → Type 0
Rises [] = ⊤
Rises (x ∷ xs) = AllByRecursion (λ y. x < y) xs × Rises xs

above-filter : (test : ℕ → Bool) (m a n : ℕ) → m < a → AllByRecursion (λ y. m < y) (filter test (range_with_len a n))
above-filter test m a zero low = tt
above-filter test m a (suc n) low = one (test a) (above-filter test m (a + 1) n (omega arith)) where
  one : (b : Bool) → AllByRecursion (λ y. m < y) (filter test (range_with_len (a + 1) n)) → AllByRecursion (λ y. m < y) (cond b (a ∷ filter test (range_with_len (a + 1) n)) (filter test (range_with_len (a + 1) n)))
  one true more = (low, more)
  one false more = more

rises-filter : (test : ℕ → Bool) (a n : ℕ) → Rises (filter test (range_with_len a n))
rises-filter test a zero = tt
rises-filter test a (suc n) = one (test a) (rises-filter test (a + 1) n) where
  one : (b : Bool) → Rises (filter test (range_with_len (a + 1) n)) → Rises (cond b (a ∷ filter test (range_with_len (a + 1) n)) (filter test (range_with_len (a + 1) n)))
  one true more = (above-filter test a (a + 1) n (omega arith), more)
  one false more = more

all-get : (m : ℕ) (xs : List ℕ) (j : ℕ) → AllByRecursion (λ y. m < y) xs → j < length xs → m < get_or xs j 0
all-get m [] j all h = absurd (omega arith)
all-get m (x ∷ xs) zero all h = all.0
all-get m (x ∷ xs) (suc j) all h = all-get m xs j all.1 (omega arith)

rises-at : (xs : List ℕ) (i j : ℕ) → Rises xs → i < j → j < length xs → get_or xs i 0 < get_or xs j 0
rises-at [] i j rises low h = absurd (omega arith)
rises-at (x ∷ xs) i zero rises low h = absurd (omega arith)
rises-at (x ∷ xs) zero (suc j) rises low h = all-get x xs j rises.0 (omega arith)
rises-at (x ∷ xs) (suc i) (suc j) rises low h = rises-at xs i j rises.1 (omega arith) (omega arith)

one_place : (xs : List ℕ) (i j : ℕ) → Rises xs → i < length xs → j < length xs → get_or xs i 0 ≡ get_or xs j 0 → i ≡ j
one_place xs i j rises low high same = elim (cases_order i j) [
  | inl is ↦ is
  | inr other ↦ elim other [
    | inl below ↦ absurd (omega (arith, rises-at xs i j rises below high, same))
    | inr above ↦ absurd (omega (arith, rises-at xs j i rises above low, same))
  ]
]

-- numbers less than u apart differ by u
mod_apart : (u a b : ℕ) → a < b → b < a + u → a % u ≡ b % u → ⊥
mod_apart u a b low high same =
    let some : 0 < u = omega (arith, low, high) in
    let first : u * (a / u) + a % u ≡ a = omega arith in
    let last : u * (b / u) + b % u ≡ b = omega arith in
    elim (cases_order (a / u) (b / u)) [
      | inl is ↦ absurd (omega (arith, first, ap (λ (q : ℕ). u * q) is, last, same, low))
      | inr other ↦ elim other [
        | inl below ↦
            let more : u * suc (a / u) ≤ u * (b / u) = mul-le-mul_left u below in
            omega (arith, more, first, last, same, high)
        | inr above ↦
            let more : u * suc (b / u) ≤ u * (a / u) = mul-le-mul_left u above in
            omega (arith, more, first, last, same, low)
      ]
    ]

place_apart : (nodes : List ℕ) (s a b : ℕ) → Rises nodes → a < b → b < a + length nodes → nat_eq (place_among nodes s a) (place_among nodes s b) ≡ false
place_apart nodes s a b rises low high =
    let some : 0 < length nodes = omega (arith, low, high) in
    ne_eqb (place_among nodes s a) (place_among nodes s b) (λ same.
    mod_apart (length nodes) (s + a) (s + b) (omega (arith, low)) (omega (arith, high))
    (one_place nodes ((s + a) % length nodes) ((s + b) % length nodes) rises (omega (arith, some)) (omega (arith, some)) same))

off-rows : (nodes : List ℕ) (s a b n : ℕ) → Rises nodes → a < b → b + n ≤ a + length nodes
    → AllByRecursion (Off (place_among nodes s a)) (map (λ r. let x : Standing = record { node = place_among nodes s r; live = true } in x) (range_with_len b n))
off-rows nodes s a b zero rises low high = tt
off-rows nodes s a b (suc n) rises low high = (λ live. place_apart nodes s a b rises low (omega (arith, high)), off-rows nodes s a (b + 1) n rises (omega (arith, low)) (omega (arith, high)))

rows-apart : (nodes : List ℕ) (s a n : ℕ) → Rises nodes → n ≤ length nodes → Apart (map (λ r. let x : Standing = record { node = place_among nodes s r; live = true } in x) (range_with_len a n))
rows-apart nodes s a zero rises few = tt
rows-apart nodes s a (suc n) rises few = (λ live. off-rows nodes s a (a + 1) n rises (omega arith) (omega (arith, few)), rows-apart nodes s (a + 1) n rises (omega (arith, few)))

-- ---- every table has as many nodes as the shape

nodes-lost : (t : PlainTable) (node : Option ℕ) → length (option_map_or (lost t) node t).nodes ≡ length t.nodes
nodes-lost t None = refl
nodes-lost t (Some m) = length-set t.nodes m (record { up = false; inc = option_map_or (λ x. x.inc) (slice_get t.nodes m) 0 })

nodes-joined : (t : PlainTable) (inc : ℕ) (node : Option ℕ) → length (option_map_or (λ m. joined t m inc) node t).nodes ≡ length t.nodes
nodes-joined t inc None = refl
nodes-joined t inc (Some m) = length-set t.nodes m (record { up = true; inc = inc })

nodes-after : (shape : Shape) (t : PlainTable) (e : Entry) (act : Act) → length (after_act shape t e act).nodes ≡ length t.nodes
nodes-after shape t e (Lost count) = nodes-lost t (deed_node e.deed)
nodes-after shape t e (Joined inc) = nodes-joined t inc (deed_node e.deed)
nodes-after shape t e _ = refl

nodes-fold : (shape : Shape) (t : PlainTable) (history : List Entry) → length (fold (after shape) t history).nodes ≡ length t.nodes
nodes-fold shape t [] = refl
nodes-fold shape t (e ∷ history) = nodes-fold shape (after shape t e) history ∙ nodes-after shape t e e.line.act

pub nodes-count : (shape : Shape) (history : List Entry) → length (table_of shape history).nodes ≡ shape.nodes
nodes-count shape history = nodes-fold shape (start shape) history ∙ length-replicate shape.nodes (record { up = true; inc = 0 })

-- ---- every table of a legal history

abbrev AllApart : PlainTable → Type 0
AllApart t = (s : ℕ) → Apart (rows_of t s)

apart-with_rows : (change : Stripe → List Standing) (t : PlainTable) (nodes : List Node) → ((x : Stripe) (s : ℕ) → stripe_of t s ≡ Some x → Apart x.rows → Apart (change x)) → AllApart t
    → (s : ℕ) → Apart (option_map_or (λ x. x.rows) (find (λ x. x.number == s) (with_rows change t.stripes)) [])
apart-with_rows change t nodes keeps all s =
    subst (λ (o : Option Stripe). Apart (option_map_or (λ x. x.rows) o [])) (sym (find-with_rows change s t.stripes)) (one (stripe_of t s) refl (all s))
  where
    one : (o : Option Stripe) → stripe_of t s ≡ o → Apart (option_map_or (λ x. x.rows) o []) → Apart (option_map_or (λ (x : Stripe). x.rows) (option_map (changed change) o) [])
    one None is apart = tt
    one (Some x) is apart = keeps x s is apart

apart-lost : (t : PlainTable) (node : Option ℕ) → AllApart t → AllApart (option_map_or (lost t) node t)
apart-lost t None all = all
apart-lost t (Some m) all = apart-with_rows (λ x. map (without_node m) x.rows) t t.nodes (λ x s is apart. apart-map (without_node m) x.rows (weak-without m) apart) all

apart-joined : (t : PlainTable) (inc : ℕ) (node : Option ℕ) → AllApart t → AllApart (option_map_or (λ m. joined t m inc) node t)
apart-joined t inc None all = all
apart-joined t inc (Some m) all = all

-- the stripe that is found has its number
found_number : (s : ℕ) (xs : List Stripe) (x : Stripe) → find (λ y. y.number == s) xs ≡ Some x → x.number == s ≡ true
found_number s [] x is = cc
found_number s (y ∷ ys) x is = one (y.number == s) refl is (found_number s ys x) where
  one : (b : Bool) → y.number == s ≡ b → cond b (Some y) (find (λ z. z.number == s) ys) ≡ Some x → (find (λ z. z.number == s) ys ≡ Some x → x.number == s ≡ true) → x.number == s ≡ true
  one true passes is more =
      let same : y ≡ x = cc in
      subst (λ (z : Stripe). z.number == s ≡ true) same passes
  one false fails is more = more is

apart-with_block : (t : PlainTable) (i r : ℕ) (change : Standing → Standing) → (Apart (rows_of t i) → Apart (change_row change r (rows_of t i))) → AllApart t → AllApart (with_block t i r change)
apart-with_block t i r change keeps all = apart-with_rows (λ x. cond (x.number == i) (change_row change r x.rows) x.rows) t t.nodes (λ x s is apart. one x s is apart (cases_Bool (x.number == i))) all where
  one : (x : Stripe) (s : ℕ) → stripe_of t s ≡ Some x → Apart x.rows → ((x.number == i ≡ true) ⊎ (x.number == i ≡ false)) → Apart (cond (x.number == i) (change_row change r x.rows) x.rows)
  one x s is apart (inl own) =
      let at_s : x.number ≡ s = eqb-true x.number s (found_number s t.stripes x is) in
      let at_i : x.number ≡ i = eqb-true x.number i own in
      let here : stripe_of t i ≡ Some x = subst (λ (k : ℕ). stripe_of t k ≡ Some x) (sym at_s ∙ at_i) is in
      let rows : rows_of t i ≡ x.rows = ap (λ (o : Option Stripe). option_map_or (λ y. y.rows) o []) here in
      rw own (subst (λ (xs : List Standing). Apart (change_row change r xs)) rows (keeps (all i)))
  one x s is apart (inr other) = rw other apart

apart-stored : (t : PlainTable) (at : List ℕ) (n first : ℕ) (ds : List (List (List ℕ))) → Rises at → n ≤ length at → AllApart t
    → (s : ℕ) → Apart (option_map_or (λ x. x.rows) (find (λ x. x.number == s) (fold placed t.stripes (stripes_among at n first ds))) [])
apart-stored t at n first ds rises few all s = elim (place_in s first (length ds)) [
  | inl new ↦
      let found : find (λ x. x.number == first + new.0) (fold placed t.stripes (stripes_among at n first ds)) ≡ Some (record { number = first + new.0; blocks = get_or ds new.0 []; rows = rows_among at n (first + new.0) }) =
      find-put_new at n first ds t.stripes new.0 (get_or ds new.0 []) (slice_get-get_or ds new.0 [] new.1) in
      subst (λ (k : ℕ). Apart (option_map_or (λ (x : Stripe). x.rows) (find (λ x. x.number == k) (fold placed t.stripes (stripes_among at n first ds))) [])) (sym new.2)
      (subst (λ (o : Option Stripe). Apart (option_map_or (λ x. x.rows) o [])) (sym found) (rows-apart at (first + new.0) 0 n rises few))
  | inr outside ↦
      subst (λ (o : Option Stripe). Apart (option_map_or (λ x. x.rows) o [])) (sym (find-put_other at n first ds t.stripes s outside)) (all s)
]

apart-after : (shape : Shape) (told : Bool) (h before : List Entry) (t : PlainTable) (e : Entry) (act : Act) → IsInRange shape → HoldsIn shape told h t (table_of shape before) e act → AllApart t
    → AllApart (after_act shape t e act)
apart-after shape told h before t e (Stored first count up) in_range holds all =
    let p : PlainTable = table_of shape before in
    let both = up_nodes p (omega (arith, nodes-count shape before, in_range.few)) in
    let few : shape.n ≤ length (nodes_in up) = omega (arith, ap (λ (m : ℕ). length (nodes_in m)) holds.mask, both.0, holds.enough) in
    apart-stored t (nodes_in up) shape.n first (stripes shape.k shape.block e.bytes) (rises-filter (λ m. bit_at up m == 1) 0 MAX_NODES) few all
apart-after shape told h before t e (Lost count) in_range holds all = apart-lost t (deed_node e.deed) all
apart-after shape told h before t e (Joined inc) in_range holds all = apart-joined t inc (deed_node e.deed) all
apart-after shape told h before t e (Restored stripe row node inc) in_range holds all =
    apart-with_block t stripe row (live_onto node) (λ apart. apart-live_onto node row (rows_of t stripe) holds.alone apart) all
apart-after shape told h before t e (Drop stripe row) in_range holds all =
    apart-with_block t stripe row given_up (λ apart. apart-change_row given_up row (rows_of t stripe) weak-given_up apart) all
apart-after shape told h before t e _ in_range holds all = all

pub all_apart : (shape : Shape) (told : Bool) (history : List Entry) → IsInRange shape → IsLegal shape told history → AllApart (table_of shape history)
all_apart shape told history in_range legal =
    onwards shape told (λ h. AllApart (table_of shape h)) (λ h e was next all.
    subst AllApart (sym (one_more shape h e)) (apart-after shape told h (take e.line.point h) (table_of shape h) e e.line.act in_range next.holds all))
    [] history legal (λ s. tt)
