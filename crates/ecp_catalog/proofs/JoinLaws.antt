-- The catalog in which a node came up is the outline, and a node that is down was lost once more than it came up.
use Rattle.std.proofs.Common.{◌≡◌, ℕ, zero, suc, ◌+◌, ◌<◌, ◌≤◌, Bool, true, false, cond, List, [], ◌∷◌, ◌++◌, length, map, replicate, set, slice_get, Option, Some, None, refl, sym, ◌∙◌, ap, subst, arith, length-append}
use Rattle.std.specs.Prelude.{not, IsSomeAnd}
use Rattle.std.specs.Option.{option_map_or}
use Rattle.ecp_shape.specs.declared.shape.Shape.{Shape}
use Rattle.ecp_node.specs.Receipts.{ReceiptState}
use Rattle.ecp_entry.specs.declared.act.Act.{Act}
use Rattle.ecp_entry.specs.declared.act.Act.TheVariants.{Lost, Joined}
use Rattle.ecp_entry.specs.declared.entry.Entry.{Entry}
use Rattle.ecp_entry.specs.Entries.{deed_node, lost_node}
use Rattle.ecp_history.specs.declared.table.node.Node.{Node}
use Rattle.ecp_history.specs.declared.table.standing.Standing.{Standing}
use Rattle.ecp_history.specs.Acts.{HoldsIn, Joins}
use Rattle.ecp_history.specs.Legal.{IsLegal}
use Rattle.ecp_history.specs.table.Tables.{PlainTable, is_down, is_up, inc_of}
use Rattle.ecp_history.specs.table.Steps.{lost, joined, after_act, after, table_of, table_at}
use Rattle.ecp_history.proofs.LegalLaws.{onwards}
use Rattle.ecp_catalog.specs.Standing.{standing}
use Rattle.ecp_catalog.specs.Catalogs.{NodeSeen, CatalogState, changed_at, joined_node, plain, receipts_of}
use Rattle.ecp_catalog.specs.Outline.{loss_positions, IsOutline}
use Rattle.ecp_catalog.proofs.NodeLaws.{at-changed_at, inc_at, inc-set, length-changed_at, map-joined_node, up_in-later}
use Rattle.ecp_catalog.proofs.OutlineLaws.{no_position, one_more, onto, same_receipt}

-- ---- a node that comes up

-- rows stand as before where a node comes up in a later incarnation than each receipt of it has
all-joined : (m : ℕ) (d : Node) (nodes : List Node) (xs : List ReceiptState) → option_map_or (λ x. x.up) (slice_get nodes m) false ≡ false → inc_at nodes m < d.inc
    → ((r : ℕ) (x : ReceiptState) → slice_get xs r ≡ Some x → x.inc ≤ inc_at nodes x.node) → map (standing (set nodes m d)) xs ≡ map (standing nodes) xs
all-joined m d nodes [] down later past = refl
all-joined m d nodes (x ∷ xs) down later past =
    ap (λ (b : Bool). let y : Standing = record { node = x.node; live = b } in y ∷ map (standing (set nodes m d)) xs) (up_in-later x.inc nodes m x.node d down later (past 0 x refl))
    ∙ ap (λ (ys : List Standing). standing nodes x ∷ ys) (all-joined m d nodes xs down later (λ r y is. past (suc r) y is))

pub joined_outline : (shape : Shape) (told : Bool) (c : CatalogState) (history : List Entry) (e : Entry) (m : ℕ) → IsOutline shape told c history → is_up (plain c) m ≡ false
    → deed_node e.deed ≡ Some m → e.line.act ≡ Joined (inc_of (plain c) m + 1) → IsOutline shape told (record c { nodes = changed_at joined_node m c.nodes }) (history ++ e ∷ [])
joined_outline shape told c history e m is down names says =
    let t : PlainTable = table_of shape history in
    let old : List Node = map (λ x. x.node) c.nodes in
    let nodes : List NodeSeen = changed_at joined_node m c.nodes in
    let d : Node = record { up = true; inc = inc_at old m + 1 } in
    let size : length nodes ≡ length c.nodes = length-changed_at joined_node m c.nodes in
    let next : map (λ x. x.node) nodes ≡ set old m d = map-joined_node m c.nodes in
    let table : table_of shape (history ++ e ∷ []) ≡ joined t m (inc_at old m + 1) =
    one_more shape history e ∙ ap (after_act shape t e) says ∙ ap (λ (o : Option ℕ). option_map_or (λ k. joined t k (inc_at old m + 1)) o t) names in
    onto shape told (record c { nodes = nodes }) (joined t m (inc_at old m + 1)) (table_of shape (history ++ e ∷ [])) (λ i. loss_positions i history) (λ i. loss_positions i (history ++ e ∷ []))
    (record {
      sizes = is.sizes;
      files = is.files;
      nodes = next ∙ ap (λ (ns : List Node). set ns m d) is.nodes;
      stripes = is.stripes;
      rows = λ s.
          ap (λ (ns : List Node). map (standing ns) (receipts_of c s)) next
          ∙ all-joined m d old (receipts_of c s) down (omega arith) (λ r x h. subst (λ (ns : List Node). x.inc ≤ inc_at ns x.node) (sym is.nodes) (is.past s r x h))
          ∙ is.rows s;
      receipts = λ s r x h. same_receipt shape told t (joined t m (inc_at old m + 1)) s r x refl (is.receipts s r x h);
      past = λ s r x h.
          let same : inc_at t.nodes m ≡ inc_at old m = ap (λ (ns : List Node). inc_at ns m) (sym is.nodes) in
          omega (arith, is.past s r x h, inc-set t.nodes m x.node d (omega (arith, same)));
      live = λ i h. at-changed_at (λ x. x.live) 0 joined_node (λ x. refl) m i c.nodes ∙ is.live i (subst (λ (n : ℕ). i < n) size h);
      losses = λ i h. at-changed_at (λ x. x.losses) [] joined_node (λ x. refl) m i c.nodes ∙ is.losses i (subst (λ (n : ℕ). i < n) size h);
    })
    table (λ i. no_position i history e (ap (λ (a : Act). lost_node a e.deed) says))

-- ---- how often a node came up

-- how often a node came up, and once more where it is down
abbrev turns : List Node → ℕ → ℕ
turns nodes m = option_map_or (λ x. x.inc + cond x.up 0 1) (slice_get nodes m) 0

turns-set : (xs : List Node) (k m : ℕ) (d : Node) → d.inc + cond d.up 0 1 ≤ inc_at xs k + 1 → turns (set xs k d) m ≤ turns xs m + 1
turns-set [] k m d next = omega arith
turns-set (x ∷ xs) zero zero d next = omega (arith, next)
turns-set (x ∷ xs) zero (suc m) d next = omega arith
turns-set (x ∷ xs) (suc k) zero d next = omega arith
turns-set (x ∷ xs) (suc k) (suc m) d next = turns-set xs k m d next

turns-start : (n m : ℕ) → turns (replicate n (record { up = true; inc = 0 })) m ≡ 0
turns-start zero m = refl
turns-start (suc n) zero = refl
turns-start (suc n) (suc m) = turns-start n m

turns-lost : (t : PlainTable) (node : Option ℕ) (m : ℕ) → turns (option_map_or (lost t) node t).nodes m ≤ turns t.nodes m + 1
turns-lost t None m = omega arith
turns-lost t (Some k) m = turns-set t.nodes k m (record { up = false; inc = inc_at t.nodes k }) (omega arith)

turns-joined : (t : PlainTable) (inc : ℕ) (node : Option ℕ) (m : ℕ) → IsSomeAnd node (Joins t inc) → turns (option_map_or (λ k. joined t k inc) node t).nodes m ≤ turns t.nodes m + 1
turns-joined t inc None m joins = omega arith
turns-joined t inc (Some k) m joins = turns-set t.nodes k m (record { up = true; inc = inc }) (omega (arith, joins.next))

turns-after : (shape : Shape) (told : Bool) (before : List Entry) (t p : PlainTable) (e : Entry) (act : Act) (m : ℕ) → HoldsIn shape told before t p e act
    → turns (after_act shape t e act).nodes m ≤ turns t.nodes m + 1
turns-after shape told before t p e (Lost count) m holds = turns-lost t (deed_node e.deed) m
turns-after shape told before t p e (Joined inc) m holds = turns-joined t inc (deed_node e.deed) m holds
turns-after shape told before t p e _ m holds = omega arith

-- each is an entry of its own
turns_few : (shape : Shape) (told : Bool) (history : List Entry) (m : ℕ) → IsLegal shape told history → turns (table_of shape history).nodes m ≤ length history
turns_few shape told history m legal =
    onwards shape told (λ h. turns (table_of shape h).nodes m ≤ length h) (λ h e was next few.
    let more : turns (after shape (table_of shape h) e).nodes m ≤ turns (table_of shape h).nodes m + 1 =
    turns-after shape told h (table_of shape h) (table_at shape h e.line.point) e e.line.act m next.holds in
    let same : turns (table_of shape (h ++ e ∷ [])).nodes m ≡ turns (after shape (table_of shape h) e).nodes m = ap (λ (t : PlainTable). turns t.nodes m) (one_more shape h e) in
    omega (arith, same, more, few, length-append h (e ∷ [])))
    [] history legal (let none : turns (replicate shape.nodes (record { up = true; inc = 0 })) m ≡ 0 = turns-start shape.nodes m in omega (arith, none))

turns-down : (nodes : List Node) (m : ℕ) → option_map_or (λ x. not x.up) (slice_get nodes m) false ≡ true → turns nodes m ≡ inc_at nodes m + 1
turns-down nodes m down = one (slice_get nodes m) down where
  one : (o : Option Node) → option_map_or (λ x. not x.up) o false ≡ true → option_map_or (λ x. x.inc + cond x.up 0 1) o 0 ≡ option_map_or (λ x. x.inc) o 0 + 1
  one None is = cc
  one (Some x) is = by_state x.up is where
    by_state : (up : Bool) → not up ≡ true → x.inc + cond up 0 1 ≡ x.inc + 1
    by_state true is = cc
    by_state false is = refl

pub joins_few : (shape : Shape) (told : Bool) (c : CatalogState) (history : List Entry) (m : ℕ) → IsLegal shape told history → IsOutline shape told c history → is_down (plain c) m ≡ true
    → inc_of (plain c) m + 1 ≤ length history
joins_few shape told c history m legal is down =
    let once_more : turns (plain c).nodes m ≡ inc_of (plain c) m + 1 = turns-down (plain c).nodes m down in
    let same : turns (plain c).nodes m ≡ turns (table_of shape history).nodes m = ap (λ (ns : List Node). turns ns m) is.nodes in
    omega (arith, once_more, same, turns_few shape told history m legal)
