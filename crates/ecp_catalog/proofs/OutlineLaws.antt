-- An outline stays one through entries that store nothing, and its answers are the table's.
use Rattle.std.proofs.Common.{◌≡◌, ℕ, ◌+◌, ◌<◌, ◌==◌, Bool, true, false, cond, List, [], ◌∷◌, ◌++◌, length, map, set, slice_get, get_or, find, count_by, sum_by, is_some, Option, Some, None, refl, sym, ◌∙◌, ap, subst, arith, inl, inr, append-nil}
use Rattle.std.specs.Prelude.{drop, All, nat_le}
use Rattle.std.specs.List.{position_from}
use Rattle.std.specs.Option.{option_map, option_map_or}
use Rattle.std.proofs.lemmas.Bool.{false≢true, cases_eq, eqb-true, eq-eqb, ne_eqb}
use Rattle.std.proofs.lemmas.Bool.Decides.{nat_tests}
use Rattle.std.proofs.lemmas.Option.{slice_get-get_or}
use Rattle.std.proofs.lemmas.List.Sums.{fold-append, sum_by-cons}
use Rattle.ecp_shape.specs.declared.shape.Shape.{Shape}
use Rattle.ecp_code.specs.Rows.{row}
use Rattle.ecp_node.specs.Receipts.{ReceiptState}
use Rattle.ecp_entry.specs.declared.act.Act.{Act}
use Rattle.ecp_entry.specs.declared.act.Act.TheVariants.{Stored, Lost, Joined, Restored, Drop}
use Rattle.ecp_entry.specs.declared.deed.Deed.{Deed}
use Rattle.ecp_entry.specs.declared.entry.Entry.{Entry}
use Rattle.ecp_entry.specs.Entries.{deed_node, loss_of, lost_node, is_loss, is_number}
use Rattle.ecp_history.specs.Fronts.{AreOfBlock}
use Rattle.ecp_history.specs.declared.table.node.Node.{Node}
use Rattle.ecp_history.specs.declared.table.standing.Standing.{Standing}
use Rattle.ecp_history.specs.table.Tables.{Stripe, PlainTable, start, stripe_of, data_of, live_on, stands_live}
use Rattle.ecp_history.specs.table.Steps.{with_rows, without_node, lost, after_act, after, table_of}
use Rattle.ecp_history.proofs.LossLaws.{stays_lost}
use Rattle.ecp_catalog.specs.Standing.{FileSeen, standing, is_up_in}
use Rattle.ecp_catalog.specs.Catalogs.{NodeSeen, CatalogState, new_node, empty, changed_at, lost_at, with_spare, live_of, losses_of, receipts_of, first_loss}
use Rattle.ecp_catalog.specs.Outline.{loss_positions, IsReceiptOf, IsOutlineOf, IsOutline, changes}
use Rattle.ecp_catalog.proofs.NodeLaws.{map-new, at-new, map-changed_at, at-changed_at, at-changed_same, at-changed_other, length-changed_at, map-lost_at, inc_at, inc-set, up_in-set}
use Rattle.ecp_catalog.proofs.LossLaws.{places-more, places-below, first_place}

-- ---- the start

pub at_start : (shape : Shape) (told : Bool) → IsOutline shape told (empty shape) []
at_start shape told = record {
  sizes = refl;
  files = refl;
  nodes = map-new shape.nodes;
  stripes = λ s. refl;
  rows = λ s. refl;
  receipts = λ s r x is. cc;
  past = λ s r x is. cc;
  live = λ m h. at-new (λ x. x.live) 0 refl shape.nodes m;
  losses = λ m h. at-new (λ x. x.losses) [] refl shape.nodes m;
}

-- ---- parts of a catalog

-- a catalog of these parts
abbrev made : Shape → List FileSeen → List NodeSeen → List (List ℕ) → ℕ → CatalogState
made shape files nodes names room = record { shape = shape; files = files; nodes = nodes; names = names; room = room }

-- names and room are no part of an outline
other_room : (shape : Shape) (told : Bool) (t : PlainTable) (lost : ℕ → List ℕ) (s : Shape) (files : List FileSeen) (nodes : List NodeSeen) (names more : List (List ℕ)) (room other : ℕ)
    → IsOutlineOf shape told (made s files nodes names room) t lost → IsOutlineOf shape told (made s files nodes more other) t lost
other_room shape told t lost s files nodes names more room other is = record {
  sizes = is.sizes;
  files = is.files;
  nodes = is.nodes;
  stripes = is.stripes;
  rows = is.rows;
  receipts = is.receipts;
  past = is.past;
  live = is.live;
  losses = is.losses;
}

pub same_parts : (shape : Shape) (told : Bool) (t : PlainTable) (lost : ℕ → List ℕ) (old new : CatalogState) → IsOutlineOf shape told old t lost
    → new.shape ≡ old.shape → new.files ≡ old.files → new.nodes ≡ old.nodes → IsOutlineOf shape told new t lost
same_parts shape told t lost old new is sizes files nodes =
    let a : IsOutlineOf shape told (made old.shape old.files old.nodes new.names new.room) t lost =
    other_room shape told t lost old.shape old.files old.nodes old.names new.names old.room new.room is in
    subst (λ (s : Shape). IsOutlineOf shape told (made s new.files new.nodes new.names new.room) t lost) (sym sizes)
    (subst (λ (fs : List FileSeen). IsOutlineOf shape told (made old.shape fs new.nodes new.names new.room) t lost) (sym files)
    (subst (λ (ns : List NodeSeen). IsOutlineOf shape told (made old.shape old.files ns new.names new.room) t lost) (sym nodes) a))

-- nodes that stand alike
pub other_nodes : (shape : Shape) (told : Bool) (t : PlainTable) (lost : ℕ → List ℕ) (c : CatalogState) (nodes : List NodeSeen) → IsOutlineOf shape told c t lost
    → map (λ x. x.node) nodes ≡ map (λ x. x.node) c.nodes → length nodes ≡ length c.nodes
    → ((m : ℕ) → live_of nodes m ≡ live_of c.nodes m) → ((m : ℕ) → losses_of nodes m ≡ losses_of c.nodes m)
    → IsOutlineOf shape told (record c { nodes = nodes }) t lost
other_nodes shape told t lost c nodes is plain_nodes size live losses = record {
  sizes = is.sizes;
  files = is.files;
  nodes = plain_nodes ∙ is.nodes;
  stripes = is.stripes;
  rows = λ s. ap (λ (ns : List Node). map (standing ns) (receipts_of c s)) plain_nodes ∙ is.rows s;
  receipts = is.receipts;
  past = is.past;
  live = λ m h. live m ∙ is.live m (subst (λ (n : ℕ). m < n) size h);
  losses = λ m h. losses m ∙ is.losses m (subst (λ (n : ℕ). m < n) size h);
}

pub other_spare : (shape : Shape) (told : Bool) (c : CatalogState) (history : List Entry) (m hands : ℕ) → IsOutline shape told c history
    → IsOutline shape told (record c { nodes = changed_at (with_spare hands) m c.nodes }) history
other_spare shape told c history m hands is =
    other_nodes shape told (table_of shape history) (λ i. loss_positions i history) c (changed_at (with_spare hands) m c.nodes) is
    (map-changed_at (with_spare hands) (λ x. refl) m c.nodes) (length-changed_at (with_spare hands) m c.nodes)
    (λ i. at-changed_at (λ x. x.live) 0 (with_spare hands) (λ x. refl) m i c.nodes)
    (λ i. at-changed_at (λ x. x.losses) [] (with_spare hands) (λ x. refl) m i c.nodes)

-- ---- entries that change nothing

pub one_more : (shape : Shape) (history : List Entry) (e : Entry) → table_of shape (history ++ e ∷ []) ≡ after shape (table_of shape history) e
one_more shape history e = fold-append (after shape) (start shape) history (e ∷ [])

same_after : (shape : Shape) (t : PlainTable) (e : Entry) (act : Act) → changes act ≡ false → after_act shape t e act ≡ t
same_after shape t e (Stored first stripes up) same = absurd (false≢true (sym same))
same_after shape t e (Lost count) same = absurd (false≢true (sym same))
same_after shape t e (Joined inc) same = absurd (false≢true (sym same))
same_after shape t e (Restored stripe row node inc) same = absurd (false≢true (sym same))
same_after shape t e (Drop stripe row) same = absurd (false≢true (sym same))
same_after shape t e _ same = refl

none_lost : (act : Act) (deed : Option Deed) → changes act ≡ false → lost_node act deed ≡ None
none_lost (Lost count) deed same = absurd (false≢true (sym same))
none_lost _ deed same = refl

-- an entry that loses no node adds no position
pub no_position : (m : ℕ) (history : List Entry) (e : Entry) → loss_of e ≡ None → loss_positions m (history ++ e ∷ []) ≡ loss_positions m history
no_position m history e none =
    places-more (is_loss m) 0 history e
    ∙ ap (λ (o : Option ℕ). loss_positions m history ++ cond (is_number o m) ((0 + length history) ∷ []) []) none
    ∙ append-nil (loss_positions m history)

-- what is outlined is outlined where the table and the positions are the same
pub onto : (shape : Shape) (told : Bool) (c : CatalogState) (t u : PlainTable) (lost more : ℕ → List ℕ) → IsOutlineOf shape told c t lost → u ≡ t
    → ((m : ℕ) → more m ≡ lost m) → IsOutlineOf shape told c u more
onto shape told c t u lost more is table positions =
    let here : IsOutlineOf shape told c u lost = subst (λ (v : PlainTable). IsOutlineOf shape told c v lost) (sym table) is in
    record {
      sizes = here.sizes;
      files = here.files;
      nodes = here.nodes;
      stripes = here.stripes;
      rows = here.rows;
      receipts = here.receipts;
      past = here.past;
      live = here.live;
      losses = λ m h. here.losses m h ∙ sym (positions m);
    }

pub unchanged : (shape : Shape) (told : Bool) (c : CatalogState) (history : List Entry) (e : Entry) → IsOutline shape told c history → changes e.line.act ≡ false
    → IsOutline shape told c (history ++ e ∷ [])
unchanged shape told c history e is same =
    onto shape told c (table_of shape history) (table_of shape (history ++ e ∷ [])) (λ m. loss_positions m history) (λ m. loss_positions m (history ++ e ∷ [])) is
    (one_more shape history e ∙ same_after shape (table_of shape history) e e.line.act same)
    (λ m. no_position m history e (none_lost e.line.act e.deed same))

-- ---- a loss

-- a stripe, with its rows changed
abbrev pub changed : (Stripe → List Standing) → Stripe → Stripe
changed change x = record { number = x.number; blocks = x.blocks; rows = change x }

pub find-with_rows : (change : Stripe → List Standing) (s : ℕ) (xs : List Stripe)
    → find (λ x. x.number == s) (with_rows change xs) ≡ option_map (changed change) (find (λ x. x.number == s) xs)
find-with_rows change s [] = refl
find-with_rows change s (x ∷ xs) = one (x.number == s) (find-with_rows change s xs) where
  one : (b : Bool) → find (λ z. z.number == s) (with_rows change xs) ≡ option_map (changed change) (find (λ z. z.number == s) xs)
      → cond b (Some (record { number = x.number; blocks = x.blocks; rows = change x })) (find (λ z. z.number == s) (with_rows change xs))
      ≡ option_map (changed change) (cond b (Some x) (find (λ z. z.number == s) xs))
  one true more = refl
  one false more = more

module _ (change : Stripe → List Standing) where
  -- what a look-up of a stripe gives where its rows are changed
  pub there : (o : Option Stripe) → is_some (option_map (changed change) o) ≡ is_some o
  there None = refl
  there (Some x) = refl

  pub blocks : (o : Option Stripe) → option_map_or (λ (x : Stripe). x.blocks) (option_map (changed change) o) [] ≡ option_map_or (λ x. x.blocks) o []
  blocks None = refl
  blocks (Some x) = refl

-- bytes of a block are those of the same block in a table where it has the same data
pub same_bytes : (shape : Shape) (told : Bool) (t u : PlainTable) (s r : ℕ) (bytes : List ℕ) → data_of u s ≡ data_of t s → AreOfBlock shape told t s r bytes → AreOfBlock shape told u s r bytes
same_bytes shape true t u s r bytes same is = is ∙ ap (λ (d : List (List ℕ)). row d r) (sym same)
same_bytes shape false t u s r bytes same is = is

pub same_receipt : (shape : Shape) (told : Bool) (t u : PlainTable) (s r : ℕ) (x : ReceiptState) → data_of u s ≡ data_of t s → IsReceiptOf shape told t s r x → IsReceiptOf shape told u s r x
same_receipt shape told t u s r x same is = record { of_stripe = is.of_stripe; of_row = is.of_row; bytes = same_bytes shape told t u s r x.bytes same is.bytes }

-- the rows of a stripe, where a node is lost
rows-lost : (m : ℕ) (o : Option Stripe) → option_map_or (λ (x : Stripe). x.rows) (option_map (changed (λ x. map (without_node m) x.rows)) o) [] ≡ map (without_node m) (option_map_or (λ x. x.rows) o [])
rows-lost m None = refl
rows-lost m (Some x) = refl

-- a row that stands so
abbrev stood : ℕ → Bool → Standing
stood node live = record { node = node; live = live }

-- a row stands as in the table that lost the node
stands-lost : (m : ℕ) (d : Node) (nodes : List Node) (x : ReceiptState) → d.up ≡ false → standing (set nodes m d) x ≡ without_node m (standing nodes x)
stands-lost m d nodes x down = stand (up_in-set x.inc nodes m x.node d down) where
  either : (b : Bool) (up : Bool) → stood x.node (cond b false up) ≡ cond b (stood x.node false) (stood x.node up)
  either true up = refl
  either false up = refl

  stand : option_map_or (is_up_in x.inc) (slice_get (set nodes m d) x.node) false ≡ cond (x.node == m) false (option_map_or (is_up_in x.inc) (slice_get nodes x.node) false)
      → standing (set nodes m d) x ≡ without_node m (standing nodes x)
  stand is = ap (stood x.node) is ∙ either (x.node == m) (option_map_or (is_up_in x.inc) (slice_get nodes x.node) false)

all-stand : (m : ℕ) (d : Node) (nodes : List Node) (xs : List ReceiptState) → d.up ≡ false → map (standing (set nodes m d)) xs ≡ map (without_node m) (map (standing nodes) xs)
all-stand m d nodes [] down = refl
all-stand m d nodes (x ∷ xs) down =
    ap (λ (y : Standing). y ∷ map (standing (set nodes m d)) xs) (stands-lost m d nodes x down)
    ∙ ap (λ (ys : List Standing). without_node m (standing nodes x) ∷ ys) (all-stand m d nodes xs down)

-- the live blocks of another node
other_stays : (m i : ℕ) (x : Standing) → (i ≡ m → ⊥) → stands_live i (without_node m x) ≡ stands_live i x
other_stays m i x other = either (x.node == m) x.live refl where
  off : x.node == m ≡ true → x.node == i ≡ false
  off is =
      let same : x.node ≡ m = eqb-true x.node m is in
      grind (arith, nat_tests)

  either : (b live : Bool) → x.node == m ≡ b → stands_live i (cond b (record { node = x.node; live = false }) (record { node = x.node; live = live })) ≡ stands_live i (record { node = x.node; live = live })
  either true true is = sym (off is)
  either true false is = refl
  either false live is = refl

count-lost : (m i : ℕ) (xs : List Standing) → (i ≡ m → ⊥) → count_by (stands_live i) (map (without_node m) xs) ≡ count_by (stands_live i) xs
count-lost m i [] other = refl
count-lost m i (x ∷ xs) other =
    sum_by-cons (λ (y : Standing). cond (stands_live i y) 1 0) (without_node m x) (map (without_node m) xs)
    ∙ ap (λ (b : Bool). cond b 1 0 + count_by (stands_live i) (map (without_node m) xs)) (other_stays m i x other)
    ∙ ap (λ (n : ℕ). cond (stands_live i x) 1 0 + n) (count-lost m i xs other)
    ∙ sym (sum_by-cons (λ (y : Standing). cond (stands_live i y) 1 0) x xs)

live_on-lost : (m i : ℕ) (xs : List Stripe) → (i ≡ m → ⊥)
    → sum_by (λ x. count_by (stands_live i) x.rows) (with_rows (λ x. map (without_node m) x.rows) xs) ≡ sum_by (λ x. count_by (stands_live i) x.rows) xs
live_on-lost m i [] other = refl
live_on-lost m i (x ∷ xs) other =
    sum_by-cons (λ (y : Stripe). count_by (stands_live i) y.rows) (record { number = x.number; blocks = x.blocks; rows = map (without_node m) x.rows }) (with_rows (λ y. map (without_node m) y.rows) xs)
    ∙ ap (λ (n : ℕ). n + sum_by (λ y. count_by (stands_live i) y.rows) (with_rows (λ y. map (without_node m) y.rows) xs)) (count-lost m i x.rows other)
    ∙ ap (λ (n : ℕ). count_by (stands_live i) x.rows + n) (live_on-lost m i xs other)
    ∙ sym (sum_by-cons (λ (y : Stripe). count_by (stands_live i) y.rows) x xs)

-- which entries are losses
is_lost : (act : Act) (deed : Option Deed) (m : ℕ) → lost_node act deed ≡ Some m → (shape : Shape) (t : PlainTable) (e : Entry) → e.deed ≡ deed → after_act shape t e act ≡ lost t m
is_lost (Lost count) deed m is shape t e of_deed = ap (λ (o : Option ℕ). option_map_or (lost t) o t) (ap deed_node of_deed ∙ is)
is_lost _ deed m is shape t e of_deed = cc

-- one position more, for the node that is lost
lost_position : (m i : ℕ) (history : List Entry) (e : Entry) → loss_of e ≡ Some m
    → loss_positions i (history ++ e ∷ []) ≡ loss_positions i history ++ cond (m == i) (length history ∷ []) []
lost_position m i history e is =
    let none : 0 + length history ≡ length history = omega arith in
    places-more (is_loss i) 0 history e
    ∙ ap (λ (o : Option ℕ). loss_positions i history ++ cond (is_number o i) ((0 + length history) ∷ []) []) is
    ∙ ap (λ (n : ℕ). loss_positions i history ++ cond (m == i) (n ∷ []) []) none

pub lost_outline : (shape : Shape) (told : Bool) (c : CatalogState) (history : List Entry) (e : Entry) (m : ℕ) → IsOutline shape told c history → loss_of e ≡ Some m
    → IsOutline shape told (record c { nodes = changed_at (lost_at (length history)) m c.nodes }) (history ++ e ∷ [])
lost_outline shape told c history e m is loses =
    let t : PlainTable = table_of shape history in
    let p : ℕ = length history in
    let old : List Node = map (λ x. x.node) c.nodes in
    let nodes : List NodeSeen = changed_at (lost_at p) m c.nodes in
    let change : Stripe → List Standing = λ x. map (without_node m) x.rows in
    let d : Node = record { up = false; inc = option_map_or (λ y. y.inc) (slice_get old m) 0 } in
    let lost_one : Node = record { up = false; inc = inc_at t.nodes m } in
    let size : length nodes ≡ length c.nodes = length-changed_at (lost_at p) m c.nodes in
    let table : table_of shape (history ++ e ∷ []) ≡ lost t m = one_more shape history e ∙ is_lost e.line.act e.deed m loses shape t e refl in
    let found : (s : ℕ) → find (λ x. x.number == s) (with_rows change t.stripes) ≡ option_map (changed change) (stripe_of t s) =
    λ s. find-with_rows change s t.stripes in
    let position : (i : ℕ) → loss_positions i (history ++ e ∷ []) ≡ loss_positions i history ++ cond (m == i) (p ∷ []) [] = λ i. lost_position m i history e loses in
    onto shape told (record c { nodes = nodes }) (lost t m) (table_of shape (history ++ e ∷ [])) (λ i. loss_positions i (history ++ e ∷ [])) (λ i. loss_positions i (history ++ e ∷ []))
    (record {
      sizes = is.sizes;
      files = is.files;
      nodes = map-lost_at p m c.nodes ∙ ap (λ (ns : List Node). set ns m (record { up = false; inc = option_map_or (λ y. y.inc) (slice_get ns m) 0 })) is.nodes;
      stripes = λ s. is.stripes s ∙ sym (ap (λ (o : Option Stripe). is_some o) (found s) ∙ there change (stripe_of t s));
      rows = λ s.
          ap (λ (ns : List Node). map (standing ns) (receipts_of c s)) (map-lost_at p m c.nodes) ∙ all-stand m d old (receipts_of c s) refl
          ∙ ap (map (without_node m)) (is.rows s) ∙ sym (ap (λ (o : Option Stripe). option_map_or (λ x. x.rows) o []) (found s) ∙ rows-lost m (stripe_of t s));
      receipts = λ s r x h.
          same_receipt shape told t (lost t m) s r x (ap (λ (o : Option Stripe). option_map_or (λ x. x.blocks) o []) (found s) ∙ blocks change (stripe_of t s)) (is.receipts s r x h);
      past = λ s r x h. omega (arith, is.past s r x h, inc-set t.nodes m x.node lost_one (omega arith));
      live = λ i h. elim (cases_eq i m) [
        | inl same ↦
            let here : m < length c.nodes = omega (arith, h, size, same) in
            subst (λ (j : ℕ). live_of nodes j ≡ live_on (lost t m) j) (sym same)
            (at-changed_same (λ x. x.live) 0 (lost_at p) m c.nodes here (get_or c.nodes m new_node) (slice_get-get_or c.nodes m new_node here)
            ∙ sym (ap (λ (u : PlainTable). live_on u m) (sym table) ∙ stays_lost shape history [] e m loses refl))
        | inr other ↦
            at-changed_other (λ x. x.live) 0 (lost_at p) m i c.nodes other ∙ is.live i (subst (λ (n : ℕ). i < n) size h) ∙ sym (live_on-lost m i t.stripes other)
      ];
      losses = λ i h. elim (cases_eq i m) [
        | inl same ↦
            let here : m < length c.nodes = omega (arith, h, size, same) in
            let y : NodeSeen = get_or c.nodes m new_node in
            let at : slice_get c.nodes m ≡ Some y = slice_get-get_or c.nodes m new_node here in
            let own : m == m ≡ true = eq-eqb m m refl in
            subst (λ (j : ℕ). losses_of nodes j ≡ loss_positions j (history ++ e ∷ [])) (sym same)
            (at-changed_same (λ x. x.losses) [] (lost_at p) m c.nodes here y at
            ∙ ap (λ (ps : List ℕ). ps ++ p ∷ []) (sym (ap (λ (o : Option NodeSeen). option_map_or (λ x. x.losses) o []) at) ∙ is.losses m here)
            ∙ sym (position m ∙ ap (λ (b : Bool). loss_positions m history ++ cond b (p ∷ []) []) own))
        | inr other ↦
            let apart : m == i ≡ false = ne_eqb m i (λ same. other (sym same)) in
            at-changed_other (λ x. x.losses) [] (lost_at p) m i c.nodes other ∙ is.losses i (subst (λ (n : ℕ). i < n) size h)
            ∙ sym (position i ∙ ap (λ (b : Bool). loss_positions i history ++ cond b (p ∷ []) []) apart ∙ append-nil (loss_positions i history))
      ];
    })
    table (λ i. refl)

pub losses_behind : (shape : Shape) (told : Bool) (c : CatalogState) (history : List Entry) (m : ℕ) → IsOutline shape told c history → m < length c.nodes
    → All (λ p. p < length history) (losses_of c.nodes m)
losses_behind shape told c history m is h =
    subst (All (λ p. p < length history)) (sym (is.losses m h)) (places-below (is_loss m) history)

-- ---- what an outline answers

pub first_losses : (shape : Shape) (told : Bool) (c : CatalogState) (history : List Entry) (m point : ℕ) → IsOutline shape told c history → m < length c.nodes
    → first_loss c.nodes point m ≡ position_from (is_loss m) point (drop point history)
first_losses shape told c history m point is h = ap (find (nat_le point)) (is.losses m h) ∙ first_place (is_loss m) point history
