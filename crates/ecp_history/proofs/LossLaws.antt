-- The blocks of a lost node stay lost until something brings a block to it.
use Rattle.std.proofs.Common.{◌≡◌, ℕ, zero, suc, ◌==◌, Bool, true, false, cond, List, [], ◌∷◌, ◌++◌, map, Option, Some, None, refl, sym, ◌∙◌}
use Rattle.std.specs.Prelude.{count_by, sum_by, fold, ⊤}
use Rattle.std.specs.Option.{option_map_or}
use Rattle.std.specs.List.{list_any}
use Rattle.std.proofs.lemmas.Bool.{false≢true, or_parts}
use Rattle.std.proofs.lemmas.List.Sums.{fold-append, sum_by-cons}
use Rattle.ecp_entry.specs.declared.act.Act.{Act}
use Rattle.ecp_entry.specs.declared.act.Act.TheVariants.{Stored, Lost, Joined, Restored, Drop}
use Rattle.ecp_entry.specs.declared.entry.Entry.{Entry}
use Rattle.ecp_shape.specs.declared.shape.Shape.{Shape}
use Rattle.ecp_entry.specs.Entries.{deed_node, loss_of, lost_node, brings}
use Rattle.ecp_history.specs.table.Tables.{Standing, Stripe, PlainTable, start, stands_live, live_on}
use Rattle.ecp_history.specs.table.Steps.{with_rows, without_node, lost, joined, with_block, change_row, after_act, after, table_of}

-- no row of these is live on the node
abbrev pub NoneLive : ℕ → List Standing → Type 0
NoneLive m [] = ⊤
NoneLive m (x ∷ xs) = (stands_live m x ≡ false) × NoneLive m xs

-- no row of these stripes is live on the node
abbrev pub NoBlocks : ℕ → List Stripe → Type 0
NoBlocks m [] = ⊤
NoBlocks m (x ∷ xs) = NoneLive m x.rows × NoBlocks m xs

count_none : (m : ℕ) (xs : List Standing) → NoneLive m xs → count_by (stands_live m) xs ≡ 0
count_none m [] none = refl
count_none m (x ∷ xs) none = sum_by-cons (λ y. cond (stands_live m y) 1 0) x xs ∙ rw (none.0, count_none m xs none.1) refl

-- then nothing is counted on it
pub live_on-none : (m : ℕ) (xs : List Stripe) → NoBlocks m xs → sum_by (λ x. count_by (stands_live m) x.rows) xs ≡ 0
live_on-none m [] none = refl
live_on-none m (x ∷ xs) none = sum_by-cons (λ y. count_by (stands_live m) y.rows) x xs ∙ rw (count_none m x.rows none.0, live_on-none m xs none.1) refl

-- rows that are changed so that none comes to be live there
map_off : (m : ℕ) (change : Standing → Standing) → ((x : Standing) → stands_live m x ≡ false → stands_live m (change x) ≡ false) → (xs : List Standing) → NoneLive m xs → NoneLive m (map change xs)
map_off m change off [] none = tt
map_off m change off (x ∷ xs) none = (off x none.0, map_off m change off xs none.1)

change_off : (m : ℕ) (change : Standing → Standing) → ((x : Standing) → stands_live m x ≡ false → stands_live m (change x) ≡ false) → (r : ℕ) (xs : List Standing) → NoneLive m xs → NoneLive m (change_row change r xs)
change_off m change off r [] none = tt
change_off m change off zero (x ∷ xs) none = (off x none.0, none.1)
change_off m change off (suc r) (x ∷ xs) none = (none.0, change_off m change off r xs none.1)

with_rows_off : (m : ℕ) (change : Stripe → List Standing) → ((x : Stripe) → NoneLive m x.rows → NoneLive m (change x)) → (xs : List Stripe) → NoBlocks m xs → NoBlocks m (with_rows change xs)
with_rows_off m change off [] none = tt
with_rows_off m change off (x ∷ xs) none = (off x none.0, with_rows_off m change off xs none.1)

-- a row that is lost where it stands on a node is not live there
lost_off : (m : ℕ) (x : Standing) → stands_live m (without_node m x) ≡ false
lost_off m x = either (x.node == m) x.live refl where
  either : (b live : Bool) → x.node == m ≡ b → stands_live m (cond b (record { node = x.node; live = false }) (record { node = x.node; live = live })) ≡ false
  either true live is = refl
  either false true is = is
  either false false is = refl

map_lost : (m : ℕ) (xs : List Standing) → NoneLive m (map (without_node m) xs)
map_lost m [] = tt
map_lost m (x ∷ xs) = (lost_off m x, map_lost m xs)

all_lost : (m : ℕ) (xs : List Stripe) → NoBlocks m (with_rows (λ x. map (without_node m) x.rows) xs)
all_lost m [] = tt
all_lost m (x ∷ xs) = (map_lost m x.rows, all_lost m xs)

-- a loss of another node brings nothing
other_lost : (m other : ℕ) (x : Standing) → stands_live m x ≡ false → stands_live m (without_node other x) ≡ false
other_lost m other x off = either (x.node == other) where
  either : (b : Bool) → stands_live m (cond b (record { node = x.node; live = false }) x) ≡ false
  either true = refl
  either false = off

lost_keeps : (m : ℕ) (t : PlainTable) (node : Option ℕ) → NoBlocks m t.stripes → NoBlocks m (option_map_or (lost t) node t).stripes
lost_keeps m t None none = none
lost_keeps m t (Some other) none = with_rows_off m (λ x. map (without_node other) x.rows) (λ x off. map_off m (without_node other) (other_lost m other) x.rows off) t.stripes none

joined_keeps : (m inc : ℕ) (t : PlainTable) (node : Option ℕ) → NoBlocks m t.stripes → NoBlocks m (option_map_or (λ k. joined t k inc) node t).stripes
joined_keeps m inc t None none = none
joined_keeps m inc t (Some other) none = none

block_keeps : (m : ℕ) (t : PlainTable) (s r : ℕ) (change : Standing → Standing) → ((x : Standing) → stands_live m x ≡ false → stands_live m (change x) ≡ false) → NoBlocks m t.stripes → NoBlocks m (with_block t s r change).stripes
block_keeps m t s r change off none = with_rows_off m (λ x. cond (x.number == s) (change_row change r x.rows) x.rows) one t.stripes none where
  either : (b : Bool) (x : Stripe) → NoneLive m x.rows → NoneLive m (cond b (change_row change r x.rows) x.rows)
  either true x rows = change_off m change off r x.rows rows
  either false x rows = rows

  one : (x : Stripe) → NoneLive m x.rows → NoneLive m (cond (x.number == s) (change_row change r x.rows) x.rows)
  one x rows = either (x.number == s) x rows

-- an entry that brings no block to the node leaves it without
pub keeps_none : (shape : Shape) (m : ℕ) (t : PlainTable) (e : Entry) (act : Act) → brings m act ≡ false → NoBlocks m t.stripes → NoBlocks m (after_act shape t e act).stripes
keeps_none shape m t e (Stored first stripes up) off none = absurd (false≢true (sym off))
keeps_none shape m t e (Lost count) off none = lost_keeps m t (deed_node e.deed) none
keeps_none shape m t e (Joined inc) off none = joined_keeps m inc t (deed_node e.deed) none
keeps_none shape m t e (Restored stripe row node inc) off none = block_keeps m t stripe row (λ _. record { node = node; live = true }) (λ x h. off) none
keeps_none shape m t e (Drop stripe row) off none = block_keeps m t stripe row (λ x. record { node = x.node; live = false }) (λ x h. refl) none
keeps_none shape m t e _ off none = none

pub all_keep_none : (shape : Shape) (m : ℕ) (t : PlainTable) (more : List Entry) → list_any (λ x. brings m x.line.act) more ≡ false → NoBlocks m t.stripes → NoBlocks m (fold (after shape) t more).stripes
all_keep_none shape m t [] off none = none
all_keep_none shape m t (e ∷ more) off none =
    let parts : (brings m e.line.act ≡ false) × (list_any (λ x. brings m x.line.act) more ≡ false) = or_parts (brings m e.line.act) (list_any (λ x. brings m x.line.act) more) off in
    all_keep_none shape m (after shape t e) more parts.1 (keeps_none shape m t e e.line.act parts.0 none)

-- a loss leaves nothing on its node
loses_all : (shape : Shape) (m : ℕ) (t : PlainTable) (e : Entry) (act : Act) → lost_node act e.deed ≡ Some m → NoBlocks m (after_act shape t e act).stripes
loses_all shape m t e (Lost count) is = rw is (all_lost m t.stripes)
loses_all shape m t e _ is = cc

pub stays_lost : (shape : Shape) (history more : List Entry) (e : Entry) (m : ℕ) → loss_of e ≡ Some m → list_any (λ x. brings m x.line.act) more ≡ false
    → live_on (table_of shape (history ++ e ∷ more)) m ≡ 0
stays_lost shape history more e m is off =
    rw (fold-append (after shape) (start shape) history (e ∷ more))
    (live_on-none m (fold (after shape) (after shape (table_of shape history) e) more).stripes
    (all_keep_none shape m (after shape (table_of shape history) e) more off (loses_all shape m (table_of shape history) e e.line.act is)))
