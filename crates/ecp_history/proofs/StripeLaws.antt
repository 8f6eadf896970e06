-- A stripe's data are the same in every later table.
use Rattle.std.proofs.Common.{◌≡◌, ℕ, ◌+◌, ◌<◌, ◌≤◌, ◌⊎◌, ◌==◌, Bool, true, false, cond, ◌||◌, ◌&&◌, take, fold, List, [], ◌∷◌, ◌++◌, length, map, Option, Some, None, refl, sym, ◌∙◌, ap, subst, inl, inr, arith, IsSome, is_some}
use Rattle.std.specs.Prelude.{find, nat_lt, nat_le, option_map, ⊤, unwrap_or}
use Rattle.std.proofs.lemmas.Bool.Decides.{nat_tests}
use Rattle.std.proofs.lemmas.Bool.{eqb-true, cases_lt, false≢true}
use Rattle.std.specs.Option.{option_map_or}
use Rattle.std.specs.List.{list_any}
use Rattle.std.proofs.lemmas.List.Folds.{list_any-append}
use Rattle.std.proofs.lemmas.List.Sums.{fold-append}
use Rattle.ecp_code.specs.Stripes.{stripes}
use Rattle.ecp_entry.specs.declared.act.Act.{Act}
use Rattle.ecp_entry.specs.declared.act.Act.TheVariants.{Stored, Lost, Joined, Restored, Drop}
use Rattle.ecp_entry.specs.declared.entry.Entry.{Entry}
use Rattle.ecp_shape.specs.declared.shape.Shape.{Shape}
use Rattle.ecp_entry.specs.Entries.{deed_node}
use Rattle.ecp_history.specs.table.Tables.{Standing, Stripe, PlainTable, stripe_of, data_of, start}
use Rattle.ecp_history.specs.table.Placement.{nodes_in}
use Rattle.ecp_history.specs.table.Steps.{placed, rows_among, stripes_among, with_rows, without_node, lost, joined, with_block, change_row, after_act, after, table_of}
use Rattle.ecp_history.specs.Acts.{has_stripe, HoldsIn}
use Rattle.ecp_history.specs.Legal.{IsLegal}
use Rattle.ecp_history.proofs.LegalLaws.{onwards}

-- the data of the stripe with this number, if there is one
abbrev pub data_in : List Stripe → ℕ → Option (List (List ℕ))
data_in xs s = option_map (λ x. x.blocks) (find (λ x. x.number == s) xs)

map_cond : (b : Bool) (x : Stripe) (o : Option Stripe) → option_map (λ y. y.blocks) (cond b (Some x) o) ≡ cond b (Some x.blocks) (option_map (λ y. y.blocks) o)
map_cond true x o = refl
map_cond false x o = refl

-- how rows stand is no matter
pub data_in-with_rows : (change : Stripe → List Standing) (xs : List Stripe) (s : ℕ) → data_in (with_rows change xs) s ≡ data_in xs s
data_in-with_rows change [] s = refl
data_in-with_rows change (x ∷ xs) s =
    map_cond (x.number == s) (record { number = x.number; blocks = x.blocks; rows = change x }) (find (λ y. y.number == s) (with_rows change xs))
    ∙ ap (λ (o : Option (List (List ℕ))). cond (x.number == s) (Some x.blocks) o) (data_in-with_rows change xs s)
    ∙ sym (map_cond (x.number == s) x (find (λ y. y.number == s) xs))

-- a stripe that is put at its place leaves those of other numbers
place_one : (test : Stripe → Bool) (x y : Stripe) (ys : List Stripe) (less same : Bool) → test x ≡ false → (same ≡ true → test y ≡ false)
    → find test (placed ys x) ≡ find test ys
    → find test (cond less (x ∷ y ∷ ys) (cond same (x ∷ ys) (y ∷ placed ys x))) ≡ find test (y ∷ ys)
place_one test x y ys true same off gone more = rw off refl
place_one test x y ys false true off gone more = rw (off, gone refl) refl
place_one test x y ys false false off gone more = ap (λ (o : Option Stripe). cond (test y) (Some y) o) more

find-placed : (s : ℕ) (xs : List Stripe) (x : Stripe) → x.number == s ≡ false → find (λ y. y.number == s) (placed xs x) ≡ find (λ y. y.number == s) xs
find-placed s [] x off = rw off refl
find-placed s (y ∷ ys) x off =
    place_one (λ z. z.number == s) x y ys (nat_lt x.number y.number) (x.number == y.number) off
    (λ same. ap (λ (n : ℕ). n == s) (sym (eqb-true x.number y.number same)) ∙ off) (find-placed s ys x off)

-- new stripes take no place of others
find-put : (nodes : List ℕ) (n a : ℕ) (ds : List (List (List ℕ))) (xs : List Stripe) (s : ℕ) → (s < a) ⊎ (a + length ds ≤ s)
    → find (λ x. x.number == s) (fold placed xs (stripes_among nodes n a ds)) ≡ find (λ x. x.number == s) xs
find-put nodes n a [] xs s outside = refl
find-put nodes n a (d ∷ ds) xs s outside =
    let x : Stripe = record { number = a; blocks = d; rows = rows_among nodes n a } in
    let other : a == s ≡ false = grind (arith, nat_tests) in
    find-put nodes n (a + 1) ds (placed xs x) s (elim outside [ inl below ↦ inl (omega arith) | inr above ↦ inr (omega arith) ])
    ∙ find-placed s xs x other

-- an act stores no stripe of this number
abbrev pub LeavesStripe : Shape → Entry → ℕ → Act → Type 0
LeavesStripe shape e s (Stored first count up) = (s < first) ⊎ (first + length (stripes shape.k shape.block e.bytes) ≤ s)
LeavesStripe shape e s _ = ⊤

-- a loss or a join of a node that a deed may name leaves the data
data_in-lost : (t : PlainTable) (node : Option ℕ) (s : ℕ) → data_in (option_map_or (lost t) node t).stripes s ≡ data_in t.stripes s
data_in-lost t None s = refl
data_in-lost t (Some m) s = data_in-with_rows (λ x. map (without_node m) x.rows) t.stripes s

data_in-joined : (t : PlainTable) (inc : ℕ) (node : Option ℕ) (s : ℕ) → data_in (option_map_or (λ m. joined t m inc) node t).stripes s ≡ data_in t.stripes s
data_in-joined t inc None s = refl
data_in-joined t inc (Some m) s = refl

data_in-with_block : (t : PlainTable) (i r : ℕ) (change : Standing → Standing) (s : ℕ) → data_in (with_block t i r change).stripes s ≡ data_in t.stripes s
data_in-with_block t i r change s = data_in-with_rows (λ x. cond (x.number == i) (change_row change r x.rows) x.rows) t.stripes s

-- an act that stores no stripe of this number leaves its data
pub data_in-after : (shape : Shape) (t : PlainTable) (e : Entry) (s : ℕ) (act : Act) → LeavesStripe shape e s act → data_in (after_act shape t e act).stripes s ≡ data_in t.stripes s
data_in-after shape t e s (Stored first count up) leaves =
    ap (option_map (λ x. x.blocks)) (find-put (nodes_in up) shape.n first (stripes shape.k shape.block e.bytes) t.stripes s leaves)
data_in-after shape t e s (Lost count) leaves = data_in-lost t (deed_node e.deed) s
data_in-after shape t e s (Joined inc) leaves = data_in-joined t inc (deed_node e.deed) s
data_in-after shape t e s (Restored stripe row node inc) leaves = data_in-with_block t stripe row (λ _. record { node = node; live = true }) s
data_in-after shape t e s (Drop stripe row) leaves = data_in-with_block t stripe row (λ x. record { node = x.node; live = false }) s
data_in-after shape t e s _ leaves = refl

-- an entry that may follow stores no stripe of this number, or stores it for the first time
abbrev FirstOrNone : Shape → List Entry → Entry → ℕ → Act → Type 0
FirstOrNone shape h e s act = LeavesStripe shape e s act ⊎ ((has_stripe s act ≡ true) × (list_any (λ x. has_stripe s x.line.act) h ≡ false))

first_or_none : (shape : Shape) (told : Bool) (h : List Entry) (t p : PlainTable) (e : Entry) (s : ℕ) (act : Act) → HoldsIn shape told h t p e act → FirstOrNone shape h e s act
first_or_none shape told h t p e s (Stored first count up) holds =
    elim (cases_lt s first) [
      | inl below ↦ inl (inl below)
      | inr from ↦ elim (cases_lt s (first + count)) [
        | inl within ↦
            let both : (nat_le first s && nat_lt s (first + count)) ≡ true = grind (arith, nat_tests) in
            inr (both, holds.fresh s from within)
        | inr above ↦ inl (inr (subst (λ (n : ℕ). first + n ≤ s) holds.counted above))
      ]
    ]
first_or_none shape told h t p e s _ holds = inl tt

-- a stripe of the table was stored by an entry
pub stored_by : (shape : Shape) (told : Bool) (history : List Entry) (s : ℕ) → IsLegal shape told history
    → is_some (data_in (table_of shape history).stripes s) ≡ true → list_any (λ x. has_stripe s x.line.act) history ≡ true
stored_by shape told history s legal =
    let Known : List Entry → Type 0 = λ h. is_some (data_in (table_of shape h).stripes s) ≡ true → list_any (λ x. has_stripe s x.line.act) h ≡ true in
    onwards shape told Known (λ h e was next known there.
    let grown : list_any (λ x. has_stripe s x.line.act) (h ++ e ∷ []) ≡ (list_any (λ x. has_stripe s x.line.act) h || (has_stripe s e.line.act || false)) =
    list_any-append (λ x. has_stripe s x.line.act) h (e ∷ []) in
    elim (first_or_none shape told h (table_of shape h) (table_of shape (take e.line.point h)) e s e.line.act next.holds) [
      | inl leaves ↦
          let same : data_in (table_of shape (h ++ e ∷ [])).stripes s ≡ data_in (table_of shape h).stripes s =
          ap (λ (t : PlainTable). data_in t.stripes s) (fold-append (after shape) (start shape) h (e ∷ [])) ∙ data_in-after shape (table_of shape h) e s e.line.act leaves in
          let before : list_any (λ x. has_stripe s x.line.act) h ≡ true = known (sym (ap (λ (o : Option (List (List ℕ))). is_some o) same) ∙ there) in
          rw (grown, before) refl
      | inr new ↦ rw (grown, new.0, new.1) refl
    ]) [] history legal (λ none. absurd (false≢true none))

-- a stripe of a beginning of the history has the same data in the whole
pub data_in-stays : (shape : Shape) (told : Bool) (history more : List Entry) (s : ℕ) (blocks : List (List ℕ)) → IsLegal shape told (history ++ more)
    → data_in (table_of shape history).stripes s ≡ Some blocks → data_in (table_of shape (history ++ more)).stripes s ≡ Some blocks
data_in-stays shape told history more s blocks legal there =
    onwards shape told (λ h. data_in (table_of shape h).stripes s ≡ Some blocks) (λ h e was next has.
    elim (first_or_none shape told h (table_of shape h) (table_of shape (take e.line.point h)) e s e.line.act next.holds) [
      | inl leaves ↦
          ap (λ (t : PlainTable). data_in t.stripes s) (fold-append (after shape) (start shape) h (e ∷ []))
          ∙ data_in-after shape (table_of shape h) e s e.line.act leaves ∙ has
      | inr new ↦
          absurd (false≢true (sym new.1 ∙ stored_by shape told h s was (ap (λ (o : Option (List (List ℕ))). is_some o) has)))
    ]) history more legal there

-- the data of a stripe, from what the stripes have under its number
data_of-from : (t : PlainTable) (s : ℕ) → data_of t s ≡ unwrap_or (data_in t.stripes s) []
data_of-from t s = either (stripe_of t s) where
  either : (o : Option Stripe) → option_map_or (λ x. x.blocks) o [] ≡ unwrap_or (option_map (λ x. x.blocks) o) []
  either None = refl
  either (Some x) = refl

-- a look-up that finds a stripe finds its data
found : (o : Option Stripe) → IsSome o → (blocks : List (List ℕ)) × (option_map (λ x. x.blocks) o ≡ Some blocks)
found (Some x) h = (x.blocks, refl)
found None h = absurd (false≢true h)

still_found : (o : Option Stripe) (blocks : List (List ℕ)) → option_map (λ x. x.blocks) o ≡ Some blocks → IsSome o
still_found (Some x) blocks h = refl
still_found None blocks h = cc

pub stripe_stays : (shape : Shape) (told : Bool) (history more : List Entry) (s : ℕ) → IsLegal shape told (history ++ more) → IsSome (stripe_of (table_of shape history) s)
    → IsSome (stripe_of (table_of shape (history ++ more)) s) × (data_of (table_of shape (history ++ more)) s ≡ data_of (table_of shape history) s)
stripe_stays shape told history more s legal there =
    let blocks : (blocks : List (List ℕ)) × (data_in (table_of shape history).stripes s ≡ Some blocks) = found (stripe_of (table_of shape history) s) there in
    let later : data_in (table_of shape (history ++ more)).stripes s ≡ Some blocks.0 = data_in-stays shape told history more s blocks.0 legal blocks.1 in (
      still_found (stripe_of (table_of shape (history ++ more)) s) blocks.0 later,
      data_of-from (table_of shape (history ++ more)) s ∙ ap (λ (o : Option (List (List ℕ))). unwrap_or o []) (later ∙ sym blocks.1) ∙ sym (data_of-from (table_of shape history) s),
    )
