-- What holds of the stripes of each file that a history stores holds of each stripe of its table.
use Rattle.std.proofs.Common.{◌≡◌, ℕ, suc, ◌+◌, ◌-◌, ◌*◌, ◌/◌, ◌<◌, ◌==◌, inl, inr, true, cond, List, [], ◌∷◌, length, map, drop, fold, Option, Some, None, refl, sym, ◌∙◌, ap, subst, arith, IsSome}
use Rattle.std.specs.Prelude.{Contains}
use Rattle.std.specs.Option.{option_map_or}
use Rattle.std.specs.List.{AllByRecursion, range_with_len}
use Rattle.std.proofs.Math.Nat.{zero-mul, div-zero}
use Rattle.std.proofs.lemmas.Bool.{cases_eq, false≢true}
use Rattle.ecp_code.specs.Rows.{row}
use Rattle.ecp_code.specs.Stripes.{blocks, stripes, stripe_count}
use Rattle.ecp_code.proofs.BlockLaws.{blocks-even}
use Rattle.ecp_code.proofs.HelperLaws.{length-row}
use Rattle.ecp_code.proofs.WeightLaws.{AreBytes-drop}
use Rattle.ecp_shape.specs.declared.shape.Shape.{Shape}
use Rattle.ecp_entry.specs.declared.act.Act.{Act}
use Rattle.ecp_entry.specs.declared.act.Act.TheVariants.{Stored, Lost, Joined, Restored, Drop}
use Rattle.ecp_entry.specs.declared.entry.Entry.{Entry}
use Rattle.ecp_entry.specs.Entries.{deed_node}
use Rattle.ecp_history.specs.Files.{is_stored, StoresBytes}
use Rattle.ecp_history.specs.table.Placement.{nodes_in}
use Rattle.ecp_history.specs.table.Tables.{Stripe, PlainTable, HasStripe, start, stripe_of, data_of, block}
use Rattle.ecp_history.specs.table.Steps.{lost, joined, change_row, without_node, live_onto, given_up, after_act, after, table_of}
use Rattle.ecp_history.proofs.tables.BytesLaws.{IsFilled}
use Rattle.ecp_history.proofs.tables.KeptLaws.{data-with_rows, data-stored, all-find}

-- what stands behind the first entry of a history
later : (e x : Entry) (history : List Entry) → Contains history x → Contains (e ∷ history) x
later e x history h = (suc h.0, (let within : suc h.0 < length (e ∷ history) = omega (arith, h.1) in within), h.2)

module _ (P : List (List ℕ) → Type 0) (shape : Shape) where
  -- the data of each stripe
  abbrev OfEach : PlainTable → Type 0
  OfEach t = AllByRecursion (λ x. P x.blocks) t.stripes

  -- each stripe of the file, if the act stores one
  abbrev OfFile : Entry → Act → Type 0
  OfFile e act = is_stored act ≡ true → AllByRecursion P (stripes shape.k shape.block e.bytes)

  of_lost : (t : PlainTable) (node : Option ℕ) → OfEach t → OfEach (option_map_or (lost t) node t)
  of_lost t None all = all
  of_lost t (Some m) all = data-with_rows P (λ x. map (without_node m) x.rows) t.stripes all

  of_joined : (t : PlainTable) (inc : ℕ) (node : Option ℕ) → OfEach t → OfEach (option_map_or (λ m. joined t m inc) node t)
  of_joined t inc None all = all
  of_joined t inc (Some m) all = all

  of_after : (t : PlainTable) (e : Entry) (act : Act) → OfFile e act → OfEach t → OfEach (after_act shape t e act)
  of_after t e (Stored first count up) file all =
      data-stored P (nodes_in up) shape.n first (stripes shape.k shape.block e.bytes) t.stripes (file refl) all
  of_after t e (Lost count) file all = of_lost t (deed_node e.deed) all
  of_after t e (Joined inc) file all = of_joined t inc (deed_node e.deed) all
  of_after t e (Restored stripe row node inc) file all = data-with_rows P (λ x. cond (x.number == stripe) (change_row (live_onto node) row x.rows) x.rows) t.stripes all
  of_after t e (Drop stripe row) file all = data-with_rows P (λ x. cond (x.number == stripe) (change_row given_up row x.rows) x.rows) t.stripes all
  of_after t e _ file all = all

  of_history : (history : List Entry) (t : PlainTable) → ((e : Entry) → Contains history e → OfFile e e.line.act) → OfEach t → OfEach (fold (after shape) t history)
  of_history [] t files all = all
  of_history (e ∷ history) t files all =
      let first : Contains (e ∷ history) e = (0, (let some : 0 < length (e ∷ history) = omega arith in some), refl) in
      of_history history (after shape t e) (λ x h. files x (later e x history h)) (of_after t e e.line.act (files e first) all)

  of_found : (t : PlainTable) (s : ℕ) → OfEach t → HasStripe t s → P (data_of t s)
  of_found t s all there = either (stripe_of t s) refl there where
    either : (o : Option Stripe) → o ≡ stripe_of t s → IsSome o → P (option_map_or (λ x. x.blocks) o [])
    either None is some = absurd (false≢true some)
    either (Some x) is some = all-find (λ y. P y.blocks) (λ y. y.number == s) t.stripes x all is

  pub of_stripe : (history : List Entry) (s : ℕ) → ((e : Entry) → Contains history e → OfFile e e.line.act) → HasStripe (table_of shape history) s → P (data_of (table_of shape history) s)
  of_stripe history s files there = of_found (table_of shape history) s (of_history history (start shape) files tt) there

-- what holds of the blocks that bytes fill from any place on holds of each stripe that they are cut into
each_cut : (P : List (List ℕ) → Type 0) (k len : ℕ) (bytes : List ℕ) → ((n : ℕ) → P (blocks k len (drop n bytes))) → AllByRecursion P (stripes k len bytes)
each_cut P k len bytes each = go (range_with_len 0 (stripe_count k len (length bytes))) where
  go : (is : List ℕ) → AllByRecursion P (map (λ i. blocks k len (drop (i * (k * len)) bytes)) is)
  go [] = tt
  go (i ∷ is) = (each (i * (k * len)), go is)

-- each row of a stripe has as many bytes as a block
abbrev HasRows : ℕ → List (List ℕ) → Type 0
HasRows len d = (r : ℕ) → length (row d r) ≡ len

-- no bytes are cut into stripes of no blocks
no_stripe : (len : ℕ) (bytes : List ℕ) → stripe_count 0 len (length bytes) ≡ 0
no_stripe len bytes =
    ap (λ (n : ℕ). (length bytes + n - 1) / n) (zero-mul len) ∙ div-zero (length bytes + 0 - 1)

cut_rows : (k len : ℕ) (bytes : List ℕ) → AllByRecursion (HasRows len) (stripes k len bytes)
cut_rows k len bytes = elim (cases_eq k 0) [
  | inl none ↦
      let at_none : AllByRecursion (HasRows len) (stripes 0 len bytes) =
      subst (λ (n : ℕ). AllByRecursion (HasRows len) (map (λ i. blocks 0 len (drop (i * (0 * len)) bytes)) (range_with_len 0 n))) (sym (no_stripe len bytes)) tt in
      subst (λ (n : ℕ). AllByRecursion (HasRows len) (stripes n len bytes)) (sym none) at_none
  | inr some ↦ each_cut (HasRows len) k len bytes (λ n r. length-row k len (drop n bytes) r (omega arith) (blocks-even k len (drop n bytes)))
]

-- each block of a stripe has the block's length
pub length_block : (shape : Shape) (history : List Entry) (s r : ℕ) → HasStripe (table_of shape history) s → length (block (table_of shape history) s r) ≡ shape.block
length_block shape history s r there = of_stripe (HasRows shape.block) shape history s (λ e h stored. cut_rows shape.k shape.block e.bytes) there r

-- where files have bytes, the data of a stripe are k blocks that bytes fill
pub filled_data : (shape : Shape) (history : List Entry) (s : ℕ) → StoresBytes history → HasStripe (table_of shape history) s → IsFilled shape.k shape.block (data_of (table_of shape history) s)
filled_data shape history s files there =
    of_stripe (IsFilled shape.k shape.block) shape history s (λ e h stored.
    each_cut (IsFilled shape.k shape.block) shape.k shape.block e.bytes (λ n. (drop n e.bytes, AreBytes-drop e.bytes n (files e h stored), refl))) there
