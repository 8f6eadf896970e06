-- The blocks of a table whose files have bytes.
use Rattle.std.proofs.Common.{◌≡◌, ℕ, zero, suc, ◌*◌, ◌^◌, ◌<◌, ◌≤◌, ◌==◌, true, false, cond, List, [], ◌∷◌, length, map, drop, replicate, fold, Option, Some, None, refl, sym, ◌∙◌, ap, subst, arith, IsSome}
use Rattle.std.specs.Prelude.{Contains}
use Rattle.std.specs.Option.{option_map_or}
use Rattle.std.specs.List.{AllByRecursion, range_with_len}
use Rattle.std.proofs.lemmas.Bool.{false≢true}
use Rattle.std.proofs.lemmas.List.Elements.{recursion_from_All}
use Rattle.ecp_field.specs.Lists.{AreBytes, scaled}
use Rattle.ecp_field.proofs.ListLaws.{AreBytes-rest, AreBytes-sums, AreBytes-scaled}
use Rattle.ecp_code.specs.Rows.{row, weighted_sum}
use Rattle.ecp_code.specs.Stripes.{blocks, stripes, stripe_count}
use Rattle.ecp_code.specs.Weights.{weight, weights}
use Rattle.ecp_code.proofs.BlockLaws.{IsData-blocks, blocks-even}
use Rattle.ecp_code.proofs.DataLaws.{AreBytes-range}
use Rattle.ecp_code.proofs.HelperLaws.{length-row}
use Rattle.ecp_code.proofs.RowLaws.{row-blocks}
use Rattle.ecp_code.proofs.WeightLaws.{AreBytes-drop, weight-lt}
use Rattle.ecp_shape.specs.declared.shape.Shape.{Shape}
use Rattle.ecp_shape.specs.Range.{IsInRange}
use Rattle.ecp_entry.specs.declared.act.Act.{Act}
use Rattle.ecp_entry.specs.declared.act.Act.TheVariants.{Stored, Lost, Joined, Restored, Drop}
use Rattle.ecp_entry.specs.declared.entry.Entry.{Entry}
use Rattle.ecp_entry.specs.Entries.{deed_node}
use Rattle.ecp_history.specs.Files.{is_stored, StoresBytes}
use Rattle.ecp_history.specs.Fronts.{IsBlock}
use Rattle.ecp_history.specs.table.Placement.{nodes_in}
use Rattle.ecp_history.specs.table.Tables.{Stripe, Standing, PlainTable, start, stripe_of, block}
use Rattle.ecp_history.specs.table.Steps.{lost, joined, with_block, change_row, without_node, after_act, after, table_of}
use Rattle.ecp_history.proofs.tables.KeptLaws.{data-with_rows, data-stored, all-find}

-- ---- rows of bytes

AreBytes-none : AreBytes []
AreBytes-none k = omega arith

AreBytes-zeros : (n : ℕ) → AreBytes (replicate n 0)
AreBytes-zeros zero k = omega arith
AreBytes-zeros (suc n) zero = omega arith
AreBytes-zeros (suc n) (suc k) = AreBytes-zeros n k

AreBytes-weights : (rows js : List ℕ) (t : ℕ) → AreBytes rows → AreBytes js → t < 2 ^ 8 → AreBytes (map (λ j. weight rows j t) js)
AreBytes-weights rows [] t bytes of_js small k = omega arith
AreBytes-weights rows (j ∷ js) t bytes of_js small zero = weight-lt rows j t bytes (of_js 0) small
AreBytes-weights rows (j ∷ js) t bytes of_js small (suc k) = AreBytes-weights rows js t bytes (AreBytes-rest j js of_js) small k

AreBytes-weighted_sum : (len : ℕ) (ws : List ℕ) (ds : List (List ℕ)) → AreBytes ws → AllByRecursion AreBytes ds → AreBytes (weighted_sum len ws ds)
AreBytes-weighted_sum len [] ds of_ws of_ds = AreBytes-zeros len
AreBytes-weighted_sum len (w ∷ ws) [] of_ws of_ds = AreBytes-zeros len
AreBytes-weighted_sum len (w ∷ ws) (d ∷ ds) of_ws of_ds =
    AreBytes-sums (scaled w d) (weighted_sum len ws ds) (AreBytes-scaled w d (of_ws 0) of_ds.0)
    (AreBytes-weighted_sum len ws ds (AreBytes-rest w ws of_ws) of_ds.1)

-- ---- data of bytes

-- the data blocks of a stripe that some bytes fill
abbrev pub IsFilled : ℕ → ℕ → List (List ℕ) → Type 0
IsFilled k len d = (bytes : List ℕ) × AreBytes bytes × (d ≡ blocks k len bytes)

row-filled : (k len : ℕ) (d : List (List ℕ)) (r : ℕ) → 1 ≤ k → k ≤ 16 → r < 2 ^ 8 → IsFilled k len d → (length (row d r) ≡ len) × AreBytes (row d r)
row-filled k len d r some few small is =
    let xs = is.0 in
    let of_rows : AreBytes (range_with_len 0 k) = AreBytes-range 0 k (omega arith) in
    let of_data : AllByRecursion AreBytes (blocks k len xs) = recursion_from_All AreBytes (blocks k len xs) (IsData-blocks k len xs (omega arith) is.1).bytes in
    let sum : AreBytes (weighted_sum len (weights (range_with_len 0 k) r) (blocks k len xs)) =
    AreBytes-weighted_sum len (weights (range_with_len 0 k) r) (blocks k len xs) (AreBytes-weights (range_with_len 0 k) (range_with_len 0 k) r of_rows of_rows small) of_data in (
      ap (λ (ds : List (List ℕ)). length (row ds r)) is.2 ∙ length-row k len xs r some (blocks-even k len xs),
      subst (λ (ds : List (List ℕ)). AreBytes (row ds r)) (sym is.2) (subst AreBytes (sym (row-blocks k len xs r some)) sum),
    )

filled_stripes : (k len : ℕ) (bytes : List ℕ) → AreBytes bytes → AllByRecursion (IsFilled k len) (stripes k len bytes)
filled_stripes k len bytes are_bytes = go (range_with_len 0 (stripe_count k len (length bytes))) where
  go : (is : List ℕ) → AllByRecursion (IsFilled k len) (map (λ i. blocks k len (drop (i * (k * len)) bytes)) is)
  go [] = tt
  go (i ∷ is) = ((drop (i * (k * len)) bytes, AreBytes-drop bytes (i * (k * len)) are_bytes, refl), go is)

-- ---- tables of bytes

-- each stripe's data are filled by bytes
abbrev pub AllFilled : Shape → PlainTable → Type 0
AllFilled shape t = AllByRecursion (λ x. IsFilled shape.k shape.block x.blocks) t.stripes

filled-lost : (shape : Shape) (t : PlainTable) (node : Option ℕ) → AllFilled shape t → AllFilled shape (option_map_or (lost t) node t)
filled-lost shape t None all = all
filled-lost shape t (Some m) all = data-with_rows (IsFilled shape.k shape.block) (λ x. map (without_node m) x.rows) t.stripes all

filled-joined : (shape : Shape) (t : PlainTable) (inc : ℕ) (node : Option ℕ) → AllFilled shape t → AllFilled shape (option_map_or (λ m. joined t m inc) node t)
filled-joined shape t inc None all = all
filled-joined shape t inc (Some m) all = all

filled-with_block : (shape : Shape) (t : PlainTable) (s r : ℕ) (change : Standing → Standing) → AllFilled shape t → AllFilled shape (with_block t s r change)
filled-with_block shape t s r change all =
    data-with_rows (IsFilled shape.k shape.block) (λ x. cond (x.number == s) (change_row change r x.rows) x.rows) t.stripes all

filled-after : (shape : Shape) (t : PlainTable) (e : Entry) (act : Act) → (is_stored act ≡ true → AreBytes e.bytes) → AllFilled shape t → AllFilled shape (after_act shape t e act)
filled-after shape t e (Stored first count up) of_file all =
    data-stored (IsFilled shape.k shape.block) (nodes_in up) shape.n first (stripes shape.k shape.block e.bytes) t.stripes
    (filled_stripes shape.k shape.block e.bytes (of_file refl)) all
filled-after shape t e (Lost count) of_file all = filled-lost shape t (deed_node e.deed) all
filled-after shape t e (Joined inc) of_file all = filled-joined shape t inc (deed_node e.deed) all
filled-after shape t e (Restored stripe row node inc) of_file all = filled-with_block shape t stripe row (λ _. record { node = node; live = true }) all
filled-after shape t e (Drop stripe row) of_file all = filled-with_block shape t stripe row (λ x. record { node = x.node; live = false }) all
filled-after shape t e _ of_file all = all

-- what stands behind the first entry of a history
later : (e x : Entry) (history : List Entry) → Contains history x → Contains (e ∷ history) x
later e x history h = (suc h.0, (let within : suc h.0 < length (e ∷ history) = omega (arith, h.1) in within), h.2)

filled-fold : (shape : Shape) (history : List Entry) (t : PlainTable) → StoresBytes history → AllFilled shape t → AllFilled shape (fold (after shape) t history)
filled-fold shape [] t of_files all = all
filled-fold shape (e ∷ history) t of_files all =
    let first : Contains (e ∷ history) e = (0, (let some : 0 < length (e ∷ history) = omega arith in some), refl) in
    filled-fold shape history (after shape t e) (λ x h. of_files x (later e x history h)) (filled-after shape t e e.line.act (of_files e first) all)

found_block : (shape : Shape) (t : PlainTable) (s r : ℕ) → IsInRange shape → AllFilled shape t → IsSome (stripe_of t s) → r < shape.n
    → IsBlock shape (block t s r)
found_block shape t s r in_range all there low = either (stripe_of t s) refl there where
  either : (o : Option Stripe) → o ≡ stripe_of t s → IsSome o
      → IsBlock shape (row (option_map_or (λ x. x.blocks) o []) r)
  either None is some = absurd (false≢true some)
  either (Some x) is some =
      let filled : IsFilled shape.k shape.block x.blocks = all-find (λ y. IsFilled shape.k shape.block y.blocks) (λ y. y.number == s) t.stripes x all is in
      let both = row-filled shape.k shape.block x.blocks r in_range.data_rows (omega (arith, in_range.parity_rows, in_range.at_most)) (omega (arith, low, in_range.at_most)) filled in
      record { len = both.0; bytes_are = both.1 }

pub blocks_of_bytes : (shape : Shape) (history : List Entry) (s r : ℕ) → IsInRange shape → StoresBytes history → IsSome (stripe_of (table_of shape history) s) → r < shape.n
    → IsBlock shape (block (table_of shape history) s r)
blocks_of_bytes shape history s r in_range of_files there low =
    found_block shape (table_of shape history) s r in_range (filled-fold shape history (start shape) of_files tt) there low
