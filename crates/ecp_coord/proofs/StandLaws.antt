-- A block of a file stands in the table: its stripe is there, and has the row.
use Rattle.std.proofs.Common.{◌≡◌, ℕ, zero, suc, ◌+◌, ◌-◌, ◌*◌, ◌/◌, ◌%◌, ◌<◌, ◌≤◌, ◌==◌, Bool, true, false, cond, ◌&&◌, not, List, [], ◌∷◌, length, map, fold, find, slice_get, get_or, is_some, Option, Some, None, IsSome, refl, sym, ◌∙◌, ap, subst, arith, inl, inr, mul-le-mul_right}
use Rattle.std.specs.Prelude.{bytes_eq, nat_le, nat_lt, option_and_then}
use Rattle.std.specs.List.{AllByRecursion}
use Rattle.std.specs.Option.{option_map_or}
use Rattle.std.proofs.lemmas.Bool.{false≢true, cases_lt}
use Rattle.std.proofs.lemmas.Bool.Decides.{nat_tests}
use Rattle.std.proofs.lemmas.Option.{slice_get-get_or}
use Rattle.std.proofs.lemmas.List.{length-map}
use Rattle.std.proofs.lemmas.List.FromFn.{length-map-range_with_len}
use Rattle.ecp_shape.specs.declared.shape.Shape.{Shape}
use Rattle.ecp_shape.specs.Range.{IsInRange}
use Rattle.ecp_code.specs.Stripes.{stripe_count, stripes}
use Rattle.ecp_entry.specs.declared.act.Act.{Act}
use Rattle.ecp_entry.specs.declared.act.Act.TheVariants.{Stored, Lost, Joined, Restored, Drop}
use Rattle.ecp_entry.specs.declared.entry.Entry.{Entry}
use Rattle.ecp_entry.specs.Entries.{deed_node}
use Rattle.ecp_history.specs.declared.table.block_name.BlockName.{BlockName}
use Rattle.ecp_history.specs.declared.table.file.File.{File}
use Rattle.ecp_history.specs.declared.table.standing.Standing.{Standing}
use Rattle.ecp_history.specs.Legal.{IsLegal}
use Rattle.ecp_history.specs.Named.{block_at}
use Rattle.ecp_history.specs.table.Placement.{nodes_in, place_among}
use Rattle.ecp_history.specs.table.Steps.{after_act, change_row, given_up, joined, live_onto, lost, placed, rows_among, stripes_among, table_of, with_block, with_rows, without_node}
use Rattle.ecp_history.specs.table.Tables.{HasStripe, PlainTable, Stripe, block_count, file_block, file_of, is_live, is_lost, standing_of, stripe_of}
use Rattle.ecp_history.proofs.LegalLaws.{onwards}
use Rattle.ecp_history.proofs.tables.KeptLaws.{all-find, all-placed}
use Rattle.ecp_history.proofs.tables.StoreLaws.{count_is, length-stripes_among}
use Rattle.ecp_catalog.specs.Standing.{FileSeen, has_number}
use Rattle.ecp_catalog.specs.Catalogs.{CatalogState}
use Rattle.ecp_catalog.specs.Outline.{IsOutline}
use Rattle.ecp_catalog.proofs.OutlineLaws.{one_more}

-- ---- each stripe has n rows

abbrev Full : ℕ → List Stripe → Type 0
Full n xs = AllByRecursion (λ (x : Stripe). length x.rows ≡ n) xs

length-change_row : (change : Standing → Standing) (r : ℕ) (xs : List Standing) → length (change_row change r xs) ≡ length xs
length-change_row change r [] = refl
length-change_row change zero (x ∷ xs) = refl
length-change_row change (suc r) (x ∷ xs) = ap (λ (n : ℕ). suc n) (length-change_row change r xs)

full-with_rows : (n : ℕ) (change : Stripe → List Standing) → ((x : Stripe) → length (change x) ≡ length x.rows) → (xs : List Stripe) → Full n xs → Full n (with_rows change xs)
full-with_rows n change same [] all = tt
full-with_rows n change same (x ∷ xs) all = (same x ∙ all.0, full-with_rows n change same xs all.1)

full-put : (at : List ℕ) (n a : ℕ) (ds : List (List (List ℕ))) (xs : List Stripe) → Full n xs → Full n (fold placed xs (stripes_among at n a ds))
full-put at n a [] xs all = all
full-put at n a (d ∷ ds) xs all =
    let x : Stripe = record { number = a; blocks = d; rows = rows_among at n a } in
    full-put at n (a + 1) ds (placed xs x)
    (all-placed (λ (y : Stripe). length y.rows ≡ n) xs x all (length-map-range_with_len (λ (r : ℕ). let y : Standing = record { node = place_among at a r; live = true } in y) 0 n))

full-lost : (n : ℕ) (t : PlainTable) (node : Option ℕ) → Full n t.stripes → Full n (option_map_or (lost t) node t).stripes
full-lost n t None all = all
full-lost n t (Some m) all = full-with_rows n (λ x. map (without_node m) x.rows) (λ x. length-map x.rows (without_node m)) t.stripes all

full-joined : (n : ℕ) (t : PlainTable) (inc : ℕ) (node : Option ℕ) → Full n t.stripes → Full n (option_map_or (λ m. joined t m inc) node t).stripes
full-joined n t inc None all = all
full-joined n t inc (Some m) all = all

full-block : (n : ℕ) (t : PlainTable) (s r : ℕ) (change : Standing → Standing) → Full n t.stripes → Full n (with_block t s r change).stripes
full-block n t s r change all = full-with_rows n (λ x. cond (x.number == s) (change_row change r x.rows) x.rows) (λ x. either (x.number == s) x) t.stripes all where
  either : (b : Bool) (x : Stripe) → length (cond b (change_row change r x.rows) x.rows) ≡ length x.rows
  either true x = length-change_row change r x.rows
  either false x = refl

full-after : (shape : Shape) (t : PlainTable) (e : Entry) (act : Act) → Full shape.n t.stripes → Full shape.n (after_act shape t e act).stripes
full-after shape t e (Stored first count up) all = full-put (nodes_in up) shape.n first (stripes shape.k shape.block e.bytes) t.stripes all
full-after shape t e (Lost count) all = full-lost shape.n t (deed_node e.deed) all
full-after shape t e (Joined inc) all = full-joined shape.n t inc (deed_node e.deed) all
full-after shape t e (Restored stripe row node inc) all = full-block shape.n t stripe row (live_onto node) all
full-after shape t e (Drop stripe row) all = full-block shape.n t stripe row given_up all
full-after shape t e _ all = all

rows_full : (shape : Shape) (told : Bool) (history : List Entry) → IsLegal shape told history → Full shape.n (table_of shape history).stripes
rows_full shape told history legal =
    onwards shape told (λ h. Full shape.n (table_of shape h).stripes)
    (λ h e was next all. subst (λ (t : PlainTable). Full shape.n t.stripes) (sym (one_more shape h e)) (full-after shape (table_of shape h) e e.line.act all)) [] history legal tt

-- ---- each file has as many stripes as its bytes fill

abbrev Counted : Shape → List File → Type 0
Counted shape fs = AllByRecursion (λ (f : File). f.stripes ≡ stripe_count shape.k shape.block f.len) fs

counted-lost : (shape : Shape) (t : PlainTable) (node : Option ℕ) → Counted shape t.files → Counted shape (option_map_or (lost t) node t).files
counted-lost shape t None all = all
counted-lost shape t (Some m) all = all

counted-joined : (shape : Shape) (t : PlainTable) (inc : ℕ) (node : Option ℕ) → Counted shape t.files → Counted shape (option_map_or (λ m. joined t m inc) node t).files
counted-joined shape t inc None all = all
counted-joined shape t inc (Some m) all = all

counted-after : (shape : Shape) (t : PlainTable) (e : Entry) (act : Act) → Counted shape t.files → Counted shape (after_act shape t e act).files
counted-after shape t e (Stored first count up) all =
    (length-stripes_among (nodes_in up) shape.n first (stripes shape.k shape.block e.bytes) ∙ count_is shape.k shape.block e.bytes, all)
counted-after shape t e (Lost count) all = counted-lost shape t (deed_node e.deed) all
counted-after shape t e (Joined inc) all = counted-joined shape t inc (deed_node e.deed) all
counted-after shape t e _ all = all

files_counted : (shape : Shape) (told : Bool) (history : List Entry) → IsLegal shape told history → Counted shape (table_of shape history).files
files_counted shape told history legal =
    onwards shape told (λ h. Counted shape (table_of shape h).files)
    (λ h e was next all. subst (λ (t : PlainTable). Counted shape t.files) (sym (one_more shape h e)) (counted-after shape (table_of shape h) e e.line.act all)) [] history legal tt

file_counted : (P : File → Type 0) (name : List ℕ) (fs : List File) (f : File) → AllByRecursion P fs → find (λ g. bytes_eq g.name name) fs ≡ Some f → P f
file_counted P name [] f all is = cc
file_counted P name (g ∷ fs) f all is = one (bytes_eq g.name name) is (file_counted P name fs f all.1) where
  one : (b : Bool) → cond b (Some g) (find (λ h. bytes_eq h.name name) fs) ≡ Some f → (find (λ h. bytes_eq h.name name) fs ≡ Some f → P f) → P f
  one true is more =
      let same : g ≡ f = cc in
      subst P same all.0
  one false is more = more is

-- ---- a file's blocks are in its stripes

-- the index of a block, by stripes: k blocks of a stripe have block bytes each
stripe_there : (k block len index : ℕ) → 1 ≤ k → 1 ≤ block → index < (len + block - 1) / block → index / k < stripe_count k block len
stripe_there k block len index some full below =
    let upto : k * (index / k) ≤ index = omega arith in
    let big : 1 ≤ k * block = some_product k block some full in
    let last : (index + 1) * block ≤ len + block - 1 = below_quotient (len + block - 1) block (index + 1) full (omega (arith, below)) in
    let whole : k * (index / k) * block ≤ index * block = mul-le-mul_right block upto in
    let split : (index + 1) * block ≡ index * block + block = omega arith in
    let flat : (index / k + 1) * (k * block) ≡ k * (index / k) * block + k * block = spread k (index / k) block in
    let few : (index / k + 1) * (k * block) ≤ len + k * block - 1 = omega (arith, last, whole, split, flat, big, full) in
    let all : index / k + 1 ≤ (len + k * block - 1) / (k * block) = within_quotient (len + k * block - 1) (k * block) (index / k + 1) big few in
    omega (arith, all)
  where
    spread : (a q b : ℕ) → (q + 1) * (a * b) ≡ a * q * b + a * b
    spread a q b = omega arith

    some_product : (a b : ℕ) → 1 ≤ a → 1 ≤ b → 1 ≤ a * b
    some_product a b h g =
        let more : 1 * b ≤ a * b = mul-le-mul_right b h in
        omega (arith, more, g)

    below_quotient : (a b n : ℕ) → 1 ≤ b → n ≤ a / b → n * b ≤ a
    below_quotient a b n some le =
        let more : n * b ≤ a / b * b = mul-le-mul_right b le in
        let is : b * (a / b) + a % b ≡ a = omega arith in
        let flip : a / b * b ≡ b * (a / b) = omega arith in
        omega (arith, more, is, flip)

    within_quotient : (a b n : ℕ) → 1 ≤ b → n * b ≤ a → n ≤ a / b
    within_quotient a b n some le = elim (cases_lt (a / b) n) [
      | inl small ↦
          let more : suc (a / b) * b ≤ n * b = mul-le-mul_right b small in
          let is : b * (a / b) + a % b ≡ a = omega arith in
          let rest : a % b < b = omega arith in
          let flip : suc (a / b) * b ≡ b * (a / b) + b = omega arith in
          absurd (omega (arith, more, is, rest, flip, le))
      | inr enough ↦ enough
    ]

-- a file that is seen has the stripes of its numbers
seen_with : (files : List FileSeen) (name : List ℕ) (f : File) (s : ℕ) → find (λ g. bytes_eq g.name name) (map (λ (g : FileSeen). g.file) files) ≡ Some f → f.first ≤ s → s < f.first + f.stripes
    → is_some (find (has_number s) files) ≡ true
seen_with [] name f s is from to = cc
seen_with (g ∷ files) name f s is from to = one (has_number s g) (bytes_eq g.file.name name) refl is (seen_with files name f s) where
  both : (a b c : ℕ) → a ≤ b → b < c → (nat_le a b && nat_lt b c) ≡ true
  both a b c le lt =
      let low : nat_le a b ≡ true = grind (arith, nat_tests) in
      let high : nat_lt b c ≡ true = grind (arith, nat_tests) in
      rw (low, high) refl

  one : (has named : Bool) → has_number s g ≡ has → cond named (Some g.file) (find (λ h. bytes_eq h.name name) (map (λ (h : FileSeen). h.file) files)) ≡ Some f
      → (find (λ h. bytes_eq h.name name) (map (λ (h : FileSeen). h.file) files) ≡ Some f → f.first ≤ s → s < f.first + f.stripes → is_some (find (has_number s) files) ≡ true)
      → is_some (cond has (Some g) (find (has_number s) files)) ≡ true
  one true named has found more = refl
  one false true has found more =
      let same : g.file ≡ f = cc in
      let own : has_number s g ≡ true = subst (λ (h : File). (nat_le h.first s && nat_lt s (h.first + h.stripes)) ≡ true) (sym same) (both f.first s (f.first + f.stripes) from to) in
      absurd (false≢true (sym has ∙ own))
  one false false has found more = more found from to

-- what a block that a name and an index name is
pub record IsBlockOf (shape : Shape) (t : PlainTable) (name : List ℕ) (index : ℕ) (b : BlockName) : Type 0 where
  pub file : File
  pub found : file_of t name ≡ Some file
  pub below : index < block_count shape file
  pub is : b ≡ file_block shape file index

pub block_named : (shape : Shape) (t : PlainTable) (name : List ℕ) (index : ℕ) (b : BlockName) → block_at shape t name index ≡ Some b → IsBlockOf shape t name index b
block_named shape t name index b at = one (file_of t name) refl at where
  one : (o : Option File) → file_of t name ≡ o → option_and_then (λ f. cond (nat_lt index (block_count shape f)) (Some (file_block shape f index)) None) o ≡ Some b
      → IsBlockOf shape t name index b
  one None is h = absurd (false≢true (ap (λ (o : Option BlockName). is_some o) h))
  one (Some f) is h = two (nat_lt index (block_count shape f)) refl h where
    two : (below : Bool) → nat_lt index (block_count shape f) ≡ below → cond below (Some (file_block shape f index)) None ≡ Some b → IsBlockOf shape t name index b
    two false off g = absurd (false≢true (ap (λ (o : Option BlockName). is_some o) g))
    two true on g = record { file = f; found = is; below = grind (arith, nat_tests); is = (let same : b ≡ file_block shape f index = cc in same) }

-- it is one of the data rows
pub block_row : (shape : Shape) (t : PlainTable) (name : List ℕ) (index : ℕ) (b : BlockName) → IsInRange shape → block_at shape t name index ≡ Some b → b.row < shape.n
block_row shape t name index b range at =
    let of = block_named shape t name index b at in
    let row : b.row ≡ index % shape.k = ap (λ (x : BlockName). x.row) of.is in
    let some : 0 < shape.k = omega (arith, range.data_rows) in
    let low : index % shape.k < shape.k = omega (arith, some) in
    omega (arith, row, low, range.parity_rows)

-- and stands somewhere
pub block_stands : (shape : Shape) (told : Bool) (c : CatalogState) (history : List Entry) (name : List ℕ) (index : ℕ) (b : BlockName) → IsInRange shape → IsLegal shape told history
    → IsOutline shape told c history → block_at shape (table_of shape history) name index ≡ Some b → IsSome (standing_of (table_of shape history) b.stripe b.row)
block_stands shape told c history name index b range legal is at =
    let t : PlainTable = table_of shape history in
    let of = block_named shape t name index b at in
    let f : File = of.file in
    let counted : f.stripes ≡ stripe_count shape.k shape.block f.len =
    file_counted (λ (g : File). g.stripes ≡ stripe_count shape.k shape.block g.len) name t.files f (files_counted shape told history legal) of.found in
    let within : index / shape.k < f.stripes = omega (arith, stripe_there shape.k shape.block f.len index range.data_rows range.some of.below, counted) in
    let stripe : b.stripe ≡ f.first + index / shape.k = ap (λ (x : BlockName). x.stripe) of.is in
    let found : find (λ g. bytes_eq g.name name) (map (λ (g : FileSeen). g.file) c.files) ≡ Some f = ap (λ (fs : List File). find (λ (g : File). bytes_eq g.name name) fs) is.files ∙ of.found in
    let there : HasStripe t b.stripe =
    sym (is.stripes b.stripe) ∙ seen_with c.files name f b.stripe found (omega (arith, stripe)) (omega (arith, stripe, within)) in
    one (stripe_of t b.stripe) refl there
  where
    one : (o : Option Stripe) → stripe_of (table_of shape history) b.stripe ≡ o → is_some o ≡ true → IsSome (slice_get (option_map_or (λ (x : Stripe). x.rows) (stripe_of (table_of shape history) b.stripe) []) b.row)
    one None none h = absurd (false≢true h)
    one (Some x) found h =
        let full : length x.rows ≡ shape.n = all-find (λ (y : Stripe). length y.rows ≡ shape.n) (λ y. y.number == b.stripe) (table_of shape history).stripes x (rows_full shape told history legal) (sym found) in
        let d : Standing = record { node = 0; live = false } in
        let at_row : slice_get x.rows b.row ≡ Some (get_or x.rows b.row d) = slice_get-get_or x.rows b.row d (omega (arith, full, block_row shape (table_of shape history) name index b range at)) in
        ap (λ (o : Option Standing). is_some o) (ap (λ (o : Option Stripe). slice_get (option_map_or (λ y. y.rows) o []) b.row) found ∙ at_row)

-- a block that stands and is not live is lost
pub stands_lost : (t : PlainTable) (s r : ℕ) → IsSome (standing_of t s r) → is_live t s r ≡ false → is_lost t s r ≡ true
stands_lost t s r there dead = one (standing_of t s r) there dead where
  one : (o : Option Standing) → IsSome o → option_map_or (λ (x : Standing). x.live) o false ≡ false → option_map_or (λ (x : Standing). not x.live) o false ≡ true
  one None h off = absurd (false≢true h)
  one (Some x) h off = ap not off
