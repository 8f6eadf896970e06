-- What is found by asking for a block, as a catalog that is the outline of a history says it.
use Rattle.std.proofs.Common.{◌≡◌, ℕ, Bool, true, false, cond, ◌||◌, List, Option, Some, None, Result, Ok, Err, sym, ◌∙◌, ap}
use Rattle.std.specs.Prelude.{bytes_eq, find, nat_le, nat_lt, option_and_then}
use Rattle.std.specs.Option.{option_map_or}
use Rattle.ecp_shape.specs.declared.shape.Shape.{Shape}
use Rattle.ecp_entry.specs.declared.entry.Entry.{Entry}
use Rattle.ecp_history.specs.declared.table.block_name.BlockName.{BlockName}
use Rattle.ecp_history.specs.declared.table.file.File.{File}
use Rattle.ecp_history.specs.Named.{block_at}
use Rattle.ecp_history.specs.table.Steps.{table_of}
use Rattle.ecp_history.specs.table.Tables.{PlainTable, block_count, file_block, file_of, is_live, live_rows}
use Rattle.ecp_catalog.specs.Catalogs.{CatalogState, plain}
use Rattle.ecp_catalog.specs.Outline.{IsOutline}
use Rattle.ecp_coord.specs.declared.no_plan.NoPlan.{NoPlan}
use Rattle.ecp_coord.specs.declared.no_plan.NoPlan.TheVariants as no
use Rattle.ecp_coord.specs.Plans.{is_recoverable, sought, sought_block, sought_in}

module _ (shape : Shape) (t : PlainTable) where
  -- a lost block can be had exactly where enough rows are live
  pub lost_had : (b : BlockName) (k count : ℕ) → is_live t b.stripe b.row ≡ false → k ≡ shape.k → count ≡ live_rows t b.stripe → nat_le k count ≡ is_recoverable shape t b
  lost_had b k count lost same counted =
      ap (λ (x : ℕ). nat_le x count) same ∙ ap (nat_le shape.k) counted ∙ sym (ap (λ (x : Bool). x || nat_le shape.k (live_rows t b.stripe)) lost)

  abbrev found_by : BlockName → Bool → Result BlockName NoPlan
  found_by b had = cond had (Ok b) (Err (no.Unrecoverable (live_rows t b.stripe)))

  pub block_had : (b : BlockName) → is_recoverable shape t b ≡ true → Ok b ≡ sought_block shape t b
  block_had b had = sym (ap (found_by b) had)

  pub block_lost : (b : BlockName) (count : ℕ) → is_recoverable shape t b ≡ false → count ≡ live_rows t b.stripe → Err (no.Unrecoverable count) ≡ sought_block shape t b
  block_lost b count off counted = ap (λ (n : ℕ). Err (no.Unrecoverable n)) counted ∙ sym (ap (found_by b) off)

  -- the block of a name and a number is what is found, as far as it can be had
  pub named_sought : (name : List ℕ) (index : ℕ) (b : BlockName) → block_at shape t name index ≡ Some b → sought_block shape t b ≡ sought shape t name index
  named_sought name index b named = file (file_of t name) named where
    file : (o : Option File) → option_and_then (λ f. cond (nat_lt index (block_count shape f)) (Some (file_block shape f index)) None) o ≡ Some b
        → sought_block shape t b ≡ option_map_or (λ f. sought_in shape t f index) o (Err no.NoSuchFile)
    file None h = absurd (cc)
    file (Some f) h = number (nat_lt index (block_count shape f)) h where
      number : (below : Bool) → cond below (Some (file_block shape f index)) None ≡ Some b
          → sought_block shape t b ≡ cond below (sought_block shape t (file_block shape f index)) (Err (no.NoSuchBlock (block_count shape f)))
      number false h = absurd (cc)
      number true h =
          let same : file_block shape f index ≡ b = cc in
          ap (sought_block shape t) (sym same)

-- a catalog names the blocks that the table names
pub named_same : (shape : Shape) (told : Bool) (c : CatalogState) (history : List Entry) → IsOutline shape told c history → (name : List ℕ) (index : ℕ)
    → block_at c.shape (plain c) name index ≡ block_at shape (table_of shape history) name index
named_same shape told c history is name index =
    ap (λ (z : Shape). block_at z (plain c) name index) is.sizes
    ∙ ap (λ (fs : List File). option_and_then (λ f. cond (nat_lt index (block_count shape f)) (Some (file_block shape f index)) None) (find (λ f. bytes_eq f.name name) fs)) is.files
