-- Which entry an entry must follow, and what stands between.
use Rattle.std.specs.Prelude.{◌≡◌, ℕ, zero, suc, ◌+◌, ◌<◌, ◌≤◌, ◌==◌, nat_lt, Bool, true, false, ◌||◌, if◌then◌else◌, List, [], ◌∷◌, length, drop, slice_get, All, IsTrue, Option, Some, None}
use Rattle.std.specs.List.{list_any}
use Rattle.std.specs.List.Sorted.{IsStrictlyIncreasing}
use Rattle.std.specs.Option.{option_map_or}
use Rattle.ecp_shape.specs.declared.limits.TheConstants.{MAX_ATTEMPTS}
use Rattle.ecp_entry.specs.declared.act.Act.{Act}
use Rattle.ecp_entry.specs.declared.act.Act.TheVariants.{Stored, Data, Restored}
use Rattle.ecp_entry.specs.declared.deed.Deed.{Deed}
use Rattle.ecp_entry.specs.declared.deed.Deed.TheVariants as deed
use Rattle.ecp_entry.specs.declared.entry.Entry.{Entry}
use Rattle.ecp_entry.specs.declared.part.Part.{Part}
use Rattle.ecp_entry.specs.declared.part.Part.TheVariants as part
use Rattle.ecp_shape.specs.declared.shape.Shape.{Shape}
use Rattle.ecp_entry.specs.Entries.{loss_of, is_loss, is_number, dropped_stripe, is_same_call, is_part_of}
use Rattle.ecp_history.specs.table.Tables.{PlainTable, stands_live, rows_of}
use Rattle.ecp_history.specs.table.Steps.{table_at}

-- the position after the last entry that passes the test, or 0 where none does
abbrev pub after_last : (Entry → Bool) → List Entry → ℕ
after_last test [] = 0
after_last test (e ∷ entries) =
    if nat_lt 0 (after_last test entries) then after_last test entries + 1
    else if test e then 1 else 0

-- whether two entries are of one caller
abbrev pub is_same_caller : Entry → Entry → Bool
is_same_caller e other = other.line.caller == e.line.caller

-- whether a deed is a `cat`
abbrev pub is_cat : Option Deed → Bool
is_cat (Some (deed.Cat name)) = true
is_cat _ = false

-- the position after the entry that this part of the call of e must follow: part 0 the last entry of the caller;
-- a later part of a `cat` the part before it, and of a rebuild part 0; the end the last of the call's parts, if it has
-- any, else the last entry of the caller
abbrev pub after_part : List Entry → Entry → Part → ℕ
after_part before e (part.Part zero) = after_last (is_same_caller e) before
after_part before e (part.Part (suc j)) =
    after_last (is_part_of e (if is_cat e.deed then j else 0)) before
after_part before e part.End =
    if list_any (is_same_call e) before then after_last (is_same_call e) before
    else after_last (is_same_caller e) before

-- the position after the entry that e must follow, or 0 where there is none
abbrev pub follows : List Entry → Entry → ℕ
follows before e = after_part before e e.line.part

-- e is the one entry of its call, and its point is not behind x, the entry of its caller at position j
pub record LooksBefore (before : List Entry) (e x : Entry) (j : ℕ) : Type 0 where
  pub ends : e.line.part ≡ part.End
  pub alone : list_any (is_same_call e) before ≡ false
  pub stands : slice_get before j ≡ Some x
  pub same : is_same_caller e x ≡ true
  pub early : e.line.point ≤ j

-- whether the act speaks of the table at its point, and not of the one at its own position
abbrev pub looks_back : Act → Bool
looks_back (Stored first stripes up) = true
looks_back Data = true
looks_back (Restored stripe row node inc) = true
looks_back _ = false

-- the point of an entry is not before the entry that it follows, and is its own position unless it looks back
pub record PointFits (before : List Entry) (e : Entry) : Type 0 where
  pub late : follows before e ≤ e.line.point
  pub early : e.line.point ≤ length before
  pub own : looks_back e.line.act ≡ false → e.line.point ≡ length before

-- no loss of this node stands from position p on
abbrev pub NoLossFrom : List Entry → ℕ → ℕ → Type 0
NoLossFrom before p node = list_any (is_loss node) (drop p before) ≡ false

-- whether a row of the stripe is live in the table on the node that is lost
abbrev pub loses_row : PlainTable → ℕ → Option ℕ → Bool
loses_row t s None = false
loses_row t s (Some node) = list_any (stands_live node) (rows_of t s)

-- whether an entry, in the table before it, is voiding for a stripe: a loss of a node on which a row of the stripe is
-- live, or a row of the stripe given up
abbrev pub is_voiding : PlainTable → ℕ → Entry → Bool
is_voiding t s e = loses_row t s (loss_of e) || is_number (dropped_stripe e.line.act) s

-- whether the entry at a position passes a test of the table before it and the entry
abbrev pub passes_at : Shape → List Entry → (PlainTable → Entry → Bool) → ℕ → Bool
passes_at shape before test v = option_map_or (test (table_at shape before v)) (slice_get before v) false

-- for each attempt a position, strictly rising, none below q, of entries that each pass the test
pub record AreOvertaking (shape : Shape) (before : List Entry) (q : ℕ) (test : PlainTable → Entry → Bool) (at : List ℕ) : Type 0 where
  pub for_each : length at ≡ MAX_ATTEMPTS
  pub rising : IsStrictlyIncreasing at
  pub within : All (λ v. (q ≤ v) × (v < length before)) at
  pub each : All (λ v. IsTrue (passes_at shape before test v)) at
