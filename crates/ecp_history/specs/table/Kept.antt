-- What a table keeps, and what is seen of it.
use Rattle.std.specs.Prelude.{◌≡◌, ℕ, List, length, reverse, find, slice_get, bytes_eq, option_and_then, MatchOption, ⊤, ◌<◌}
use Rattle.std.specs.Ordering.{nat_cmp, ordering_then}
use Rattle.std.specs.declared.cmp.Ordering.{Ordering}
use Rattle.std.specs.BTreeMap.{get}
use Rattle.std.specs.Cmp.Lexicographic.{slice_cmp}
use Rattle.std.specs.List.{AllByRecursion}
use Rattle.ecp_history.specs.declared.table.Table.TheInside.{Inside}
use Rattle.ecp_shape.specs.Range.{IsInRange}
use Rattle.ecp_entry.specs.Filled.{zero_filled}
use Rattle.ecp_history.specs.table.Rising.{IsRising}
use Rattle.ecp_history.specs.table.Tables.{Shaped}

-- names are ordered by their length and then by their bytes
abbrev pub name_cmp : List ℕ → List ℕ → Ordering
name_cmp a b = ordering_then (nat_cmp (length a) (length b)) (slice_cmp nat_cmp (zero_filled (length a) a) (zero_filled (length b) b))

-- the table, with its files the newest first
abbrev pub shown : Inside → Shaped
shown a = record { shape = a.shape; table = record { files = reverse a.files.items; stripes = a.stripes.items; nodes = a.nodes.items } }

-- the code is that of the shape, the stripes rise and have k data blocks each, and each name leads to its newest file
pub record IsKept (a : Inside) : Type 0 where
  pub in_range : IsInRange a.shape
  pub n_is : a.code.n ≡ a.shape.n
  pub k_is : a.code.k ≡ a.shape.k
  pub nodes : length a.nodes.items ≡ a.shape.nodes
  pub rising : IsRising a.stripes.items
  pub full : AllByRecursion (λ x. length x.blocks ≡ a.shape.k) a.stripes.items
  pub named : (q : List ℕ) → find (λ f. bytes_eq f.name q) (reverse a.files.items) ≡ option_and_then (λ i. slice_get a.files.items i) (get name_cmp a.names q)
  pub within : (q : List ℕ) → MatchOption (get name_cmp a.names q) ⊤ (λ i. i < length a.files.items)
