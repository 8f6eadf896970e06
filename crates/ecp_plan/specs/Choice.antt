-- Which rows of a stripe help to make one that is lost.
use Rattle.std.specs.Prelude.{◌≡◌, ℕ, ◌<◌, ◌⊎◌, List, length, map, slice_index, All, Contains}
use Rattle.std.specs.List.Sorted.{IsStrictlyIncreasing}
use Rattle.ecp_plan.specs.declared.live_row.LiveRow.{LiveRow}

-- it is node a's turn to help before node b's: its stamp is smaller, or they have one stamp and its number is smaller
abbrev pub IsBefore : List ℕ → ℕ → ℕ → Type 0
IsBefore stamps a b =
    (slice_index stamps a < slice_index stamps b) ⊎ ((slice_index stamps a ≡ slice_index stamps b) × (a < b))

-- the rows that are chosen are k of the live ones, in rising order, and it is the turn of the node of each of them
-- before that of the node of each live row that is not chosen
pub record IsChoice (stamps : List ℕ) (live : List LiveRow) (k : ℕ) (rows : List ℕ) : Type 0 where
  pub count : length rows ≡ k
  pub rising : IsStrictlyIncreasing rows
  pub among : All (Contains (map (λ x. x.row) live)) rows
  pub first : All (λ x. Contains rows x.row → All (λ y. (Contains rows y.row → ⊥) → IsBefore stamps x.node y.node) live) live
