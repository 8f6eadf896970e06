-- Which rows help to make a block, and what the helpers of a plan have of a catalog.
use Rattle.std.specs.Prelude.{◌≡◌, ℕ, ◌<◌, ◌≤◌, ◌⊎◌, true, false, List, [], ◌∷◌, length, map, take, slice_get, nat_eq, All, Some}
use Rattle.std.specs.List.{IsDistinct}
use Rattle.ecp_shape.specs.declared.limits.TheConstants.{MAX_NODES}
use Rattle.ecp_code.specs.Weights.{weights}
use Rattle.ecp_history.specs.declared.table.block_name.BlockName.{BlockName}
use Rattle.ecp_plan.specs.Choice.{IsChoice}
use Rattle.ecp_plan.specs.declared.hop.Hop.{Hop}
use Rattle.ecp_catalog.specs.Standing.{live_among}
use Rattle.ecp_catalog.specs.Catalogs.{CatalogState, is_live_in, receipts_of, standings_of}
use Rattle.ecp_coord.specs.declared.helping.Helpers.{Helpers}

-- the rows that are chosen, and their weights
abbrev pub rows_chosen : Helpers → List ℕ
rows_chosen h = take h.len h.rows

abbrev pub weights_chosen : Helpers → List ℕ
weights_chosen h = take h.len h.weights

-- Some rows can make the block: it is live, or at least k rows of its stripe are, each of them on a node of its own
pub record CanHelp (c : CatalogState) (b : BlockName) : Type 0 where
  pub in_stripe : b.row < c.shape.n
  pub enough : (is_live_in c b.stripe b.row ≡ true) ⊎ (c.shape.k ≤ length (live_among (standings_of c b.stripe)))
  pub apart : IsDistinct nat_eq (map (λ x. x.node) (live_among (standings_of c b.stripe)))
  pub stamped : All (λ x. x.node < MAX_NODES) (live_among (standings_of c b.stripe))

-- These rows, with these weights, are to make the block: the row itself where it is live, with weight 1, and else k live rows whose nodes'
-- turns come first, with their weights among each other
pub record Helps (c : CatalogState) (stamps : List ℕ) (b : BlockName) (rows ws : List ℕ) : Type 0 where
  pub direct : is_live_in c b.stripe b.row ≡ true → (rows ≡ b.row ∷ []) × (ws ≡ 1 ∷ [])
  pub others : is_live_in c b.stripe b.row ≡ false → IsChoice stamps (live_among (standings_of c b.stripe)) c.shape.k rows × (ws ≡ weights rows b.row)

-- these were chosen so, and are no more than a stripe has data rows
pub record AreHelpers (c : CatalogState) (stamps : List ℕ) (b : BlockName) (h : Helpers) : Type 0 where
  pub helps : Helps c stamps b (rows_chosen h) (weights_chosen h)
  pub most : h.len ≤ c.shape.k
  pub few : h.len ≤ 16

-- a helper has the receipt that the catalog has for its row of a stripe, with its node and incarnation
pub record IsGiven (c : CatalogState) (s : ℕ) {N : Type 0} (hop : Hop N) : Type 0 where
  pub receipt : slice_get (receipts_of c s) hop.row ≡ Some hop.receipt
  pub node : hop.node ≡ hop.receipt.node
  pub inc : hop.inc ≡ hop.receipt.inc

-- the helpers have the rows that were chosen, their weights, and their receipts
pub record AreGiven (c : CatalogState) (s : ℕ) (h : Helpers) {N : Type 0} (hops : List (Hop N)) : Type 0 where
  pub rows : map (λ x. x.row) hops ≡ rows_chosen h
  pub weighted : map (λ x. x.weight) hops ≡ weights_chosen h
  pub given : All (IsGiven c s) hops

-- the helpers of a plan are to make the block, each by the receipt of its row; they are no more than a stripe has rows
pub record IsHelped (c : CatalogState) (stamps : List ℕ) (b : BlockName) {N : Type 0} (hops : List (Hop N)) : Type 0 where
  pub helps : Helps c stamps b (map (λ x. x.row) hops) (map (λ x. x.weight) hops)
  pub given : All (IsGiven c b.stripe) hops
  pub few : length hops ≤ 16
