use Rattle.std.proofs.Common.{◌≡◌, ℕ, ◌<◌, length, get_or}
use Rattle.ecp_history.specs.table.Tables.{inc_of}
use Rattle.ecp_catalog.specs.Catalogs.{plain}
use Rattle.ecp_coord.proofs.places.incarnations.Given as goal

-- the incarnations of the nodes so far
abbrev pub invariant-loop-node : goal.invariant-loop-node
invariant-loop-node g l = (length l.incs ≡ 32) × ((k : ℕ) → k < l.node → get_or l.incs k 0 ≡ inc_of (plain l.catalog) k)
