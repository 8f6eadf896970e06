-- The plan of an attempt, as it is made from a catalog and the stamps.
use Rattle.std.specs.Prelude.{◌≡◌, ℕ, ◌+◌, ◌^◌, ◌<◌, ◌≤◌, Bool, if◌then◌else◌, List, length, replicate, vec_capacity, None}
use Rattle.ecp_shape.specs.declared.limits.TheConstants.{MAX_ATTEMPTS}
use Rattle.ecp_book.specs.Logs.{Log, history_log}
use Rattle.ecp_plan.specs.declared.plan.Plan.{Plan}
use Rattle.ecp_catalog.specs.Catalogs.{CatalogState}
use Rattle.ecp_coord.specs.declared.planning.Making.{Making}
use Rattle.ecp_coord.specs.Helping.{IsHelped}
use Rattle.ecp_coord.specs.Plans.{block_of}

-- one lane, or one for each of so many helpers
abbrev pub lanes_for : Bool → ℕ → ℕ
lanes_for cyclic helpers = if cyclic then helpers else 1

-- The plan has the helpers of a catalog and of the stamps, and this history is its front
pub record IsOf (c : CatalogState) (stamps : List ℕ) (cyclic : Bool) (history : Log) {N : Type 0} (plan : Plan N) : Type 0 where
  pub helped : IsHelped c stamps (block_of plan) plan.hops.items
  pub lanes : plan.lanes ≡ lanes_for cyclic (length plan.hops.items)
  pub point : plan.point ≡ length history
  pub front : plan.front ≡ record { log = history_log; items = history }
  pub fits : c.shape.k ≤ vec_capacity plan.hops

-- the first attempt of a new repair
pub record IsFirst (c : CatalogState) (stamps : List ℕ) (m : Making) (history : Log) {N : Type 0} (plan : Plan N) : Type 0 where
  pub made : IsOf c stamps m.cyclic history plan
  pub block : block_of plan ≡ m.block
  pub part : plan.part ≡ m.part
  pub sizes : (plan.block ≡ c.shape.block) × (plan.slice ≡ m.slice)
  pub numbered : (plan.repair ≡ m.repair) × (plan.attempt ≡ 1)
  pub more : plan.repair + 1 < 2 ^ 64
  pub tries : plan.voids ≡ record { len = 0; at = replicate MAX_ATTEMPTS 0 }
  pub onto : plan.to ≡ None

-- the next attempt of the same repair
pub record IsNext (c : CatalogState) (stamps : List ℕ) (cyclic : Bool) (history : Log) {N : Type 0} (old new : Plan N) : Type 0 where
  pub made : IsOf c stamps cyclic history new
  pub same : new ≡ record old { attempt = old.attempt + 1; lanes = new.lanes; hops = new.hops; point = new.point; front = new.front }
