-- What a plan says, and when it is sound.
use Rattle.std.specs.Prelude.{◌≡◌, ℕ, Bool, map, All}
use Rattle.ecp_shape.specs.declared.shape.Shape.{Shape}
use Rattle.ecp_book.specs.Logs.{history_log}
use Rattle.ecp_history.specs.Plans as history
use Rattle.ecp_plan.specs.declared.hop.Hop.{Hop}
use Rattle.ecp_plan.specs.declared.plan.Plan.{Plan}

-- the helpers of a plan, with the bytes that their receipts name
abbrev pub route_of : {N : Type 0} → Plan N → history.Route
route_of plan = record {
  stripe = plan.stripe;
  rows = map (λ hop. hop.row) plan.hops.items;
  nodes = map (λ hop. hop.node) plan.hops.items;
  bytes = map (λ hop. hop.receipt.bytes) plan.hops.items;
}

-- a plan as plain numbers and bytes
abbrev pub plan_seen : {N : Type 0} → Plan N → history.Plan
plan_seen plan = record {
  target = plan.row;
  route = route_of plan;
  weights = map (λ hop. hop.weight) plan.hops.items;
  len = plan.block;
  slice = plan.slice;
  lanes = plan.lanes;
}

-- the receipt of a helper is that of its row of this stripe, on its node
pub record IsNamed {N : Type 0} (stripe : ℕ) (hop : Hop N) : Type 0 where
  pub of_stripe : hop.receipt.stripe ≡ stripe
  pub of_row : hop.receipt.row ≡ hop.row
  pub of_node : hop.receipt.node ≡ hop.node

-- a sound plan: its front is a beginning of the history, by which its helpers make its row, and their receipts are those
-- of their rows
pub record IsSound {N : Type 0} (shape : Shape) (told : Bool) (plan : Plan N) : Type 0 where
  pub front : plan.front.log ≡ history_log
  pub sound : history.IsSoundPlan shape told plan.front.items (plan_seen plan)
  pub named : All (IsNamed plan.stripe) plan.hops.items
