-- When a plan for a block is sound: what stands behind its helpers, and how they are summed.
use Rattle.std.specs.Prelude.{◌≡◌, ℕ, ◌<◌, ◌≤◌, ◌⊎◌, Bool, true, false, List, [], ◌∷◌, length, map, All, nat_eq}
use Rattle.std.specs.List.{IsDistinct}
use Rattle.ecp_code.specs.Weights.{weights}
use Rattle.ecp_shape.specs.declared.shape.Shape.{Shape}
use Rattle.ecp_shape.specs.Range.{IsInRange}
use Rattle.ecp_history.specs.table.Tables.{PlainTable, HasStripe, block}
use Rattle.ecp_history.specs.Fronts.{told_table}
use Rattle.ecp_history.specs.Legal.{TellsLegal}

-- the helpers of a block: rows of a stripe, the node of each, and the bytes that each is said to have there
pub record Route : Type 0 where
  pub stripe : ℕ
  pub rows : List ℕ
  pub nodes : List ℕ
  pub bytes : List (List ℕ)

-- a plan for a row of the stripe of its route: the weight of each helper, how many bytes a block and a slice have, and
-- along how many lanes the slices pass
pub record Plan : Type 0 where
  pub target : ℕ
  pub route : Route
  pub weights : List ℕ
  pub len : ℕ
  pub slice : ℕ
  pub lanes : ℕ

-- the named bytes are those of the rows of the stripe; where payloads are not told they are as long as a block
abbrev pub AreRows : Shape → Bool → PlainTable → Route → Type 0
AreRows shape true t route = route.bytes ≡ map (block t route.stripe) route.rows
AreRows shape false t route = (length route.bytes ≡ length route.rows) × All (λ b. length b ≡ shape.block) route.bytes

-- the rows are those of a stripe of the table, each on one of the nodes, and the bytes are those of the rows
pub record IsRoute (shape : Shape) (told : Bool) (t : PlainTable) (route : Route) : Type 0 where
  pub there : HasStripe t route.stripe
  pub in_stripe : All (λ r. r < shape.n) route.rows
  pub one_each : length route.nodes ≡ length route.rows
  pub on_nodes : All (λ m. m < shape.nodes) route.nodes
  pub named : AreRows shape told t route

-- k distinct rows, with their weights for the target
pub record IsSum (shape : Shape) (target : ℕ) (rows ws : List ℕ) : Type 0 where
  pub count : length rows ≡ shape.k
  pub distinct : IsDistinct nat_eq rows
  pub weighted : ws ≡ weights rows target

-- the one row is the target itself, with weight 1
pub record IsDirect (target : ℕ) (rows ws : List ℕ) : Type 0 where
  pub itself : rows ≡ target ∷ []
  pub weighted : ws ≡ 1 ∷ []

-- the front tells a legal history, and the route is one in its table
pub record IsRouteIn (shape : Shape) (told : Bool) (front : List (List ℕ)) (route : Route) : Type 0 where
  pub legal : TellsLegal shape told front
  pub known : IsRoute shape told (told_table shape front) route

-- a sound plan: the sizes are in their range, and the target is a row of a stripe; by the history that its front tells, its
-- helpers are rows of the stripe, and they make the target; its block length is the shape's, a slice has 1 byte to a block,
-- and it has one lane or one a helper
pub record IsSoundPlan (shape : Shape) (told : Bool) (front : List (List ℕ)) (plan : Plan) : Type 0 where
  pub in_range : IsInRange shape
  pub of_row : plan.target < shape.n
  pub helpers : IsRouteIn shape told front plan.route
  pub makes : IsSum shape plan.target plan.route.rows plan.weights ⊎ IsDirect plan.target plan.route.rows plan.weights
  pub len_is : plan.len ≡ shape.block
  pub some : 1 ≤ plan.slice
  pub within : plan.slice ≤ plan.len
  pub lanes_are : (plan.lanes ≡ 1) ⊎ (plan.lanes ≡ length plan.route.rows)
