-- When a message is sound: which plan it carries, where its slice lies, which helpers were added, and what they sum to.
use Rattle.std.specs.Prelude.{◌≡◌, ℕ, ◌+◌, ◌/◌, ◌%◌, ◌<◌, ◌≤◌, ◌↔◌, ◌==◌, if◌then◌else◌, Bool, List, [], ◌∷◌, length, map, replicate, All, IsTrue, count_ones}
use Rattle.std.specs.Int.{bit_at}
use Rattle.ecp_field.specs.Lists.{sums, scaled}
use Rattle.ecp_shape.specs.declared.shape.Shape.{Shape}
use Rattle.ecp_history.specs.Plans as history
use Rattle.ecp_plan.specs.Order.{slice_count, slice_start, slice_end}
use Rattle.ecp_slice.specs.Messages.{Message, helpers, visited, slice_of}

-- the sum over the helpers that were added of their slices, each times its weight. Bit i of the mask is set where helper
-- i was added, the lowest bit being that of the first
abbrev pub sum_added : ℕ → ℕ → List ℕ → List (List ℕ) → List ℕ
sum_added len added [] slices = replicate len 0
sum_added len added (w ∷ ws) [] = replicate len 0
sum_added len added (w ∷ ws) (slice ∷ slices) =
    if added % 2 == 1 then sums (scaled w slice) (sum_added len (added / 2) ws slices)
    else sum_added len (added / 2) ws slices

-- the partial sum: over the helpers that were added, of the message's slice of the bytes that their receipts name
abbrev pub partial_sum : Message → List ℕ
partial_sum m = sum_added m.len m.summed m.weights (map (λ r. slice_of m r.bytes) m.route)

-- the plan that a message carries
abbrev pub plan_of : Message → history.Plan
plan_of m = record {
  target = m.row;
  route = record { stripe = m.stripe; rows = m.rows; nodes = m.nodes; bytes = map (λ r. r.bytes) m.route };
  weights = m.weights;
  len = m.block;
  slice = m.size;
  lanes = m.lanes;
}

-- each receipt is that of its row of the stripe, on its node
pub record AreNamed (m : Message) : Type 0 where
  pub of_stripe : All (λ r. r.stripe ≡ m.stripe) m.route
  pub of_rows : map (λ r. r.row) m.route ≡ m.rows
  pub of_nodes : map (λ r. r.node) m.route ≡ m.nodes

-- the slice is one of the block, from its offset on, of its length
pub record IsSlice (m : Message) : Type 0 where
  pub of_block : m.slice < slice_count m.block m.size
  pub begins : m.off ≡ slice_start m.size m.slice
  pub ends : m.off + m.len ≡ slice_end m.block m.size m.slice

-- a helper is one of the first `at` that the slice visits
abbrev pub IsVisited : Message → ℕ → Type 0
IsVisited m hop = (t : ℕ) × (t < m.at) × (visited m t ≡ hop)

-- as many bits are set as helpers were added, and they are those of the first helpers that the slice visits
pub record AreAdded (m : Message) : Type 0 where
  pub within : m.at ≤ helpers m
  pub counted : count_ones m.summed ≡ m.at
  pub bits : (hop : ℕ) → (bit_at m.summed hop ≡ 1) ↔ IsVisited m hop

-- the payload has the slice's length, is zeros where no helper was added, and where payloads are told is the partial sum
pub record IsSummed (told : Bool) (m : Message) : Type 0 where
  pub whole : length m.payload ≡ m.len
  pub empty : m.at ≡ 0 → m.payload ≡ replicate m.len 0
  pub exact : IsTrue told → m.payload ≡ partial_sum m

-- a sound message: its plan is sound by the history that its front tells, its receipts are those of its rows, its slice
-- is one of the block, and its payload is the sum over the helpers that it visited
pub record IsSound (shape : Shape) (told : Bool) (m : Message) : Type 0 where
  pub planned : history.IsSoundPlan shape told m.front (plan_of m)
  pub named : AreNamed m
  pub placed : IsSlice m
  pub added : AreAdded m
  pub summed_up : IsSummed told m
