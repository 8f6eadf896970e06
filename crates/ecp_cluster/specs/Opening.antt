-- With what a service is opened.
use Rattle.std.specs.Prelude.{◌≡◌, ℕ, ◌+◌, ◌*◌, ◌<◌, ◌≤◌, Bool, List, length, slice_index_or}
use Rattle.ecp_shape.specs.declared.limits.TheConstants.{MAX_SESSIONS, MAX_WINDOW, MAX_WORKERS}
use Rattle.ecp_shape.specs.declared.shape.Shape.{Shape}
use Rattle.ecp_shape.specs.Range.{IsInRange}
use Rattle.ecp_book.specs.Names.{StoreStart}
use Rattle.ecp_node.specs.Nodes.{start_of}
use Rattle.ecp_sequencer.specs.Hands.{hands_of}

-- how many logs there are: the history's, one for each node, and two for each hand
abbrev pub logs_for : ℕ → ℕ → ℕ → ℕ
logs_for nodes callers spares = 1 + nodes + 2 * hands_of callers spares

-- the sizes keep their limits, and there are as many logs as they take
pub record CanServe (shape : Shape) (slice window hands sessions logs : ℕ) : Type 0 where
  pub range : IsInRange shape
  pub sliced : (1 ≤ slice) × (slice ≤ shape.block)
  pub windowed : (1 ≤ window) × (window ≤ MAX_WINDOW)
  pub handed : (1 ≤ hands) × (hands ≤ MAX_WORKERS)
  pub called : (1 ≤ sessions) × (sessions ≤ MAX_SESSIONS)
  pub logged : logs ≡ logs_for shape.nodes sessions hands

-- a store that failed so often, and is faultless or is not
abbrev pub starting : ℕ → Bool → StoreStart
starting faults faultless = record { faults = faults; faultless = faultless }

-- the stores are those of so many nodes, in rising order, as a name states them
pub record AreStarts {S : Type 0} (faults : S → ℕ) (faultless : S → Bool) (starts : List StoreStart) (nodes : ℕ) (stores : List S) : Type 0 where
  pub each : length stores ≡ nodes
  pub stated : (m : ℕ) (s : S) → m < nodes → start_of starts m ≡ starting (faults (slice_index_or stores m s)) (faultless (slice_index_or stores m s))
