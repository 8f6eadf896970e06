-- What is known once a service was closed.
use Rattle.std.specs.Prelude.{◌≡◌, ℕ, ◌<◌, Bool, List, length, slice_index_or}
use Rattle.ecp_shape.specs.declared.shape.Shape.{Shape}
use Rattle.ecp_book.specs.Logs.{Log}
use Rattle.ecp_book.specs.Names.{StoreStart}
use Rattle.ecp_entry.specs.declared.line.Line.{Line}
use Rattle.ecp_entry.specs.Told.{history_of}
use Rattle.ecp_node.specs.Nodes.{NodeState, start_of}
use Rattle.ecp_history.specs.Files.{StripesBounded}
use Rattle.ecp_sequencer.specs.Closed.{Closed}
use Rattle.ecp_sequencer.specs.Passes.{PassState}
use Rattle.ecp_sequencer.specs.Sequencers.{SequencerState}
use Rattle.ecp_coord.specs.Budget.{IsPaid}
use Rattle.ecp_coord.specs.Numbers.{AllEnded, calls_ended}

-- A node of this number paid for each entry of the history that tells of a failure of its store, which failed so often
pub record HasPaid (history : Log) (start : StoreStart) (number failed : ℕ) : Type 0 where
  pub node : NodeState
  pub numbered : node.number ≡ number
  pub paid : IsPaid history start node
  pub faults : failed ≡ node.store_faults

-- the stores are those of so many nodes, in rising order, and each paid
pub record AllPaid {S : Type 0} (failed : S → ℕ) (starts : List StoreStart) (history : Log) (nodes : ℕ) (stores : List S) : Type 0 where
  pub each : length stores ≡ nodes
  pub paid : (m : ℕ) (store : S) → m < nodes → HasPaid history (start_of starts m) m (failed (slice_index_or stores m store))

-- The lines and the passes are of one legal history, which uses no more stripe numbers than its calls ask for; and each store paid for the
-- entries that tell of its failures
pub record Ended {S : Type 0} (shape : Shape) (told : Bool) (callers spares : ℕ) (failed : S → ℕ) (starts : List StoreStart) (lines : List Line) (passes : List PassState) (stores : List S) : Type 0 where
  pub last : SequencerState
  pub closed : Closed shape told callers spares last lines passes
  pub numbers : AllEnded callers spares (history_of last.history) passes → StripesBounded (calls_ended shape (history_of last.history)) (history_of last.history)
  pub stores_paid : AllPaid failed starts last.history shape.nodes stores
