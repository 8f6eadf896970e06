-- The fault budget of a node.
use Rattle.std.specs.Prelude.{◌≤◌}
use Rattle.ecp_book.specs.Logs.{Log}
use Rattle.ecp_book.specs.Names.{StoreStart}
use Rattle.ecp_entry.specs.Told.{history_of}
use Rattle.ecp_node.specs.Held.{spends}
use Rattle.ecp_node.specs.Nodes.{NodeState, IsSound}
use Rattle.ecp_history.specs.Counted.{faults_spent}

-- The entries that tell of failures of a node's store are at most the failures that its log has as spent. Those are at most the failures
-- in its log, and these at most the rise of its store's count, as of every node
pub record IsPaid (history : Log) (start : StoreStart) (node : NodeState) : Type 0 where
  pub spent : faults_spent node.number (history_of history) ≤ spends node.items
  pub sound : IsSound start node
