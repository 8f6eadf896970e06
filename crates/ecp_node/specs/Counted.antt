-- What the code keeps beside a node's log.
use Rattle.std.specs.Prelude.{◌≡◌, ℕ, ◌+◌, ◌≤◌}
use Rattle.ecp_book.specs.Logs.{Log, node_log}
use Rattle.ecp_node.specs.declared.limits.TheConstants.{LOG_END, MAX_LOSSES}
use Rattle.ecp_node.specs.Held.{wipes, faults, spends, places}

-- the log of a node
pub record NodeItems : Type 0 where
  pub node : ℕ
  pub items : Log

-- the numbers are those of the log, and its last places are kept for wipes and spendings
pub record IsCounted (log node : ℕ) (items : Log) (wiped_count faulted_count spent_count : ℕ) : Type 0 where
  pub own : log ≡ node_log node
  pub wiped : wiped_count ≡ wipes items
  pub faulted : faulted_count ≡ faults items
  pub spent : spent_count ≡ spends items
  pub paid : spends items ≤ faults items
  pub few : wipes items ≤ MAX_LOSSES
  pub room : places items ≤ LOG_END + 1 + wipes items
