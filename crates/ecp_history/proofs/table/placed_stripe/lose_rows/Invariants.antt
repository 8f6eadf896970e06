use Rattle.std.proofs.Common.{◌≡◌, ◌++◌, take, drop, map}
use Rattle.ecp_history.specs.table.Steps.{without_node}
use Rattle.ecp_history.proofs.table.placed_stripe.lose_rows.Given as goal

abbrev pub invariant-loop-row : goal.invariant-loop-row
invariant-loop-row l = l.rows ≡ map (without_node l.node) (take l.row-index l.fn.rows) ++ drop l.row-index l.fn.rows
