use Rattle.std.proofs.Common.{◌≡◌}
use Rattle.ecp_history.specs.table.Steps.{rows_among}
use Rattle.ecp_history.proofs.table.storing.rows_on.Given as goal

abbrev pub invariant-loop-row : goal.invariant-loop-row
invariant-loop-row l = l.rows.items ≡ rows_among l.nodes l.row l.stripe
