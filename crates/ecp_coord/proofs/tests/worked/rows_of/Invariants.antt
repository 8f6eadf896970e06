use Rattle.ecp_coord.specs.OneByte.{AreRowsOf}
use Rattle.ecp_coord.proofs.tests.worked.rows_of.Given as goal

abbrev pub invariant-loop-row : goal.invariant-loop-row
invariant-loop-row g l = AreRowsOf l.fn.res l.row l.rows.items
