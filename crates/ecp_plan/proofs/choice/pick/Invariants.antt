use Rattle.std.proofs.Common.{◌≡◌, ◌-◌, length, take, drop, replicate}
use Rattle.ecp_shape.specs.declared.limits.TheConstants.{MAX_ROWS}
use Rattle.ecp_plan.specs.Turns.{row_end, is_taken}
use Rattle.ecp_plan.proofs.ChosenRows.{IsPicking}
use Rattle.ecp_plan.proofs.choice.pick.Given as goal

abbrev pub invariant-loop-row : goal.invariant-loop-row
invariant-loop-row l = record {
  picking : IsPicking (is_taken l.stamps l.last) l.live (row_end l.after) (take l.picks.len l.picks.rows);
  len : l.picks.len ≡ length (take l.picks.len l.picks.rows);
  rest : drop l.picks.len l.picks.rows ≡ replicate (MAX_ROWS - l.picks.len) 0;
}

abbrev pub decreases-loop-row : goal.decreases-loop-row
decreases-loop-row l = l.k - l.picks.len
