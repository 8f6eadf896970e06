use Rattle.std.proofs.Common.{take}
use Rattle.ecp_plan.specs.Turns.{row_end, is_taken, IsNext}
use Rattle.ecp_plan.proofs.choice.next_row.Given as goal

abbrev pub invariant-loop-row : goal.invariant-loop-row
invariant-loop-row l = IsNext (is_taken l.stamps l.last) (λ x. x.row) (take l.row-index l.live) (row_end l.after) l.next
