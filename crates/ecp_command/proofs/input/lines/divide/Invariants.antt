use Rattle.std.proofs.Common.{length}
use Rattle.ecp_command.proofs.Inputs.Dividing.{IsPast}
use Rattle.ecp_command.proofs.input.lines.divide.Given as goal

abbrev pub invariant-lines : goal.invariant-lines
invariant-lines l = IsPast l.fn.bytes l.rest l.first

abbrev pub decreases-lines : goal.decreases-lines
decreases-lines l = length l.rest
