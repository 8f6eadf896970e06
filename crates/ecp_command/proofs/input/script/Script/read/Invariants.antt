use Rattle.std.proofs.Common.{length}
use Rattle.ecp_command.proofs.Inputs.Scripts.{IsAt}
use Rattle.ecp_command.proofs.input.script.Script.read.Given as goal

abbrev pub invariant-lines : goal.invariant-lines
invariant-lines l = IsAt l.fn.head l.fn.text l.rest l.fn.first l.number l.script

abbrev pub decreases-lines : goal.decreases-lines
decreases-lines l = length l.rest
