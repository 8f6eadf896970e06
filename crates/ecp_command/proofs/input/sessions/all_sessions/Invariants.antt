use Rattle.std.proofs.Common.{[]}
use Rattle.ecp_command.specs.Input.Sessions.{HaveCalls}
use Rattle.ecp_command.proofs.input.sessions.all_sessions.Given as goal

abbrev pub invariant-loop-number : goal.invariant-loop-number
invariant-loop-number l = HaveCalls l.number [] l.sessions.items
