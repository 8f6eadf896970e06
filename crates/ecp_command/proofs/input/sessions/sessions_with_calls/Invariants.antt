use Rattle.ecp_command.proofs.Inputs.Gathering.{AreGathered}
use Rattle.ecp_command.proofs.input.sessions.sessions_with_calls.Given as goal

abbrev pub invariant-lines : goal.invariant-lines
invariant-lines l = AreGathered l.yielded l.sessions.items l.session l.phase
