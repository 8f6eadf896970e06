use Rattle.std.proofs.Common.{◌≡◌, map}
use Rattle.std.specs.List.{range_with_len}
use Rattle.ecp_command.specs.Input.Accepted.{session_view}
use Rattle.ecp_command.specs.Soak.{soak_session}
use Rattle.ecp_command.proofs.soak.soak_input.Given as goal

abbrev pub invariant-loop-number : goal.invariant-loop-number
invariant-loop-number l = map session_view l.sessions.items ≡ map (soak_session l.fn.seed) (range_with_len 0 l.number)
