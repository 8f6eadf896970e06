use Rattle.std.proofs.Common.{refl}
use Rattle.ecp_command.proofs.Inputs.Gathering.{one_session}
use Rattle.ecp_command.proofs.input.sessions.all_sessions.Goals as goal

pub loop-number-preserved : goal.loop-number-preserved
loop-number-preserved c = rw c.in_ok-push.ensures.items (one_session c.loop-number.number c.loop-number.sessions.items _ refl c.new.ensures.items c.loop-number.invariant)
