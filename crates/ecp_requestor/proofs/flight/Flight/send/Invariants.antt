use Rattle.std.proofs.Common.{vec_len}
use Rattle.ecp_requestor.proofs.flight.Flight.send.Given as goal

abbrev pub decreases-loop-message : goal.decreases-loop-message
decreases-loop-message g l = vec_len l.self.ready
