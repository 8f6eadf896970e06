use Rattle.std.proofs.Common.{◌≡◌}
use Rattle.ecp_requestor.proofs.flight.Flight.begin.Given as goal

abbrev pub invariant-loop-place : goal.invariant-loop-place
invariant-loop-place g l = l.plan ≡ l.initial.plan
