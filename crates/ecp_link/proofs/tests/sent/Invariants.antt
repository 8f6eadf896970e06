use Rattle.ecp_link.specs.Links.{IsSame}
use Rattle.ecp_link.proofs.tests.sent.Given as goal

abbrev pub invariant-loop-place : goal.invariant-loop-place
invariant-loop-place g l = IsSame l.initial.sender l.sender
