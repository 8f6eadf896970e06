use Rattle.ecp_link.specs.Links.{IsSame}
use Rattle.ecp_link.proofs.tests.send.Given as goal

abbrev pub invariant-loop : goal.invariant-loop
invariant-loop g l = IsSame l.initial.sender l.sender
