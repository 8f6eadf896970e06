use Rattle.ecp_link.specs.Links.{KeepsSenders}
use Rattle.ecp_link.proofs.tests.take.Given as goal

abbrev pub invariant-loop : goal.invariant-loop
invariant-loop g l = KeepsSenders l.initial.taker l.taker
