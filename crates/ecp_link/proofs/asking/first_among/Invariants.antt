use Rattle.ecp_link.specs.Among.{NoneAmong}
use Rattle.ecp_link.proofs.asking.first_among.Given as goal

abbrev pub invariant-loop-from : goal.invariant-loop-from
invariant-loop-from g l = NoneAmong l.first l.from l.initial.ends l.ends
