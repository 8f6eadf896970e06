use Rattle.ecp_sequencer.specs.Rounds.{Worked}
use Rattle.ecp_coord.proofs.tests.spine.work.Given as goal

abbrev pub invariant-loop : goal.invariant-loop
invariant-loop g l = Worked l.fn.pass l.pass
