use Rattle.ecp_sequencer.proofs.StepLaws.{first_whole, steps_whole}
use Rattle.ecp_sequencer.proofs.laws.passes_stay_whole.Goals as goal

pub returns-clause-first : goal.returns-clause-first
returns-clause-first c = first_whole

pub returns-clause-steps : goal.returns-clause-steps
returns-clause-steps c = steps_whole
