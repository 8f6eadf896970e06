use Rattle.ecp_sequencer.proofs.StepLaws.{steps_both}
use Rattle.ecp_sequencer.proofs.laws.steps_go_on.Goals as goal

pub returns : goal.returns
returns c = steps_both
