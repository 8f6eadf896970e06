use Rattle.ecp_sequencer.proofs.StepLaws.{steps_none}
use Rattle.ecp_sequencer.proofs.laws.passes_may_stand.Goals as goal

pub returns : goal.returns
returns c = steps_none
