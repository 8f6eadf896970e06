use Rattle.ecp_sequencer.proofs.StepLaws.{steps_by_hand}
use Rattle.ecp_sequencer.proofs.laws.steps_add_just_their_entries.Goals as goal

pub returns : goal.returns
returns c = steps_by_hand
