use Rattle.ecp_sequencer.proofs.StepLaws.{entries_past}
use Rattle.ecp_sequencer.proofs.laws.entries_stand_past_the_notes_before_them.Goals as goal

pub returns : goal.returns
returns c = entries_past
