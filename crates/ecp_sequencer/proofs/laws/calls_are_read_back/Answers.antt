use Rattle.ecp_sequencer.proofs.NoteLaws.{call_from-beginning}
use Rattle.ecp_sequencer.proofs.laws.calls_are_read_back.Goals as goal

pub returns : goal.returns
returns c = call_from-beginning
