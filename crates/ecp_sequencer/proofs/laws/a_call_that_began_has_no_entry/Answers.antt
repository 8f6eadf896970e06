use Rattle.ecp_sequencer.proofs.CallLaws.{begun_alone}
use Rattle.ecp_sequencer.proofs.laws.a_call_that_began_has_no_entry.Goals as goal

pub returns : goal.returns
returns c = begun_alone
