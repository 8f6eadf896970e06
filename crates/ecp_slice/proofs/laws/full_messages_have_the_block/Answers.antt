use Rattle.ecp_slice.proofs.FullMessages.{full_payload}
use Rattle.ecp_slice.proofs.laws.full_messages_have_the_block.Goals as goal

pub returns : goal.returns
returns c = full_payload
