use Rattle.ecp_history.proofs.tables.BytesLaws.{blocks_of_bytes}
use Rattle.ecp_history.proofs.laws.blocks_are_bytes.Goals as goal

pub returns : goal.returns
returns c = blocks_of_bytes
