use Rattle.ecp_history.proofs.PlanLaws.{block_stays}
use Rattle.ecp_history.proofs.laws.blocks_stay.Goals as goal

pub returns : goal.returns
returns c = block_stays
