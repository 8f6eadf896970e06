use Rattle.ecp_history.proofs.LossLaws.{stays_lost}
use Rattle.ecp_history.proofs.laws.lost_blocks_stay_lost.Goals as goal

pub returns : goal.returns
returns c = stays_lost
