use Rattle.ecp_catalog.proofs.OutlineLaws.{lost_outline, losses_behind}
use Rattle.ecp_catalog.proofs.laws.a_loss_is_outlined.Goals as goal

pub returns : goal.returns
returns c = record { outline = lost_outline; behind = losses_behind }
