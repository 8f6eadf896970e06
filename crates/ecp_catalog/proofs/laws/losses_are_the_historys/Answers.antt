use Rattle.ecp_catalog.proofs.OutlineLaws.{first_losses}
use Rattle.ecp_catalog.proofs.laws.losses_are_the_historys.Goals as goal

pub returns : goal.returns
returns c = first_losses
