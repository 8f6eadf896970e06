use Rattle.ecp_entry.proofs.ToldLaws.{losses-items}
use Rattle.ecp_entry.proofs.laws.losses_are_told.Goals as goal

pub returns : goal.returns
returns c = losses-items
