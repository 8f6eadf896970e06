use Rattle.ecp_catalog.proofs.OutlineLaws.{at_start}
use Rattle.ecp_catalog.proofs.laws.the_start_is_an_outline.Goals as goal

pub returns : goal.returns
returns c = at_start
