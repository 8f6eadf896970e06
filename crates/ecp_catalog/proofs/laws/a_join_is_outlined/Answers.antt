use Rattle.ecp_catalog.proofs.JoinLaws.{joined_outline, joins_few}
use Rattle.ecp_catalog.proofs.laws.a_join_is_outlined.Goals as goal

pub returns : goal.returns
returns c = record { outline = joined_outline; few = joins_few }
