use Rattle.ecp_catalog.proofs.OutlineLaws.{unchanged}
use Rattle.ecp_catalog.proofs.laws.most_entries_leave_the_outline.Goals as goal

pub returns : goal.returns
returns c = unchanged
