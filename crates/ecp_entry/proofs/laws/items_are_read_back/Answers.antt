use Rattle.ecp_entry.proofs.ToldLaws.{read_back}
use Rattle.ecp_entry.proofs.laws.items_are_read_back.Goals as goal

pub returns : goal.returns
returns c = read_back
