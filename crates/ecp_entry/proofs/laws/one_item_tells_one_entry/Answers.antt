use Rattle.ecp_entry.proofs.ToldLaws.{tells_more}
use Rattle.ecp_entry.proofs.laws.one_item_tells_one_entry.Goals as goal

pub returns : goal.returns
returns c = tells_more
