use Rattle.ecp_entry.proofs.ToldLaws.{tells_one}
use Rattle.ecp_entry.proofs.laws.one_history_is_told.Goals as goal

pub returns : goal.returns
returns c = tells_one
