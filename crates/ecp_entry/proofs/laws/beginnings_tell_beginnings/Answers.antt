use Rattle.ecp_entry.proofs.ToldLaws.{tells_beginning}
use Rattle.ecp_entry.proofs.laws.beginnings_tell_beginnings.Goals as goal

pub returns : goal.returns
returns c = tells_beginning
