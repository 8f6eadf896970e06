use Rattle.ecp_entry.proofs.ToldLaws.{by_hand-more}
use Rattle.ecp_entry.proofs.laws.each_hand_has_its_entries.Goals as goal

pub returns : goal.returns
returns c = by_hand-more
