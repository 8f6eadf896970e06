use Rattle.ecp_entry.proofs.ItemLaws.{item-injective}
use Rattle.ecp_entry.proofs.laws.items_differ.Goals as goal

pub returns : goal.returns
returns c = item-injective
