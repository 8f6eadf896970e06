use Rattle.ecp_history.proofs.CountLaws.{counted_more}
use Rattle.ecp_history.proofs.laws.counted_entries_grow.Goals as goal

pub returns : goal.returns
returns c = counted_more
