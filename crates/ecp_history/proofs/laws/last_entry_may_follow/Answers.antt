use Rattle.ecp_history.proofs.LegalLaws.{last_follows}
use Rattle.ecp_history.proofs.laws.last_entry_may_follow.Goals as goal

pub returns : goal.returns
returns c = last_follows
