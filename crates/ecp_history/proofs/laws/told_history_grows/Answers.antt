use Rattle.ecp_entry.proofs.ToldLaws.{history_of-more}
use Rattle.ecp_history.proofs.FrontLaws.{legal_more}
use Rattle.ecp_history.proofs.laws.told_history_grows.Goals as goal

pub returns : goal.returns
returns c = record { legal = legal_more; history = history_of-more }
