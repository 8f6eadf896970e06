use Rattle.ecp_entry.proofs.ToldLaws.{history_of-append}
use Rattle.ecp_history.proofs.FrontLaws.{legal_beginning}
use Rattle.ecp_history.proofs.laws.legal_beginnings_are_told.Goals as goal

pub returns : goal.returns
returns c = record { legal = legal_beginning; history = history_of-append }
