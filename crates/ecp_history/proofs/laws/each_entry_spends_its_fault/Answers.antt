use Rattle.ecp_history.proofs.CountLaws.{faults_spent-more}
use Rattle.ecp_history.proofs.laws.each_entry_spends_its_fault.Goals as goal

pub returns : goal.returns
returns c = faults_spent-more
