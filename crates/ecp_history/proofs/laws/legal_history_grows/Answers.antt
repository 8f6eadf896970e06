use Rattle.ecp_history.proofs.LegalLaws.{appended}
use Rattle.ecp_history.proofs.laws.legal_history_grows.Goals as goal

pub returns : goal.returns
returns c = appended
