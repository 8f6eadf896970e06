use Rattle.ecp_history.proofs.LegalLaws.{beginning}
use Rattle.ecp_history.proofs.laws.beginnings_are_legal.Goals as goal

pub returns : goal.returns
returns c = beginning
