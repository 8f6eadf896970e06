use Rattle.ecp_service.proofs.OneJournal.{one_journal}
use Rattle.ecp_service.proofs.laws.one_journal_is_printed.Goals as goal

pub returns : goal.returns
returns c = one_journal
