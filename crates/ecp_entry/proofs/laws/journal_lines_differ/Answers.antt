use Rattle.ecp_entry.proofs.LineLaws.{journal_line-injective}
use Rattle.ecp_entry.proofs.laws.journal_lines_differ.Goals as goal

pub returns : goal.returns
returns c = journal_line-injective
