use Rattle.ecp_sequencer.proofs.NoteLaws.{facts_of-none, facts_of-more}
use Rattle.ecp_sequencer.proofs.laws.facts_grow_note_by_note.Goals as goal

pub returns-clause-none : goal.returns-clause-none
returns-clause-none c = facts_of-none

pub returns-clause-more : goal.returns-clause-more
returns-clause-more c = facts_of-more
