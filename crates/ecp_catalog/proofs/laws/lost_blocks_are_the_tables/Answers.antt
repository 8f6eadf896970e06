use Rattle.ecp_catalog.proofs.LostBlockLaws.{lost-outlined}
use Rattle.ecp_catalog.proofs.laws.lost_blocks_are_the_tables.Goals as goal

pub returns : goal.returns
returns c = λ shape told catalog history m is. lost-outlined shape told catalog history m is
