use Rattle.ecp_catalog.proofs.StoredLaws.{free_numbers}
use Rattle.ecp_catalog.proofs.laws.fresh_numbers_are_free.Goals as goal

pub returns : goal.returns
returns c = free_numbers
