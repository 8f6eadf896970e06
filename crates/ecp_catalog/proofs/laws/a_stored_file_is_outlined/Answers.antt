use Rattle.ecp_catalog.proofs.StoredLaws.{stored_outline}
use Rattle.ecp_catalog.proofs.laws.a_stored_file_is_outlined.Goals as goal

pub returns : goal.returns
returns c = λ shape told old new history e of.
    stored_outline shape told old new history e of.first of.count of.up of.rows of.legal of.outlined of.follows of.says of.kept of.full of.taken
