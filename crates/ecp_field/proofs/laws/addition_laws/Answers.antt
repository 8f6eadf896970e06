-- Each clause is a lemma on sums.
use Rattle.ecp_field.proofs.FieldLaws.{sum-lt, sum_comm}
use Rattle.ecp_field.proofs.laws.addition_laws.Goals as goal

pub returns-clause-byte : goal.returns-clause-byte
returns-clause-byte c = sum-lt

pub returns-clause-commutative : goal.returns-clause-commutative
returns-clause-commutative c = sum_comm
