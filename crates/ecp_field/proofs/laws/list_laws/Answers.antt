-- Each clause is a lemma on lists.
use Rattle.ecp_field.proofs.ListLaws.{sums_assoc, sums_comm, scaled-sums, scaled-scaled}
use Rattle.ecp_field.proofs.laws.list_laws.Goals as goal

pub returns-clause-associative : goal.returns-clause-associative
returns-clause-associative c = sums_assoc

pub returns-clause-commutative : goal.returns-clause-commutative
returns-clause-commutative c = sums_comm

pub returns-clause-distributive : goal.returns-clause-distributive
returns-clause-distributive c = scaled-sums

pub returns-clause-product : goal.returns-clause-product
returns-clause-product c = scaled-scaled
