-- Each clause is a lemma on quotients.
use Rattle.ecp_field.proofs.FieldLaws.{quotient-lt, quotient_product, quotient_unique}
use Rattle.ecp_field.proofs.laws.quotient_laws.Goals as goal

pub returns-clause-byte : goal.returns-clause-byte
returns-clause-byte c = quotient-lt

pub returns-clause-product : goal.returns-clause-product
returns-clause-product c = quotient_product

pub returns-clause-unique : goal.returns-clause-unique
returns-clause-unique c = quotient_unique
