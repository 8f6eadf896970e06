-- Each clause is a lemma on products.
use Rattle.ecp_field.proofs.FieldLaws.{product-lt, product_assoc, product_comm, product-one_left, product-sum_right, no_zero_divisors}
use Rattle.ecp_field.proofs.laws.multiplication_laws.Goals as goal

pub returns-clause-byte : goal.returns-clause-byte
returns-clause-byte c = product-lt

pub returns-clause-associative : goal.returns-clause-associative
returns-clause-associative c = product_assoc

pub returns-clause-commutative : goal.returns-clause-commutative
returns-clause-commutative c = product_comm

pub returns-clause-one : goal.returns-clause-one
returns-clause-one c = product-one_left

pub returns-clause-distributive : goal.returns-clause-distributive
returns-clause-distributive c = product-sum_right

pub returns-clause-no_zero_divisors : goal.returns-clause-no_zero_divisors
returns-clause-no_zero_divisors c = no_zero_divisors
