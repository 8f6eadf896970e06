-- The product is read off the table at the sum of the logarithms.
use Rattle.std.proofs.Common.{arith}
use Rattle.std.proofs.lemmas.Grind.{common_steps}
use Rattle.ecp_field.proofs.Computed.{byte_product-logs}
use Rattle.ecp_field.proofs.arithmetic.mul.Goals as goal

pub returns-then-a-eq0 : goal.returns-then-a-eq0
returns-then-a-eq0 c = grind (arith, common_steps, byte_product-logs)

pub returns : goal.returns
returns c = grind (arith, common_steps, byte_product-logs)
