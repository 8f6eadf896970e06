-- Each cell of the literal is 0.
use Rattle.std.proofs.Common.{arith}
use Rattle.ecp_inverse.proofs.RowZeros.{zero_rows_at}
use Rattle.ecp_inverse.proofs.matrix.Matrix.zero.Goals as goal

pub invariant_of-result : goal.invariant_of-result
invariant_of-result c = (c.requires.0, c.requires.1, λ i j lt. omega (arith, zero_rows_at 16 i j))

pub returns-clause-cells : goal.returns-clause-cells
returns-clause-cells c = λ i j. zero_rows_at 16 i j
