-- The matrix has an inverse: the weights of the rows for the data rows.
use Rattle.std.proofs.Common.{length, get_or, refl, ap, sym, subst, ◌∙◌, arith}
use Rattle.std.specs.List.{range_with_len}
use Rattle.ecp_inverse.specs.Cells.{matrix_product}
use Rattle.ecp_inverse.specs.Matrix.{cell, HasInverse}
use Rattle.ecp_code.specs.Weights.{weight}
use Rattle.ecp_code.proofs.MatrixLaws.{has_inverse, matrix_product-same}
use Rattle.ecp_code.proofs.chosen.inverse_of.Goals as goal

pub unreachable-requires : goal.unreachable-requires
unreachable-requires c =
    let rows = c.args.rows.now in
    let chosen = cell c.matrix_of.result in
    let there : HasInverse (length rows) chosen = has_inverse rows chosen c.requires.distinct (λ i. (c.type_inv.rows i).fits) (omega arith) c.matrix_of.ensures.cells in
    let found : HasInverse c.matrix_of.result.size chosen = subst (λ n. HasInverse n chosen) (sym c.matrix_of.ensures.size) there in
    c.in-Err.ensures.exactly.0 refl found

pub returns-clause-inverse : goal.returns-clause-inverse
returns-clause-inverse c i j hi hj =
    let rows = c.args.rows.now in
    let k = length rows in
    let chosen = cell c.matrix_of.result in
    let inverse = cell c.in-Ok.inverse in
    let size = c.matrix_of.ensures.size in
    sym (matrix_product-same k chosen (λ i j. weight (range_with_len 0 k) j (get_or rows i 0)) inverse i j hi c.matrix_of.ensures.cells)
    ∙ ap (λ n. matrix_product n chosen inverse i j) (sym size)
    ∙ c.in-Ok.ensures.inverse.right i j (omega arith) (omega arith)
