use Rattle.std.proofs.Common.{◌≡◌, ℕ, get_or, add-one, refl, ap, sym, ◌∙◌}
use Rattle.ecp_field.specs.Field.{byte_sum, byte_product}
use Rattle.ecp_inverse.specs.Cells.{total}
use Rattle.ecp_inverse.specs.Matrix.{cell}
use Rattle.ecp_code.proofs.chosen.times_column.Goals as goal

pub loop-j-init : goal.loop-j-init
unfolding total
loop-j-init c = refl

pub loop-j-preserved : goal.loop-j-preserved
unfolding total
loop-j-preserved c =
    let j = c.loop-j.j in
    let f = λ (j : ℕ). byte_product (get_or c.args.row.now j 0) (cell c.args.matrix.now j c.args.col) in
    let term : c.mul.result ≡ f j = c.mul.ensures ∙ ap (byte_product (get_or c.args.row.now j 0)) c.at.ensures in
    c.add-sum.ensures ∙ ap (λ x. byte_sum x c.mul.result) c.loop-j.invariant ∙ ap (byte_sum (total j f)) term ∙ ap (λ n. total n f) (sym (add-one j))
