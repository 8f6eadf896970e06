-- The pivot times its inverse is 1.
use Rattle.std.proofs.Common.{◌<◌, ◌^◌, ap, sym, ◌∙◌, arith}
use Rattle.ecp_field.specs.Field.{byte_product}
use Rattle.ecp_field.proofs.FieldLaws.{quotient_product, product-zero_left}
use Rattle.ecp_inverse.specs.Cells.{entry}
use Rattle.ecp_inverse.proofs.RowLaws.{SameSolutions-then, IsReduced-scaled}
use Rattle.ecp_inverse.proofs.system.System.take_pivot.Goals as goal

pub inv-c-requires : goal.inv-c-requires
inv-c-requires c = c.bring_pivot.ensures.nonzero

pub multiply-requires-clause-nonzero : goal.multiply-requires-clause-nonzero
multiply-requires-clause-nonzero c =
    let s = c.bring_pivot.new.self in
    let pivot = entry s.left c.args.col c.args.col in
    let byte : pivot < 2 ^ 8 = s.left_bytes c.args.col c.args.col (omega (arith, c.args.self.now.in_size)) in
    let one = quotient_product 1 pivot (omega arith) byte c.bring_pivot.ensures.nonzero in
    λ e. omega (arith, sym (ap (λ x. byte_product x pivot) (sym e ∙ c.inv-c.ensures) ∙ one) ∙ product-zero_left pivot byte)

pub returns-clause-solutions : goal.returns-clause-solutions
returns-clause-solutions c =
    let s = c.args.self.now in
    let b = c.bring_pivot.new.self in
    let m = c.multiply.new.self in
    SameSolutions-then s.size s.left s.right b.left b.right m.left m.right c.bring_pivot.ensures.solutions (rw c.bring_pivot.ensures.size at c.multiply.ensures.solutions)

pub returns-clause-reduced : goal.returns-clause-reduced
returns-clause-reduced c =
    let s = c.args.self.now in
    IsReduced-scaled s.size c.args.col c.bring_pivot.new.self.left c.multiply.new.self.left c.args.col c.inv-c.result s.in_size c.inv-c.type_inv (omega arith) (omega arith) c.multiply.ensures.left c.bring_pivot.ensures.reduced

pub returns-clause-one : goal.returns-clause-one
returns-clause-one c =
    let s = c.bring_pivot.new.self in
    let pivot = entry s.left c.args.col c.args.col in
    let lt : c.args.col < 16 = omega (arith, c.args.self.now.in_size) in
    c.multiply.ensures.left.scaled_row c.args.col lt ∙ ap (λ x. byte_product x pivot) c.inv-c.ensures
    ∙ quotient_product 1 pivot (omega arith) (s.left_bytes c.args.col c.args.col lt) c.bring_pivot.ensures.nonzero
