-- A row below brings its pivot to a cell that is 0.
use Rattle.std.proofs.Common.{◌≡◌, ◌≢◌, ◌<◌, ap, sym, ◌∙◌, arith}
use Rattle.ecp_field.specs.Field.{byte_sum, byte_product}
use Rattle.ecp_field.proofs.FieldLaws.{sum-zero_left, product-one_left}
use Rattle.ecp_inverse.specs.Cells.{entry}
use Rattle.ecp_inverse.proofs.RowLaws.{SameSolutions-none, IsReduced-added}
use Rattle.ecp_inverse.proofs.system.System.bring_pivot.Goals as goal

pub returns-then-row-col-clause-solutions : goal.returns-then-row-col-clause-solutions
returns-then-row-col-clause-solutions c = let s = c.args.self.now in SameSolutions-none s.size s.left s.right

pub returns-then-row-col-clause-nonzero : goal.returns-then-row-col-clause-nonzero
returns-then-row-col-clause-nonzero c = λ e. c.requires.nonzero (ap (λ r. entry c.args.self.now.left r c.args.col) c.if-row-col.true ∙ e)

pub returns-clause-reduced : goal.returns-clause-reduced
returns-clause-reduced c =
    let s = c.args.self.now in
    IsReduced-added s.size c.args.col s.left c.add.new.self.left c.args.col 1 c.args.row s.in_size (omega arith) c.requires.within.0 c.requires.within.1 c.add.ensures.left c.requires.reduced

pub returns-clause-nonzero : goal.returns-clause-nonzero
returns-clause-nonzero c =
    let s = c.args.self.now in
    let col = c.args.col in
    let row = c.args.row in
    let pivot = entry s.left row col in
    let apart : row ≢ col = c.if-row-col.false in
    let later : col < row = omega arith in
    let lt : col < 16 = omega (arith, s.in_size) in
    let is : entry c.add.new.self.left col col ≡ pivot =
    c.add.ensures.left.target_row col lt ∙ ap (λ x. byte_sum x (byte_product 1 pivot)) (c.requires.first col (omega arith) later)
    ∙ sum-zero_left (byte_product 1 pivot) ∙ product-one_left pivot (s.left_bytes row col lt) in
    λ e. c.requires.nonzero (sym is ∙ e)
