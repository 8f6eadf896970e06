-- The weight is the product so far times the weight among the rows that are left.
use Rattle.std.proofs.Common.{◌≡◌, ℕ, [], ap, sym, ◌∙◌, get_or, drop, arith}
use Rattle.std.proofs.lemmas.List.{drop_all}
use Rattle.ecp_field.specs.Field.{byte_product}
use Rattle.ecp_field.proofs.FieldLaws.{product-one_left, product-one_right}
use Rattle.ecp_code.specs.Weights.{weight}
use Rattle.ecp_code.proofs.WeightLaws.{factor, sum_apart, weight-lt, weight_more, weight_more_same}
use Rattle.ecp_code.proofs.weights.weight.Goals as goal
use Rattle.ecp_code.proofs.weights.weight.Goals.{then-other-row, else-other-row}

pub loop-other-init : goal.loop-other-init
loop-other-init c =
    let bytes = λ (k : ℕ). (c.type_inv.rows k).fits in
    (omega arith, product-one_left (weight c.args.rows.now c.args.row c.args.target) (weight-lt c.args.rows.now c.args.row c.args.target bytes c.ranges.row.fits c.ranges.target.fits))

pub div-requires : goal.div-requires
div-requires c =
    λ e.
    sum_apart c.args.row (get_or c.args.rows.now c.loop-other.other-index 0) (λ same. c.if-other-row.true (sym same)) (sym c.add-then-other-row.ensures ∙ e)

pub loop-other-preserved : goal.loop-other-preserved
loop-other-preserved c =
    let rows = c.args.rows.now in
    let i = c.loop-other.other-index in
    let whole = weight rows c.args.row c.args.target in
    let bytes = λ (k : ℕ). (c.type_inv.rows k).fits in
    elim c.if-other-row.branch [
      | then-other-row w ↦
          let product : c.if-other-row.product ≡ byte_product c.loop-other.product (factor (get_or rows i 0) c.args.row c.args.target) = cc in (
            omega arith,
            rw product (
                weight_more rows i c.args.row c.args.target c.loop-other.product whole c.loop-other-test.true w.if-other-row.true bytes c.loop-other.invariant.0 c.ranges.row.fits
                c.ranges.target.fits c.loop-other.invariant.1),
          )
      | else-other-row w ↦ (
        omega arith,
        rw w.product-is (
            weight_more_same rows i c.args.row c.args.target c.loop-other.product whole c.loop-other-test.true w.if-other-row.false c.loop-other.invariant.1),
      )
    ]

pub returns : goal.returns
returns c =
    let all : drop c.loop-other.other-index c.args.rows.now ≡ [] = drop_all c.loop-other.other-index c.args.rows.now c.loop-other-test.false in
    sym (product-one_right c.loop-other.product c.loop-other.invariant.0) ∙ ap (λ xs. byte_product c.loop-other.product (weight xs c.args.row c.args.target)) (sym all) ∙ c.loop-other.invariant.1
