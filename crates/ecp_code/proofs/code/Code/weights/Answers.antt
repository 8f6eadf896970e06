-- Item i of the data weights times the inverse is the weight of row i.
use Rattle.std.proofs.Common.{◌≡◌, ◌<◌, ℕ, List, get_or, take, length, ap, sym, ◌∙◌, arith}
use Rattle.std.specs.List.{range_with_len}
use Rattle.std.proofs.lemmas.List.{length-set}
use Rattle.ecp_field.specs.Field.{byte_product}
use Rattle.ecp_inverse.specs.Cells.{total}
use Rattle.ecp_inverse.specs.Matrix.{cell}
use Rattle.ecp_code.specs.Code.{Shape}
use Rattle.ecp_code.specs.Weights.{weight, weights}
use Rattle.ecp_code.proofs.MatrixLaws.{weight-inverse}
use Rattle.ecp_code.proofs.WeightLaws.{take-by_items, drop-zeros, get_or-weights, set-done, set-rest}
use Rattle.ecp_code.proofs.code.Code.weights.Goals as goal

pub loop-i-preserved : goal.loop-i-preserved
loop-i-preserved c =
    let rows = c.args.rows.now in
    let t = c.args.target in
    let i = c.loop-i.i in
    let w = c.loop-i.w in
    let inverse = c.inverse_of-inverse.result in
    let given = take c.self.inside.k c.data_weights-data.result in
    let size = c.loop-i.invariant.size in
    let k : c.self.inside.k ≡ length rows = ap (λ (s : Shape). s.k) c.self.view_is ∙ sym c.requires.count in
    let hi : i < length rows = omega arith in
    let here : c.times_column.result ≡ weight rows (get_or rows i 0) t =
    c.times_column.ensures
    ∙ ap (λ n. total n (λ j. byte_product (get_or given j 0) (cell inverse j i))) c.inverse_of-inverse.ensures.size
    ∙ weight-inverse rows t i (λ j. get_or given j 0) (cell inverse) c.requires.distinct (λ j. (c.type_inv.rows j).fits) (omega arith) c.ranges.target.fits hi (λ j hj.
    ap (λ (xs : List ℕ). get_or xs j 0) (c.data_weights-data.ensures.weights ∙ ap (λ n. weights (range_with_len 0 n) t) k) ∙ get_or-weights (length rows) t j hj)
    c.inverse_of-inverse.ensures.bytes c.inverse_of-inverse.ensures.inverse in
    record {
      size = length-set w i c.times_column.result ∙ size;
      done = set-done (λ j. weight rows (get_or rows j 0) t) w i c.times_column.result (omega arith) c.loop-i.invariant.done here;
      rest = set-rest w i c.times_column.result c.loop-i.invariant.rest;
    }

pub returns-clause-weights : goal.returns-clause-weights
returns-clause-weights c =
    let rows = c.args.rows.now in
    let w = c.loop-i.w in
    let k : c.self.inside.k ≡ length rows = ap (λ (s : Shape). s.k) c.self.view_is ∙ sym c.requires.count in
    let size = c.loop-i.invariant.size in
    ap (λ n. take n w) (sym c.requires.count)
    ∙ take-by_items (λ j. weight rows j c.args.target) rows w (omega arith) (λ i h. c.loop-i.invariant.done i (omega arith))

pub returns-clause-rest : goal.returns-clause-rest
returns-clause-rest c =
    let k : c.self.inside.k ≡ c.args.self.now.k = ap (λ (s : Shape). s.k) c.self.view_is in
    drop-zeros c.args.self.now.k 16 c.loop-i.w c.loop-i.invariant.size (λ i h. c.loop-i.invariant.rest i (omega arith))
