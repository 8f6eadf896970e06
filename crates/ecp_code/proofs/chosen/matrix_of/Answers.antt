use Rattle.std.proofs.Common.{◌<◌, ℕ, List, get_or, length, ap, sym, ◌∙◌, inl, inr, arith}
use Rattle.std.specs.List.{range_with_len}
use Rattle.std.proofs.lemmas.Bool.{cases_eq}
use Rattle.ecp_inverse.specs.Matrix.{cell}
use Rattle.ecp_code.specs.Weights.{weight}
use Rattle.ecp_code.proofs.WeightLaws.{get_or-weights}
use Rattle.ecp_code.proofs.chosen.matrix_of.Goals as goal

pub loop-i-preserved : goal.loop-i-preserved
loop-i-preserved c =
    let rows = c.args.rows.now in
    let k = length rows in
    let at = c.loop-i.i in
    let new = c.set_row.new.matrix in
    record {
      size = c.set_row.ensures.size ∙ c.loop-i.invariant.size;
      cells = λ i j hi hj.
          let inside : j < c.loop-i.matrix.size = omega (arith, c.loop-i.invariant.size) in
          elim (cases_eq i at) [
            | inl same ↦
                ap (λ n. cell new n j) same ∙ c.set_row.ensures.row j inside
                ∙ ap (λ (xs : List ℕ). get_or xs j 0) c.data_weights-weights.ensures.weights
                ∙ get_or-weights k (get_or rows at 0) j hj
                ∙ ap (λ n. weight (range_with_len 0 k) j (get_or rows n 0)) (sym same)
            | inr apart ↦ c.set_row.ensures.others i j apart ∙ c.loop-i.invariant.cells i j (omega arith) hj
          ];
    }
