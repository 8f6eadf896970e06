-- The row is the sum of the data by their weights.
use Rattle.std.proofs.Common.{◌≡◌, ℕ, List, IfOk, length, take, ap, sym, subst, ◌∙◌, arith}
use Rattle.std.specs.List.{range_with_len}
use Rattle.std.proofs.lemmas.List.{length-map}
use Rattle.std.proofs.lemmas.List.FromFn.{length-range_with_len}
use Rattle.ecp_code.specs.Code.{Shape}
use Rattle.ecp_code.specs.Rows.{weighted_sum, row}
use Rattle.ecp_code.specs.Stripes.{blocks}
use Rattle.ecp_code.specs.Weights.{weight, weights}
use Rattle.ecp_code.proofs.RowLaws.{row-blocks}
use Rattle.ecp_code.proofs.code.Code.row_of_blocks.Goals as goal

pub returns : goal.returns
returns c =
    let k = c.args.self.now.k in
    let t = c.args.row in
    let len = c.args.len in
    let bytes = c.args.bytes.now in
    let w = c.data_weights-weights.result in
    let inside : c.self.inside.k ≡ k = ap (λ (s : Shape). s.k) c.self.view_is in
    let ws = weights (range_with_len 0 k) t in
    let are_weights : take c.self.inside.k w ≡ ws = c.data_weights-weights.ensures.weights ∙ ap (λ n. weights (range_with_len 0 n) t) inside in
    let count : length ws ≡ k = length-map (range_with_len 0 k) (λ j. weight (range_with_len 0 k) j t) ∙ length-range_with_len 0 k in
    let same : weighted_sum len (take c.self.inside.k w) (blocks (length (take c.self.inside.k w)) len bytes) ≡ row (blocks k len bytes) t =
    ap (λ (us : List ℕ). weighted_sum len us (blocks (length us) len bytes)) are_weights
    ∙ ap (λ n. weighted_sum len ws (blocks n len bytes)) count
    ∙ sym (row-blocks k len bytes t (omega arith)) in
    subst (λ (x : List ℕ). IfOk c.sum_of_blocks.result (λ block. block ≡ x)) same c.sum_of_blocks.ensures
