use Rattle.std.proofs.Common.{◌≡◌, ◌≤◌, ℕ, List, length, take, ap, sym, ◌∙◌, arith}
use Rattle.std.specs.List.{range_with_len}
use Rattle.std.proofs.lemmas.List.FromFn.{length-range_with_len}
use Rattle.ecp_code.specs.Weights.{weight, weights}
use Rattle.ecp_code.proofs.WeightLaws.{take-range, take-by_items, drop-zeros}
use Rattle.ecp_code.proofs.data_weights.data_weights.Goals as goal

pub returns-clause-weights : goal.returns-clause-weights
returns-clause-weights c =
    let k = c.args.k in
    let t = c.args.target in
    let w = c.loop-i.w in
    let rows = take k (range_with_len 0 16) in
    let are_data : rows ≡ range_with_len 0 k = take-range 0 16 k c.requires in
    let count : length rows ≡ k = ap length are_data ∙ length-range_with_len 0 k in
    let ended : length rows ≤ c.loop-i.i = c.loop-i-test.false in
    let size = c.loop-i.invariant.size in
    ap (λ n. take n w) (sym count)
    ∙ take-by_items (λ j. weight rows j t) rows w (omega arith) (λ i h. c.loop-i.invariant.done i (omega arith))
    ∙ ap (λ (rs : List ℕ). weights rs t) are_data

pub returns-clause-rest : goal.returns-clause-rest
returns-clause-rest c =
    let k = c.args.k in
    let rows = take k (range_with_len 0 16) in
    let count : length rows ≡ k = ap length (take-range 0 16 k c.requires) ∙ length-range_with_len 0 k in
    let within : c.loop-i.i ≤ length rows = c.loop-i.auto.i-end in
    drop-zeros k 16 c.loop-i.w c.loop-i.invariant.size (λ i h. c.loop-i.invariant.rest i (omega arith))
