use Rattle.std.proofs.Common.{◌≡◌, ℕ, List, length, get_or, map, replicate, ap, ◌∙◌, arith, rules}
use Rattle.std.specs.Vec.{with_items}
use Rattle.std.proofs.lemmas.List.{with_items_is, length-replicate}
use Rattle.ecp_field.specs.Lists.{sums, scaled}
use Rattle.ecp_code.specs.Rows.{row, weighted_sum}
use Rattle.ecp_code.specs.Stripes.{filled, blocks}
use Rattle.ecp_code.proofs.BlockLaws.{blocks-even}
use Rattle.ecp_code.proofs.RowLaws.{length-weighted_sum}
use Rattle.ecp_code.proofs.HelperLaws.{helper_step, helper_start, helper_end, rows_even, length-row}
use Rattle.ecp_code.proofs.rebuild.sum_of_helpers.Goals as goal

pub loop-i-init : goal.loop-i-init
loop-i-init c =
    let len = c.args.len in
    let f = row (blocks c.args.k len c.args.bytes.now) in
    let whole = weighted_sum len c.args.weights.now (map f c.args.helpers.now) in
    let even = blocks-even c.args.k len c.args.bytes.now in
    let size = length-weighted_sum len c.args.weights.now (map f c.args.helpers.now) (rows_even len f c.args.helpers.now (λ h. length-row c.args.k len c.args.bytes.now h c.requires.some even)) in
    let zeros : c.in_ok-sum.sum.items ≡ replicate len 0 = search rules in
    (ap length zeros ∙ length-replicate len 0, helper_start len whole c.in_ok-sum.sum.items zeros size)

pub loop-i-preserved : goal.loop-i-preserved
loop-i-preserved c =
    let len = c.args.len in
    let ws = c.args.weights.now in
    let hs = c.args.helpers.now in
    let i = c.loop-i.i in
    let f = row (blocks c.args.k len c.args.bytes.now) in
    let old = c.loop-i.sum.items in
    let block = c.helper_block-block.result.now in
    let w = get_or ws i 0 in
    let even = length-row c.args.k len c.args.bytes.now (get_or hs i 0) c.requires.some (blocks-even c.args.k len c.args.bytes.now) in
    let written : (with_items c.loop-i.sum c.add_block.new.sum).items ≡ c.add_block.new.sum = with_items_is c.loop-i.sum c.add_block.new.sum (omega arith) in
    let new : c.add_block.new.sum ≡ sums old (scaled w (filled (length old) block)) =
    c.add_block.ensures ∙ ap (λ (s : List ℕ). sums s (scaled w (filled (length s) block))) c.deref_mut.ensures.value in
    helper_step len f ws hs old (with_items c.loop-i.sum c.add_block.new.sum).items (weighted_sum len ws (map f hs)) block i (omega arith) (omega arith)
    c.loop-i.invariant.0 even c.helper_block-block.ensures.block (written ∙ new) c.loop-i.invariant.1

pub returns : goal.returns
returns c =
    let len = c.args.len in
    let ws = c.args.weights.now in
    let hs = c.args.helpers.now in
    let f = row (blocks c.args.k len c.args.bytes.now) in
    c.new.ensures ∙ helper_end len f ws hs c.loop-i.sum.items (weighted_sum len ws (map f hs)) c.loop-i.i (omega arith) c.loop-i.invariant.0 c.loop-i.invariant.1
