-- The sum so far, with what the rest of the bytes adds, is the whole sum.
use Rattle.std.proofs.Common.{◌≡◌, ℕ, ◌-◌, List, length, get_or, take, drop, min, replicate, refl, ap, ◌∙◌, arith, rules}
use Rattle.std.proofs.Math.Nat.{sub-zero}
use Rattle.std.specs.Vec.{with_items}
use Rattle.std.proofs.lemmas.List.{with_items_is, length-replicate}
use Rattle.ecp_field.specs.Lists.{sums, scaled}
use Rattle.ecp_code.specs.Rows.{weighted_sum}
use Rattle.ecp_code.specs.Stripes.{filled, blocks}
use Rattle.ecp_code.proofs.RowLaws.{sum_none, sum_step, sum_all}
use Rattle.ecp_code.proofs.rows.sum_of_blocks.Goals as goal

pub loop-w-init : goal.loop-w-init
loop-w-init c =
    let ws = c.args.weights.now in
    let k = length ws in
    let zeros : c.in_ok-sum.sum.items ≡ replicate c.args.len 0 = search rules in (
      ap length zeros ∙ length-replicate c.args.len 0,
      ap (λ (s : List ℕ). sums s (weighted_sum c.args.len ws (blocks (k - 0) c.args.len c.args.bytes.now))) zeros
          ∙ ap (λ n. sums (replicate c.args.len 0) (weighted_sum c.args.len ws (blocks n c.args.len c.args.bytes.now))) (sub-zero k)
          ∙ sum_none c.args.len k ws c.args.bytes.now,
    )

pub loop-w-preserved : goal.loop-w-preserved
loop-w-preserved c =
    let len = c.args.len in
    let ws = c.args.weights.now in
    let k = length ws in
    let i = c.loop-w.w-index in
    let old = c.loop-w.sum.items in
    let rest = c.loop-w.rest.now in
    let w = get_or ws i 0 in
    let block : c.split_at.result.0.now ≡ take (min len (length rest)) rest = c.split_at.ensures.front ∙ ap (λ n. take n rest) c.min.ensures in
    let after : c.split_at.result.1.now ≡ drop (min len (length rest)) rest = c.split_at.ensures.back ∙ ap (λ n. drop n rest) c.min.ensures in
    let written : (with_items c.loop-w.sum c.add_block.new.sum).items ≡ c.add_block.new.sum = with_items_is c.loop-w.sum c.add_block.new.sum (omega arith) in
    let new : c.add_block.new.sum ≡ sums old (scaled w (filled (length old) (take (min len (length rest)) rest))) =
    c.add_block.ensures ∙ ap (λ (s : List ℕ). sums s (scaled w (filled (length s) c.split_at.result.0.now))) c.deref_mut.ensures.value
    ∙ ap (λ (b : List ℕ). sums old (scaled w (filled (length old) b))) block in
    sum_step len k old (with_items c.loop-w.sum c.add_block.new.sum).items (weighted_sum len ws (blocks k len c.args.bytes.now)) ws rest c.split_at.result.1.now i c.loop-w-test.true refl
    c.loop-w.invariant.0 (written ∙ new) after c.loop-w.invariant.1

pub returns : goal.returns
returns c =
    let ws = c.args.weights.now in
    let k = length ws in
    c.new.ensures
    ∙ sum_all c.args.len c.loop-w.sum.items (weighted_sum c.args.len ws (blocks k c.args.len c.args.bytes.now)) ws (blocks (k - c.loop-w.w-index) c.args.len c.loop-w.rest.now) c.loop-w.w-index
    c.loop-w-test.false c.loop-w.invariant.0 c.loop-w.invariant.1
