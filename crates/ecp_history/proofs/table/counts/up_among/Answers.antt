use Rattle.std.proofs.Common.{◌≤◌, false, true, Bool, arith}
use mir.Val.{bool_byte}
use Rattle.ecp_history.proofs.tables.MaskLaws.{mask_part}
use Rattle.ecp_history.proofs.table.counts.up_among.Goals as goal

at_most_one : (b : Bool) → bool_byte b ≤ 1
at_most_one true = omega arith
at_most_one false = omega arith

pub overflow_mul-mask : goal.overflow_mul-mask
overflow_mul-mask c =
    omega (arith, c.loop-left.invariant.made, mask_part c.args.nodes.now c.loop-left.left c.requires c.loop-left-test.true)

pub overflow_add-mask : goal.overflow_add-mask
overflow_add-mask c =
    let small : c.from.result ≤ 1 = rw c.from.ensures (at_most_one _) in
    omega (arith, c.loop-left.invariant.made, mask_part c.args.nodes.now c.loop-left.left c.requires c.loop-left-test.true)
