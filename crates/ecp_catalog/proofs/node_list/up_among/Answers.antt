use Rattle.std.proofs.Common.{◌≤◌, ◌<◌, ◌^◌, ℕ, false, true, Bool, List, map, drop, length, length-drop, arith}
use Rattle.std.proofs.lemmas.List.{length-map}
use mir.Val.{bool_byte}
use Rattle.ecp_history.specs.table.Placement.{mask_of}
use Rattle.ecp_history.proofs.tables.MaskLaws.{mask_below}
use Rattle.ecp_catalog.specs.Catalogs.{NodeSeen}
use Rattle.ecp_catalog.proofs.node_list.up_among.Goals as goal

at_most_one : (b : Bool) → bool_byte b ≤ 1
at_most_one true = omega arith
at_most_one false = omega arith

part : (nodes : List NodeSeen) (i : ℕ) → length nodes ≤ 32 → 0 < i → mask_of (map (λ x. x.node.up) (drop i nodes)) < 2 ^ 31
part nodes i few some =
    mask_below (map (λ x. x.node.up) (drop i nodes)) 31 (omega (arith, length-map (drop i nodes) (λ (x : NodeSeen). x.node.up), length-drop i nodes))

pub overflow_mul-mask : goal.overflow_mul-mask
overflow_mul-mask c =
    omega (arith, c.loop-left.invariant.made, part c.args.nodes.now c.loop-left.left c.requires c.loop-left-test.true)

pub overflow_add-mask : goal.overflow_add-mask
overflow_add-mask c =
    let small : c.from.result ≤ 1 = rw c.from.ensures (at_most_one _) in
    omega (arith, c.loop-left.invariant.made, part c.args.nodes.now c.loop-left.left c.requires c.loop-left-test.true)
