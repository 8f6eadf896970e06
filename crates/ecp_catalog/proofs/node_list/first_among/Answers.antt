use Rattle.std.proofs.Common.{◌≡◌, ◌-◌, ◌==◌, ℕ, filter, map, ◌∙◌, ap, arith}
use Rattle.std.specs.Int.{bit_at}
use Rattle.std.specs.List.{range_with_len}
use Rattle.ecp_shape.specs.declared.limits.TheConstants.{MAX_NODES}
use Rattle.ecp_catalog.specs.Catalogs.{earliest, first_loss}
use Rattle.ecp_catalog.proofs.node_list.first_among.Goals as goal

pub returns : goal.returns
returns c =
    let none : c.loop-left.left ≡ 0 = omega arith in
    c.loop-left.invariant.found
    ∙ ap (λ (n : ℕ). earliest (map (first_loss c.args.nodes.now c.args.point) (filter (λ m. bit_at c.args.mask m == 1) (range_with_len n (MAX_NODES - n))))) none
