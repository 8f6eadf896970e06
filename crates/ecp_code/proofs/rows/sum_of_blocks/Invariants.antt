use Rattle.std.proofs.Common.{◌≡◌, ◌-◌, length, drop}
use Rattle.ecp_field.specs.Lists.{sums}
use Rattle.ecp_code.specs.Rows.{weighted_sum}
use Rattle.ecp_code.specs.Stripes.{blocks}
use Rattle.ecp_code.proofs.rows.sum_of_blocks.Given as goal

abbrev pub invariant-loop-w : goal.invariant-loop-w
invariant-loop-w l =
    (length l.sum.items ≡ l.len)
    × (sums l.sum.items (weighted_sum l.len (drop l.w-index l.weights) (blocks (length l.weights - l.w-index) l.len l.rest)) ≡ weighted_sum l.len l.weights (blocks (length l.weights) l.len l.bytes))
