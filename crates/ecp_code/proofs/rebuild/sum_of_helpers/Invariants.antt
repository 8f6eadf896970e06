use Rattle.std.proofs.Common.{◌≡◌, length, map}
use Rattle.ecp_field.specs.Lists.{sums}
use Rattle.ecp_code.specs.Rows.{row, weighted_sum}
use Rattle.ecp_code.specs.Stripes.{blocks}
use Rattle.ecp_code.proofs.HelperLaws.{left_of}
use Rattle.ecp_code.proofs.rebuild.sum_of_helpers.Given as goal

-- the sum so far, with what the helpers that are left add, is the whole sum
abbrev pub invariant-loop-i : goal.invariant-loop-i
invariant-loop-i l =
    let f = row (blocks l.k l.len l.bytes) in
    (length l.sum.items ≡ l.len) × (sums l.sum.items (left_of l.len f l.weights l.helpers l.i) ≡ weighted_sum l.len l.weights (map f l.helpers))
