use Rattle.std.proofs.Common.{◌≡◌, ◌<◌, ◌^◌, drop}
use Rattle.ecp_field.specs.Field.{byte_product}
use Rattle.ecp_code.specs.Weights.{weight}
use Rattle.ecp_code.proofs.weights.weight.Given as goal

abbrev pub invariant-loop-other : goal.invariant-loop-other
invariant-loop-other l =
    (l.product < 2 ^ 8) × (byte_product l.product (weight (drop l.other-index l.rows) l.row l.target) ≡ weight l.rows l.row l.target)
