use Rattle.std.proofs.Common.{◌≡◌, ◌++◌, take, drop, map}
use Rattle.ecp_history.specs.table.Steps.{with_rows, without_node}
use Rattle.ecp_history.proofs.table.stripe_list.lose_all.Given as goal

abbrev pub invariant-loop-stripe : goal.invariant-loop-stripe
invariant-loop-stripe l = l.stripes ≡ with_rows (λ x. map (without_node l.node) x.rows) (take l.stripe-index l.fn.stripes) ++ drop l.stripe-index l.fn.stripes
