use Rattle.std.proofs.Common.{◌≡◌, take}
use Rattle.std.specs.Prelude.{count_by, min, sum_by}
use Rattle.ecp_history.specs.declared.table.counts.TheConstants.{LAST_COUNT}
use Rattle.ecp_history.specs.table.Tables.{stands_live}
use Rattle.ecp_history.proofs.table.counts.live_over.Given as goal

abbrev pub invariant-loop-stripe : goal.invariant-loop-stripe
invariant-loop-stripe l = l.count ≡ min (sum_by (λ x. count_by (stands_live l.node) x.rows) (take l.stripe-index l.stripes)) LAST_COUNT
