use Rattle.std.proofs.Common.{length, arith, ◌<◌}
use Rattle.std.proofs.lemmas.List.{get_or_default}
use Rattle.std.proofs.lemmas.List.Edits.{map_over_more}
use Rattle.ecp_history.specs.table.Steps.{without_node}
use Rattle.ecp_history.proofs.table.placed_stripe.lose_rows.Goals as goal

pub loop-row-preserved : goal.loop-row-preserved
loop-row-preserved c =
    let within : c.loop-row.row-index < length c.loop-row.rows = omega arith in
    rw c.lost_from.ensures (map_over_more (without_node c.args.node) c.args.rows.now c.loop-row.rows c.loop-row.row-index _ c.loop-row-test.true c.loop-row.invariant (get_or_default c.loop-row.rows c.loop-row.row-index _ _ within))
