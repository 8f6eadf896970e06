use Rattle.std.proofs.Common.{◌<◌, ◌≤◌, length, false, sym}
use Rattle.ecp_history.proofs.tables.RowLaws.{change_row-set, change_row-past}
use Rattle.ecp_history.proofs.table.placed_stripe.give_up_row.Goals as goal

pub returns-then-from-rows : goal.returns-then-from-rows
returns-then-from-rows c =
    let there : c.args.row < length c.args.rows.now = rw (← c.from.ensures) c.if-from-rows.true in
    rw c.from-then-from-rows.ensures (sym (change_row-set (λ x. record { node = x.node; live = false }) c.args.row c.args.rows.now (record { node = 0; live = false }) there))

pub returns-else-from-rows : goal.returns-else-from-rows
returns-else-from-rows c =
    let past : length c.args.rows.now ≤ c.args.row = rw (← c.from.ensures) c.if-from-rows.false in
    sym (change_row-past (λ x. record { node = x.node; live = false }) c.args.row c.args.rows.now past)
