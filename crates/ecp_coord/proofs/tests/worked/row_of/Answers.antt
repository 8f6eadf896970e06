use Rattle.std.proofs.Common.{◌≡◌, ◌<◌, length, subst, arith}
use Rattle.ecp_history.specs.table.Placement.{nodes_in}
use Rattle.ecp_coord.proofs.tests.worked.row_of.Goals as goal

pub place-number-requires : goal.place-number-requires
place-number-requires g c = record { enough = subst (λ n. c.args.row < n) c.up_count.ensures (omega (arith, c.if-from-up_count.false, c.from.ensures)) }
