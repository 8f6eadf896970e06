use Rattle.std.proofs.Common.{◌≡◌, true, sym, ◌∙◌, ap}
use Rattle.ecp_history.specs.table.Tables.{inc_of, is_up}
use Rattle.ecp_catalog.specs.Catalogs.{plain}
use Rattle.ecp_catalog.proofs.RestoreLaws.{up_live}
use Rattle.ecp_catalog.proofs.tests.restore.Goals as goal

pub restore_lost-requires : goal.restore_lost-requires
restore_lost-requires g c =
    let now = c.args.catalog.now in
    let x = c.args.receipt in
    let node : c.from-node.result ≡ x.node = c.from-node.ensures ∙ c.node.ensures in
    let up : is_up (plain now) x.node ≡ true = ap (is_up (plain now)) (sym node) ∙ sym c.is_up-up.ensures ∙ c.if-up.true in
    let inc : x.inc ≡ inc_of (plain now) x.node = sym c.inc.ensures.inc ∙ sym c.if-inc.true ∙ c.inc-inc.ensures ∙ ap (inc_of (plain now)) node in
    record { up = up_live (plain now).nodes x up inc }
