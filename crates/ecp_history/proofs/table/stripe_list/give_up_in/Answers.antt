use Rattle.std.proofs.Common.{List, set, sym, ◌∙◌, ap, false}
use Rattle.ecp_history.specs.table.Tables.{Stripe, Standing}
use Rattle.ecp_history.specs.table.Steps.{change_row}
use Rattle.ecp_history.proofs.tables.OrderLaws.{none_changed, one_changed}
use Rattle.ecp_history.proofs.table.stripe_list.give_up_in.Goals as goal

pub returns-in-Some : goal.returns-in-Some
returns-in-Some c =
    let xs = c.args.stripes.now in
    let x = c.index-stripes-at.result in
    let change : Stripe → List Standing = λ y. change_row (λ z. record { node = z.node; live = false }) c.args.row y.rows in
    sym (one_changed change c.args.number xs c.in-Some.at x c.requires c.in-Some.ensures.within (c.in-Some.ensures.some x)
    ∙ ap (λ (y : Stripe). set xs c.in-Some.at y) (sym c.give_up.ensures))

pub returns-in_default : goal.returns-in_default
returns-in_default c =
    let change : Stripe → List Standing = λ y. change_row (λ z. record { node = z.node; live = false }) c.args.row y.rows in
    sym (none_changed change c.args.number c.args.stripes.now c.in_default.ensures.none)
