use Rattle.std.proofs.Common.{Some, sym, ◌∙◌, ap}
use Rattle.ecp_history.specs.table.Tables.{Stripe}
use Rattle.ecp_history.proofs.tables.OrderLaws.{find-rising}
use Rattle.ecp_history.proofs.table.stripe_list.stripe_with.Goals as goal

pub returns : goal.returns
returns c =
    let x = c.index-stripes-at.result in
    sym (find-rising c.args.stripes.now c.in_ok-at.at c.args.number x c.requires c.in_ok-at.ensures.within (c.in_ok-at.ensures.some x)
    ∙ ap (λ (y : Stripe). Some y) (sym c.index-stripes-at.is))
