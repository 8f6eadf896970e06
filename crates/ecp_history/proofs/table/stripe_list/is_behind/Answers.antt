use Rattle.std.proofs.Common.{◌≡◌, ◌<◌, ◌-◌, length, get_or, arith, ap}
use Rattle.std.proofs.lemmas.Bool.Decides.{nat_tests}
use Rattle.ecp_history.specs.table.Tables.{Stripe}
use Rattle.ecp_history.proofs.tables.OrderLaws.{below_all}
use Rattle.ecp_history.proofs.table.stripe_list.is_behind.Goals as goal

pub returns-in-Some : goal.returns-in-Some
returns-in-Some c = λ h.
    let lower : c.number.result < c.args.number = grind (arith, nat_tests) in
    let is : c.in-Some.last.now ≡ get_or c.args.stripes.now (length c.args.stripes.now - 1) c.in-Some.last.now = c.in-Some.ensures.item.1 in
    below_all c.args.stripes.now c.args.number c.in-Some.last.now c.requires (omega (arith, lower, c.number.ensures, ap (λ (x : Stripe). x.number) is))
