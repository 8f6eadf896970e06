use Rattle.std.proofs.Common.{◌≡◌, sym, subst}
use Rattle.ecp_coord.specs.Plans.{IsPlanned}
use Rattle.ecp_coord.proofs.SameLaws.{stays_planned}
use Rattle.ecp_coord.proofs.tests.reads.stands.Goals as goal

pub returns : goal.returns
returns g c =
    let stood = c.in-StillGood.ensures.done in
    subst (λ p. IsPlanned g.N.Names.shape g.N.Names.told c.replan.new.pass p) (sym stood.same)
    (stays_planned g.N.Names.shape g.N.Names.told _ _ c.args.pass.now c.replan.new.pass c.args.plan.now stood.event stood.calls c.requires)
