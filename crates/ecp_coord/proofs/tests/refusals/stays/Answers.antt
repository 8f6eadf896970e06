use Rattle.std.proofs.Common.{◌≡◌, sym, ap, subst}
use Rattle.ecp_coord.specs.Puts.{IsReserved}
use Rattle.ecp_coord.proofs.SameLaws.{stays_reserved}
use Rattle.ecp_coord.proofs.tests.refusals.stays.Goals as goal

pub returns-clause-reserved : goal.returns-clause-reserved
returns-clause-reserved g c =
    let stood = c.in-StillGood.ensures.done in
    subst (λ r. IsReserved g.N.Names.shape g.N.Names.told c.renew.new.pass r) (sym stood.same)
    (stays_reserved g.N.Names.shape g.N.Names.told _ _ c.args.pass.now c.renew.new.pass c.args.res.now stood.event stood.calls c.requires.reserved)
