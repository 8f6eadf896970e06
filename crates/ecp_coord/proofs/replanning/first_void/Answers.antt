use Rattle.std.proofs.Common.{◌≡◌, ℕ, Option, subst}
use Rattle.ecp_plan.specs.declared.hop.Hop.{Hop}
use Rattle.ecp_catalog.specs.Catalogs.{first_loss}
use Rattle.ecp_coord.proofs.FirstLaws.{earliest_more}
use Rattle.ecp_coord.proofs.replanning.first_void.Goals as goal

pub loop-hop-preserved : goal.loop-hop-preserved
loop-hop-preserved g c =
    let loss : Hop g.row.N.Denot → Option ℕ = λ h. first_loss c.args.catalog.now.nodes c.args.plan.now.point h.node in
    earliest_more loss c.args.plan.now.hops.items c.deref-hop-items.result.now c.loop-hop.hop-index c.hop-item.result c.loop-hop.first c.first_loss_from-loss.result c.earlier-first.result
    c.deref-hop-items.ensures.value c.loop-hop-test.true c.hop-item.is c.loop-hop.invariant
    (subst (λ (m : ℕ). c.first_loss_from-loss.result ≡ first_loss c.args.catalog.now.nodes c.args.plan.now.point m) c.from.ensures c.first_loss_from-loss.ensures) c.earlier-first.ensures
