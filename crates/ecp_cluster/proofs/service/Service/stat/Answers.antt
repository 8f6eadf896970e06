use Rattle.std.proofs.Common.{[], List, ℕ, ap, subst}
use Rattle.ecp_entry.specs.declared.deed.Deed.{Deed}
use Rattle.ecp_entry.specs.declared.deed.Deed.TheVariants.{Stat}
use Rattle.ecp_cluster.specs.Answered.{HasBegun}
use Rattle.ecp_cluster.proofs.CallLaws.{answered_after, concluded}
use Rattle.ecp_cluster.proofs.service.Service.stat.Goals as goal

pub returns-clause-ok : goal.returns-clause-ok
returns-clause-ok g c =
    let begun : HasBegun c.args.pass.now (Stat c.args.name.now) c.begin.new.pass =
    subst (λ (d : Deed). HasBegun c.args.pass.now d c.begin.new.pass) (ap (λ (n : List ℕ). Stat n) c.new.ensures) c.in_ok-begin.ensures.ok in
    answered_after g.N.Names.shape g.N.Names.told c.args.pass.now c.begin.new.pass c.stat.new.pass (Stat c.args.name.now) c.stat.result [] begun
    (concluded g.N.Names.shape g.N.Names.told _ _ c.begin.new.pass c.stat.new.pass (Stat c.args.name.now) c.stat.result c.stat.ensures.event)
