use Rattle.std.proofs.Common.{sym, subst, []}
use Rattle.ecp_entry.specs.declared.act.Act.{Act}
use Rattle.ecp_entry.specs.declared.deed.Deed.TheVariants.{Join}
use Rattle.ecp_coord.specs.Losing.{act_of}
use Rattle.ecp_cluster.specs.Answered.{Answered}
use Rattle.ecp_cluster.proofs.EndLaws.{answered_by}
use Rattle.ecp_cluster.proofs.service.Service.join.Goals as goal

pub returns-clause-ok : goal.returns-clause-ok
returns-clause-ok g c =
    subst (λ (what : Act). Answered g.N.Names.shape g.N.Names.told c.args.pass.now (Join c.args.node) what [] c.enter_join.new.pass) (sym c.act.ensures)
    (answered_by g.N.Names.shape g.N.Names.told c.args.pass.now c.begin.new.pass c.enter_join.new.pass (Join c.args.node) (act_of c.enter_join.result) c.in_ok-begin.ensures.ok c.enter_join.ensures)
