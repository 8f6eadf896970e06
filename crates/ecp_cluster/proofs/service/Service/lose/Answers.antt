use Rattle.std.proofs.Common.{sym, subst, []}
use Rattle.ecp_entry.specs.declared.act.Act.{Act}
use Rattle.ecp_entry.specs.declared.deed.Deed.TheVariants.{Lose}
use Rattle.ecp_coord.specs.Losing.{act_of}
use Rattle.ecp_cluster.specs.Answered.{Answered}
use Rattle.ecp_cluster.proofs.EndLaws.{answered_by}
use Rattle.ecp_cluster.proofs.service.Service.lose.Goals as goal

pub returns-clause-ok : goal.returns-clause-ok
returns-clause-ok g c =
    subst (λ (what : Act). Answered g.N.Names.shape g.N.Names.told c.args.pass.now (Lose c.args.node) what [] c.put_down.new.pass) (sym c.act.ensures)
    (answered_by g.N.Names.shape g.N.Names.told c.args.pass.now c.begin.new.pass c.put_down.new.pass (Lose c.args.node) (act_of c.put_down.result) c.in_ok-begin.ensures.ok c.put_down.ensures)
