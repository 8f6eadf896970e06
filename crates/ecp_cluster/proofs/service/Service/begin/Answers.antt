use Rattle.ecp_cluster.proofs.CallLaws.{begun_either}
use Rattle.ecp_cluster.proofs.service.Service.begin.Goals as goal

pub returns-clause-ok : goal.returns-clause-ok
returns-clause-ok g c = begun_either g.N.Names.shape g.N.Names.told _ _ c.args.pass.now c.begin.new.pass c.args.deed c.begin.result c.begin.ensures.ok c.begin.ensures.fresh c.begin.ensures.counted
