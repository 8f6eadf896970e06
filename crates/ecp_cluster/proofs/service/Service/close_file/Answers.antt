use Rattle.ecp_cluster.proofs.CallLaws.{concluded}
use Rattle.ecp_cluster.proofs.service.Service.close_file.Goals as goal

pub returns-clause-ends : goal.returns-clause-ends
returns-clause-ends g c = λ asked is. concluded g.N.Names.shape g.N.Names.told _ _ c.args.pass.now c.close_call.new.pass asked c.args.act (c.close_call.ensures.event asked is)
