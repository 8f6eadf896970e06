use Rattle.ecp_requestor.proofs.CrewLaws.{crew_of}
use Rattle.ecp_cluster.proofs.crew.ServiceCrew.replan.Goals as goal

pub returns : goal.returns
returns g c =
    crew_of g.N.Names.shape g.N.Names.told _ _ c.args.pass.now c.replan.new.pass c.args.plan.now c.replan.new.plan c.replan.result c.requires c.replan.ensures.answer c.replan.ensures.done
