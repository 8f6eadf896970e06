use Rattle.ecp_coord.specs.Plans.{part_for}
use Rattle.ecp_cluster.proofs.ReadLaws.{planned_either, room_by, unplanned_either}
use Rattle.ecp_cluster.proofs.service.Service.plan_read.Goals as goal

pub returns-clause-ok : goal.returns-clause-ok
returns-clause-ok g c = λ asked is. planned_either g.N.Names.shape g.N.Names.told _ _ c.args.pass.now c.plan.new.pass asked c.plan.result is c.plan.ensures.ok

pub returns-clause-err : goal.returns-clause-err
returns-clause-err g c = λ asked is. unplanned_either g.N.Names.shape g.N.Names.told _ _ c.args.pass.now c.plan.new.pass asked (part_for c.args.ask) c.plan.result is (room_by g.N.Names.shape c.args.pass.now c.args.ask c.requires) c.plan.ensures.err
