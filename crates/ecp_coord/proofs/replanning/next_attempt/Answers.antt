use Rattle.std.proofs.Common.{◌+◌}
use Rattle.ecp_plan.specs.declared.plan.Plan.{Plan}
use Rattle.ecp_coord.specs.Plans.{planning_of}
use Rattle.ecp_coord.proofs.NextLaws.{noted_after}
use Rattle.ecp_coord.proofs.replanning.next_attempt.Goals as goal

pub returns-clause-event : goal.returns-clause-event
returns-clause-event g c =
    let new : Plan g.row.N.Denot = record c.args.plan.now { attempt = c.args.plan.now.attempt + 1; lanes = c.lanes-plan.result; hops = c.help.new.hops; point = c.len-plan.result } in
    noted_after g.N.Names.shape g.N.Names.told c.args.sequencer.now c.renew.new.self c.note.new.self c.args.pass.now c.front.new.self c.note.new.pass c.renew.ensures.same (planning_of new) c.renew.new.pass
    c.front.ensures.kept c.renew.ensures.pass c.renew.ensures.event c.note.ensures.event
