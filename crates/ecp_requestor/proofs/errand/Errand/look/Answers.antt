use Rattle.std.proofs.Common.{sym, ◌∙◌, subst}
use Rattle.ecp_plan.specs.declared.plan.Plan.{Plan}
use Rattle.ecp_coord.specs.Plans.{IsPlanned}
use Rattle.ecp_requestor.specs.Errands.{ErrandState}
use Rattle.ecp_requestor.specs.Fetching.{Advances}
use Rattle.ecp_requestor.proofs.CrewLaws.{moves_on, stays_on}
use Rattle.ecp_requestor.proofs.errand.Errand.look.Goals as goal

pub returns-in-StillGood : goal.returns-in-StillGood
returns-in-StillGood g c =
    let shape = g.N.Names.shape in
    let told = g.N.Names.told in
    let v = c.args.pass.now in
    let w = c.replan.new.pass in
    let answer = c.in-StillGood.ensures in
    let planned : IsPlanned shape told v c.self.inside.plan = subst (λ (e : ErrandState g.row.N.Denot). IsPlanned shape told v e.plan) (sym c.self.view_is) c.requires in
    subst (λ (e : ErrandState g.row.N.Denot). Advances shape told v e.plan c.replan.new.plan w) c.self.view_is (stays_on shape told answer.before v w c.self.inside.plan c.replan.new.plan planned answer.did)

pub returns-in_ok-self-inside-in-Planned : goal.returns-in_ok-self-inside-in-Planned
returns-in_ok-self-inside-in-Planned g c =
    let shape = g.N.Names.shape in
    let told = g.N.Names.told in
    let v = c.args.pass.now in
    let w = c.replan.new.pass in
    let answer = c.in-Planned.ensures in
    subst (λ (e : ErrandState g.row.N.Denot). Advances shape told v e.plan c.begin.new.plan w) c.self.view_is
    (subst (λ (p : Plan g.row.N.Denot). Advances shape told v c.self.inside.plan p w) (sym (c.begin.ensures ∙ c.renew.ensures.plan))
    (moves_on shape told answer.before v w c.self.inside.plan c.replan.new.plan answer.did))
