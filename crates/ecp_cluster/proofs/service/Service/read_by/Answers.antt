use Rattle.std.proofs.Common.{subst}
use Rattle.ecp_entry.specs.declared.act.Act.TheVariants as act
use Rattle.ecp_entry.specs.declared.part.Part.{Part}
use Rattle.ecp_requestor.specs.Fetching.{Fetches}
use Rattle.ecp_requestor.specs.declared.fetched.Fetched.{Fetched}
use Rattle.ecp_cluster.specs.Concluded.{Answers}
use Rattle.ecp_cluster.proofs.CallLaws.{on_err}
use Rattle.ecp_cluster.proofs.ReadLaws.{ended_by, goes_on_from, went_from}
use Rattle.ecp_cluster.proofs.service.Service.read_by.Goals as goal

pub returns-in_err-plan-clause-err : goal.returns-in_err-plan-clause-err
returns-in_err-plan-clause-err g c =
    on_err c.from_residual.result (λ v asked from. went_from g.N.Names.shape g.N.Names.told v c.args.pass.now c.fetch_by.new.pass asked c.args.plan from c.in_err-plan.ensures.err)

pub returns-in-Whole-clause-ok : goal.returns-in-Whole-clause-ok
returns-in-Whole-clause-ok g c = λ v asked from.
    let fetched = subst (λ (f : Fetched g.row.N.Denot). Fetches g.N.Names.shape g.N.Names.told c.args.pass.now c.args.plan c.fetch_by.new.pass f) c.in-Whole.is c.in_ok-plan.ensures.ok in
    subst (λ (r : Part). Answers g.N.Names.shape g.N.Names.told v asked r c.give.result.act c.give.result.bytes c.give.new.pass) fetched.0.later.part
    (c.give.ensures.read v asked (goes_on_from g.N.Names.shape g.N.Names.told v c.args.pass.now asked c.args.plan from c.in-Whole.plan c.fetch_by.new.pass fetched.0))

pub returns-in-Unrecoverable-clause-ok : goal.returns-in-Unrecoverable-clause-ok
returns-in-Unrecoverable-clause-ok g c = λ v asked from.
    let fetched = subst (λ (f : Fetched g.row.N.Denot). Fetches g.N.Names.shape g.N.Names.told c.args.pass.now c.args.plan c.fetch_by.new.pass f) c.in-Unrecoverable.is c.in_ok-plan.ensures.ok in
    ended_by g.N.Names.shape g.N.Names.told v c.args.pass.now asked c.args.plan from (act.Unrecoverable c.in-Unrecoverable.live) c.only.result.act c.only.result.bytes c.fetch_by.new.pass fetched c.only.ensures.act.0 c.only.ensures.act.1

pub returns-in-Unsteady-clause-ok : goal.returns-in-Unsteady-clause-ok
returns-in-Unsteady-clause-ok g c = λ v asked from.
    let fetched = subst (λ (f : Fetched g.row.N.Denot). Fetches g.N.Names.shape g.N.Names.told c.args.pass.now c.args.plan c.fetch_by.new.pass f) c.in-Unsteady.is c.in_ok-plan.ensures.ok in
    ended_by g.N.Names.shape g.N.Names.told v c.args.pass.now asked c.args.plan from (act.Unsteady c.in-Unsteady.voids.at) c.only-in-Unsteady.result.act c.only-in-Unsteady.result.bytes c.fetch_by.new.pass fetched c.only-in-Unsteady.ensures.act.0 c.only-in-Unsteady.ensures.act.1
