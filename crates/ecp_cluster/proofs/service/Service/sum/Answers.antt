use Rattle.std.proofs.Common.{List, ℕ, ap, subst, [], ◌∷◌}
use Rattle.ecp_entry.specs.declared.deed.Deed.{Deed}
use Rattle.ecp_entry.specs.declared.deed.Deed.TheVariants.{Sum}
use Rattle.ecp_coord.specs.Calls.{IsFresh}
use Rattle.ecp_cluster.specs.Answered.{HasBegun}
use Rattle.ecp_cluster.proofs.CallLaws.{none_after, on_err}
use Rattle.ecp_cluster.proofs.SumLaws.{summed}
use Rattle.ecp_sequencer.proofs.StepLaws.{steps_whole}
use Rattle.ecp_cluster.proofs.service.Service.sum.Goals as goal

pub returns-clause-ok : goal.returns-clause-ok
returns-clause-ok g c =
    let begun : HasBegun c.args.pass.now (Sum c.args.name.now c.args.index) c.begin.new.pass =
    subst (λ (d : Deed). HasBegun c.args.pass.now d c.begin.new.pass) (ap (λ (n : List ℕ). Sum n c.args.index) c.new.ensures) c.in_ok-begin.ensures.ok in
    let fresh : IsFresh c.begin.new.pass (Sum c.args.name.now c.args.index) =
    subst (λ (d : Deed). IsFresh c.begin.new.pass d) (ap (λ (n : List ℕ). Sum n c.args.index) c.new.ensures) c.in_ok-begin.ensures.ok.fresh in
    summed g.N.Names.shape g.N.Names.told c.args.pass.now c.begin.new.pass c.read_on.new.pass (Sum c.args.name.now c.args.index) c.in_ok-answer.answer c.digested.result begun
    (c.in_ok-answer.ensures.ok (Sum c.args.name.now c.args.index) fresh.is_open) c.digested.ensures.act c.digested.ensures.none c.digested.ensures.by_digest c.digested.ensures.digest

pub returns-in_err-answer-clause-err : goal.returns-in_err-answer-clause-err
returns-in_err-answer-clause-err g c =
    let begun : HasBegun c.args.pass.now (Sum c.args.name.now c.args.index) c.begin.new.pass =
    subst (λ (d : Deed). HasBegun c.args.pass.now d c.begin.new.pass) (ap (λ (n : List ℕ). Sum n c.args.index) c.new.ensures) c.in_ok-begin.ensures.ok in
    on_err c.from_residual-in_err-answer.result (none_after c.args.pass.now c.begin.new.pass c.read_on.new.pass (Sum c.args.name.now c.args.index) begun c.in_err-answer.ensures.err)

pub returns-clause-whole : goal.returns-clause-whole
returns-clause-whole g c =
    let made = (returns-clause-ok g c).answered in
    steps_whole c.args.pass.now c.read_on.new.pass (made.entry ∷ []) made.called.more made.called.steps c.requires.whole
