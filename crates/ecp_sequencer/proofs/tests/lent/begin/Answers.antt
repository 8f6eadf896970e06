use Rattle.std.proofs.Common.{◌≡◌, ◌∙◌, length, ap}
use Rattle.ecp_sequencer.specs.declared.limits.TheConstants.{ROOM}
use Rattle.ecp_entry.specs.declared.deed.Deed.TheVariants.{Lose}
use Rattle.ecp_sequencer.specs.Passes.{PassState, new_hands}
use Rattle.ecp_sequencer.proofs.LentLaws.{lendable, news_after, told_hands}
use Rattle.ecp_sequencer.proofs.tests.lent.begin.Goals as goal

pub call_spares-requires-clause-news : goal.call_spares-requires-clause-news
call_spares-requires-clause-news g c =
    let u : PassState = c.args.pass.now in
    let v : PassState = c.gather.new.pass in
    let w : PassState = c.begin.new.pass in
    let x : PassState = c.gather-2.new.pass in
    let steps = c.in_ok-begin.ensures.ok.steps in
    news_after u v w x (length c.gather.new.self.history) ROOM (Lose 7) c.gather.ensures.pass steps.noted steps.spare c.gather-2.ensures.pass c.gather.ensures.numbered

pub returns-clause-lend : goal.returns-clause-lend
returns-clause-lend g c =
    let v : PassState = c.gather-2.new.pass in
    let w : PassState = c.call_spares.new.pass in
    let spare : v.spare ≡ new_hands 3 1 =
    ap (λ (p : PassState). p.spare) c.gather-2.ensures.pass ∙ c.in_ok-begin.ensures.ok.steps.spare ∙ ap (λ (p : PassState). p.spare) c.gather.ensures.pass
    ∙ ap (λ (p : PassState). p.spare) c.requires in
    lendable c.gather-2.new.self c.call_spares.new.self v w c.in_ok-call_spares.ensures.ok spare

pub returns-clause-spare : goal.returns-clause-spare
returns-clause-spare g c =
    let v : PassState = c.gather-2.new.pass in
    let w : PassState = c.call_spares.new.pass in
    let spare : v.spare ≡ new_hands 3 1 =
    ap (λ (p : PassState). p.spare) c.gather-2.ensures.pass ∙ c.in_ok-begin.ensures.ok.steps.spare ∙ ap (λ (p : PassState). p.spare) c.gather.ensures.pass
    ∙ ap (λ (p : PassState). p.spare) c.requires in
    told_hands c.gather-2.new.self c.call_spares.new.self v w c.in_ok-call_spares.ensures.ok spare
