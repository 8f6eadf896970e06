use Rattle.std.proofs.Common.{◌∙◌, ◌≤◌, List, sym, subst}
use Rattle.std.specs.Prelude.{All}
use mathlib.Core.List.{IsPrefix}
use Rattle.ecp_sequencer.specs.Branches.{IsKnown}
use Rattle.ecp_sequencer.specs.Closed.{IsHeard}
use Rattle.ecp_sequencer.specs.Facts.{facts_of}
use Rattle.ecp_sequencer.specs.Passes.{HandNotes, PassState}
use Rattle.ecp_sequencer.specs.Sequencers.{SequencerState}
use Rattle.ecp_sequencer.proofs.HandLaws.{all_known}
use Rattle.ecp_sequencer.proofs.sequencer.Sequencer.gather.Goals as goal

pub returns-clause-spare : goal.returns-clause-spare
returns-clause-spare g c =
    let s : SequencerState = c.args.self.now in
    let hands : List HandNotes = c.pass.inside.spare.items in
    let heard : All (IsHeard s) hands =
    subst (All (IsHeard s)) c.as_mut_slice.ensures.value (subst (λ (t : SequencerState). All (IsHeard t) c.as_mut_slice.result.now) c.meet.ensures.same c.meet_each.ensures.heard) in
    let is = c.pass.view_is ∙ c.meet.ensures.pass in
    let begins : IsPrefix c.pass.inside.front.items s.history = subst (λ (p : PassState). IsPrefix p.front s.history) (sym is) c.meet.ensures.agree.begins in
    subst (λ (p : PassState). All (IsKnown s p.front) p.spare) is
    (all_known g.N.Names.callers g.N.Names.spare_hands c.pass.inside.caller c.pass.inside.calls s c.pass.inside.front.items hands begins c.pass.invariant.0.held heard)

pub returns-clause-numbered : goal.returns-clause-numbered
returns-clause-numbered g c =
    subst (λ (p : PassState). All (λ (h : HandNotes). (facts_of h.notes).calls ≤ p.calls) p.spare) (c.pass.view_is ∙ c.meet.ensures.pass)
    (λ k d lt. (c.pass.invariant.0.held k d lt).numbered)
