use Rattle.std.proofs.Common.{◌∙◌, subst}
use Rattle.std.proofs.lemmas.List.Elements.{All-push}
use Rattle.ecp_sequencer.specs.Closed.{IsHeard}
use Rattle.ecp_sequencer.specs.Sequencers.{SequencerState}
use Rattle.ecp_sequencer.proofs.sequencer.Sequencer.settle.Goals as goal

pub loop-hand-preserved : goal.loop-hand-preserved
loop-hand-preserved g c =
    let i = c.loop-hand.invariant in
    let one = subst (λ (s : SequencerState). IsHeard s c.in-Some.hand) i.same c.meet_hand.ensures.heard in
    record {
      same = c.meet_hand.ensures.same ∙ i.same;
      heard = All-push (IsHeard c.args.self.now) c.loop-hand.yielded c.in-Some.hand i.heard one;
    }
