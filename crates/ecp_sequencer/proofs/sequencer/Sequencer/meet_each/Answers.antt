use Rattle.std.proofs.Common.{◌∙◌, List, length, set, get_or, ap, subst, arith}
use Rattle.std.specs.Prelude.{All}
use Rattle.std.proofs.lemmas.List.{set-get_or, take_all}
use Rattle.std.proofs.lemmas.List.Elements.{All-more}
use Rattle.ecp_sequencer.specs.Closed.{IsHeard}
use Rattle.ecp_sequencer.specs.Passes.{HandNotes}
use Rattle.ecp_sequencer.specs.Sequencers.{SequencerState}
use Rattle.ecp_sequencer.proofs.sequencer.Sequencer.meet_each.Goals as goal

pub loop-hand-preserved : goal.loop-hand-preserved
loop-hand-preserved g c =
    let i = c.loop-hand.invariant in
    let at = c.loop-hand.hand-index in
    let x : HandNotes = c.hand-item.result in
    let one : IsHeard c.args.self.now (get_or c.loop-hand.hands at x) = subst (λ (s : SequencerState). IsHeard s (get_or c.loop-hand.hands at x)) i.same c.meet_hand.ensures.heard in
    record {
      same = c.meet_hand.ensures.same ∙ i.same;
      hands = ap (set c.loop-hand.hands at) c.meet_hand.ensures.hand ∙ set-get_or c.loop-hand.hands at x ∙ i.hands;
      heard = All-more (IsHeard c.args.self.now) c.args.hands.now at x (omega (arith, c.loop-hand-test.true, ap (λ (hs : List HandNotes). length hs) i.hands)) i.heard
          (subst (λ (hs : List HandNotes). IsHeard c.args.self.now (get_or hs at x)) i.hands one);
    }

pub returns-clause-heard : goal.returns-clause-heard
returns-clause-heard g c =
    subst (All (IsHeard c.args.self.now))
    (take_all c.loop-hand.hand-index c.args.hands.now (omega (arith, c.loop-hand-test.false, ap (λ (hs : List HandNotes). length hs) c.loop-hand.invariant.hands))) c.loop-hand.invariant.heard
