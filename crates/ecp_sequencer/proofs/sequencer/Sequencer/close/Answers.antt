use Rattle.std.proofs.Common.{◌≢◌, ◌∙◌, ℕ, ap, sym, subst, arith, rules}
use Rattle.std.specs.Prelude.{All}
use Rattle.std.proofs.lemmas.List.{map-id}
use Rattle.std.proofs.lemmas.Iterator.Adapters.{YieldsList-from_vec}
use Rattle.std.proofs.lemmas.Iterator.Consumers.{YieldsList-end}
use Rattle.std.proofs.lemmas.List.Elements.{All-push}
use Rattle.ecp_sequencer.specs.Hands.{hands_of}
use Rattle.ecp_sequencer.specs.Histories.{IsKept, lines_of}
use Rattle.ecp_sequencer.specs.Closed.{IsSettled}
use Rattle.ecp_sequencer.specs.Sequencers.{SequencerState}
use Rattle.ecp_sequencer.proofs.StartLaws.{none_past}
use Rattle.ecp_sequencer.proofs.sequencer.Sequencer.close.Goals as goal

pub loop-pass-preserved : goal.loop-pass-preserved
loop-pass-preserved g c =
    let i = c.loop-pass.invariant in
    let one = subst (λ (s : SequencerState). IsSettled s c.in-Some.pass) i.same c.settle.ensures.settled in
    record {
      same = c.settle.ensures.same ∙ i.same;
      settled = All-push (IsSettled c.args.self) c.loop-pass.yielded c.in-Some.pass i.settled one;
    }

pub returns : goal.returns
returns g c =
    let s : SequencerState = c.args.self in
    let hands : ℕ = hands_of g.N.Names.callers g.N.Names.spare_hands in
    let is = c.self.view_is ∙ c.loop-pass.invariant.same in
    let ended = YieldsList-end (YieldsList-from_vec {s = c.into_iter-pass-iterator.result} c.args.passes.items (search rules) (search rules)) c.loop-pass.yielded c.loop-pass.pass-iterator
    c.loop-pass.yielded_by c.next.result c.next.new.self c.in-None.is c.next.ensures.steps in
    let kept : IsKept g.N.Names.shape g.N.Names.told g.N.Names.callers g.N.Names.spare_hands s.history s.notes =
    subst (λ (t : SequencerState). IsKept g.N.Names.shape g.N.Names.told g.N.Names.callers g.N.Names.spare_hands t.history t.notes) is c.self.invariant.kept in
    record {
      kept = kept;
      none = λ hand past. let apart : hand ≢ hands = λ same. omega arith in none_past s.history s.notes hands hand kept.hands past (kept.stand hand apart);
      printed = c.self.invariant.lines ∙ ap (λ (t : SequencerState). lines_of t.history) is;
      settled = subst (All (IsSettled s)) (sym (map-id c.loop-pass.yielded) ∙ ended.0) c.loop-pass.invariant.settled;
    }
