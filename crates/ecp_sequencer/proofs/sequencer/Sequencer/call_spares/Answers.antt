use Rattle.std.proofs.Common.{◌≡◌, ◌≢◌, ◌∙◌, ℕ, ◌+◌, ◌≤◌, List, length, map, Some, ap, sym, subst, arith}
use Rattle.std.specs.Vec.{with_items}
use Rattle.std.proofs.lemmas.List.{with_items_is}
use Rattle.ecp_book.specs.Logs.{Log}
use Rattle.ecp_sequencer.specs.declared.limits.TheConstants.{ROOM}
use Rattle.ecp_sequencer.specs.Branches.{IsNone}
use Rattle.ecp_sequencer.specs.Facts.{facts_of}
use Rattle.ecp_sequencer.specs.Hands.{hands_of}
use Rattle.ecp_sequencer.specs.Histories.{Stands, notes_at}
use Rattle.ecp_sequencer.specs.Notes.{Call, note, beginning_of}
use Rattle.ecp_sequencer.specs.Passes.{HandNotes, PassState, IsPass, call_seen, pass_seen, with_note}
use Rattle.ecp_sequencer.specs.Sequencers.{SequencerState, notes_of}
use Rattle.ecp_sequencer.specs.Steps.{SparesNoted}
use Rattle.ecp_sequencer.proofs.AskLaws.{last_same}
use Rattle.ecp_sequencer.proofs.BranchLaws.{with_front, pass_holds}
use Rattle.ecp_sequencer.proofs.CallLaws.{open_last}
use Rattle.ecp_sequencer.proofs.EventLaws.{seen}
use Rattle.ecp_sequencer.proofs.HandLaws.{with_spare, held_called, spares_called}
use Rattle.ecp_sequencer.proofs.sequencer.Sequencer.call_spares.Goals as goal

-- a hand with the note that this call began
abbrev noting : ℕ → Call → HandNotes → HandNotes
noting point call h = with_note h (note point ROOM (beginning_of call))

pub invariant_of-pass : goal.invariant_of-pass
invariant_of-pass g c =
    let p = c.pass.inside in
    let s : SequencerState = c.args.self.now in
    let v : PassState = c.args.pass.now in
    let call : Call = call_seen p.number p.deed in
    let f : HandNotes → HandNotes = noting (length c.self.inside.keeper.items) call in
    let new : List HandNotes = c.call_each-self-inside.new.hands in
    let same = with_items_is p.spare new (c.call_each-self-inside.auto.hands ∙ c.as_mut_slice.ensures.len) in
    let is_new : new ≡ map f p.spare.items = c.call_each-self-inside.ensures.hands ∙ ap (map f) c.as_mut_slice.ensures.value in
    let begun : (facts_of p.hand.notes).call ≡ Some c.requires.news.call = ap (λ (q : PassState). (facts_of q.notes).call) c.pass.view_is ∙ c.requires.news.begun in
    let is_call : call ≡ c.requires.news.call = last_same p.hand.notes call c.requires.news.call c.pass.invariant.1 begun in
    let history = c.self.inside.keeper.items in
    let notes = notes_of c.self.inside.desks.items in
    let apart : p.hand.hand ≢ hands_of g.N.Names.callers g.N.Names.spare_hands = λ e. omega (arith, c.pass.invariant.0.in_range, e) in
    let heard : notes_at notes p.hand.hand ≡ p.hand.notes =
    ap (λ (t : SequencerState). notes_at t.notes p.hand.hand) c.self.view_is ∙ ap (λ (q : PassState). notes_at s.notes q.hand) c.pass.view_is ∙ c.requires.agree.notes
    ∙ sym (ap (λ (q : PassState). q.notes) c.pass.view_is) in
    let stands : Stands history p.hand.hand p.hand.notes = subst (Stands history p.hand.hand) heard (c.self.invariant.kept.stand p.hand.hand apart) in
    let last = open_last history p.hand.notes p.hand.hand c.requires.news.call stands begun in
    let counted : call.number + 1 ≤ p.calls = omega (arith, last, ap (λ (k : Call). k.number) is_call, c.pass.invariant.0.numbered) in
    let held = held_called g.N.Names.callers g.N.Names.spare_hands p.caller p.calls p.front.items (length history) ROOM call p.spare.items counted c.pass.invariant.0.held in
    let pass : IsPass g.N.Names.callers g.N.Names.spare_hands p.front.log (pass_seen g.N.Names.spare_hands p.caller p.calls p.front.items p.hand (map f p.spare.items)) =
    pass_holds g.N.Names.callers g.N.Names.spare_hands p.front.log p.front.log p.caller p.calls p.front.items p.hand p.spare.items (map f p.spare.items) c.pass.invariant.0
    c.pass.invariant.0.on_history held in (
      subst (λ (hs : List HandNotes). IsPass g.N.Names.callers g.N.Names.spare_hands p.front.log (pass_seen g.N.Names.spare_hands p.caller p.calls p.front.items p.hand hs)) (sym (same ∙ is_new)) pass,
      c.pass.invariant.1,
      c.pass.invariant.2,
    )

pub returns-clause-ok : goal.returns-clause-ok
returns-clause-ok g c =
    let p = c.pass.inside in
    let s : SequencerState = c.args.self.now in
    let v : PassState = c.args.pass.now in
    let call : Call = call_seen p.number p.deed in
    let f : HandNotes → HandNotes = noting (length c.self.inside.keeper.items) call in
    let new : List HandNotes = c.call_each-self-inside.new.hands in
    let same = with_items_is p.spare new (c.call_each-self-inside.auto.hands ∙ c.as_mut_slice.ensures.len) in
    let is_new : new ≡ map f p.spare.items = c.call_each-self-inside.ensures.hands ∙ ap (map f) c.as_mut_slice.ensures.value in
    let begun : (facts_of p.hand.notes).call ≡ Some c.requires.news.call = ap (λ (q : PassState). (facts_of q.notes).call) c.pass.view_is ∙ c.requires.news.begun in
    let is_call : call ≡ c.requires.news.call = last_same p.hand.notes call c.requires.news.call c.pass.invariant.1 begun in
    let up : PassState = pass_seen g.N.Names.spare_hands p.caller p.calls p.front.items p.hand p.spare.items in
    let after : SequencerState = seen c.self.inside.keeper.items c.call_each-self-inside.new.desks.items in
    let t : SequencerState = c.renew.new.self in
    let w : PassState = c.renew.new.pass in
    let grown = ap (λ (x : SequencerState). x.history) c.self.view_is in
    let noted : SparesNoted f s up t w =
    spares_called f s after t up w _ grown (same ∙ is_new)
    (λ hand none. c.call_each-self-inside.ensures.others hand (subst (λ (hs : List HandNotes). IsNone hs hand) (sym c.as_mut_slice.ensures.value) none)
    ∙ ap (λ (x : SequencerState). notes_at x.notes hand) c.self.view_is)
    c.gather.ensures.spare c.renew.ensures.event.agrees (c.renew.ensures.same ∙ c.gather.ensures.same)
    (c.renew.ensures.pass ∙ ap (λ (q : PassState). with_front q c.gather.new.self.history) c.gather.ensures.pass
    ∙ ap (λ (x : SequencerState). with_front (with_spare up (with_items p.spare new).items) x.history) c.gather.ensures.same) in
    record {
      call = c.requires.news.call;
      begun = c.requires.news.begun;
      noted = subst (λ (k : Call). SparesNoted (noting (length s.history) k) s v t w) is_call
          (subst (λ (xs : Log). SparesNoted (noting (length xs) call) s v t w) grown (subst (λ (q : PassState). SparesNoted f s q t w) c.pass.view_is noted));
    }
