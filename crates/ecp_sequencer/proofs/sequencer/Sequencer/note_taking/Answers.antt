use Rattle.std.proofs.Common.{◌∙◌, ℕ, List, length, ap, sym, subst, arith}
use Rattle.ecp_sequencer.specs.declared.limits.TheConstants.{ROOM}
use Rattle.ecp_sequencer.specs.Facts.{HandFacts, facts_of}
use Rattle.ecp_sequencer.specs.Passes.{IsLastCall, HandNotes, call_seen, PassState}
use Rattle.ecp_sequencer.specs.Sequencers.{SequencerState}
use Rattle.ecp_sequencer.proofs.NoteLaws.{facts-other}
use Rattle.ecp_sequencer.proofs.AskLaws.{last_other, open_other}
use Rattle.ecp_sequencer.proofs.KeptLaws.{fits_other}
use Rattle.ecp_sequencer.proofs.EventLaws.{noted_full}
use Rattle.ecp_sequencer.proofs.sequencer.Sequencer.note_taking.Goals as goal

pub note-requires-clause-opened : goal.note-requires-clause-opened
note-requires-clause-opened g c =
    c.is_open-opened.ensures ∙ open_other c.index_mut-desk.result.now.notes c.len-point.result (ROOM) (g.E.Entered.item c.args.what.now) c.requires.kind

pub invariant_of-self-2 : goal.invariant_of-self-2
invariant_of-self-2 g c =
    let s : SequencerState = c.args.self.now in
    let v : PassState = c.args.pass.now in
    let what : List ℕ = g.E.Entered.item c.args.what.now in
    let facts = facts-other v.notes (length s.history) ROOM what c.requires.kind in
    let done =
    noted_full g.N.Names.shape g.N.Names.told g.N.Names.callers g.N.Names.spare_hands c.args.self.now c.args.pass.now c.self.inside.keeper.log c.pass.inside.front.log c.self.inside.taken
    c.self.inside.keeper.items c.self.inside.journal c.make_room.new.journal c.self.inside.desks.items c.pass.inside.caller c.pass.inside.calls c.pass.inside.calls c.pass.inside.front.items c.pass.inside.hand
    c.note.new.hand c.pass.inside.spare.items c.from.result c.in_ok-taken.taken c.index_mut-desk.result.now c.note.new.self c.len-point.result (g.E.Entered.item c.args.what.now)
    c.self.invariant (c.self.view_is ∙ c.renew.ensures.same) c.pass.invariant.0 (c.pass.view_is ∙ c.renew.ensures.pass) c.requires.agree
    (omega (arith, c.from.ensures, c.number.ensures)) c.index_mut-desk.ensures.value c.note.ensures.noted c.note.ensures.hand c.len-point.ensures
    c.make_room.ensures.lines c.in_ok-taken.ensures.room c.in_ok-taken.ensures.spare c.in_ok-taken.ensures.history
    (fits_other v.hand s.history v.notes ROOM what c.requires.agree.entered c.requires.kind) (ap (λ (f : HandFacts). f.entries) facts)
    (omega (arith, c.pass.invariant.0.numbered, ap (λ (f : HandFacts). f.calls) facts, ap (λ (p : PassState). (facts_of p.notes).calls) (c.pass.view_is ∙ c.renew.ensures.pass))) (omega arith) in
    done.0

pub invariant_of-pass : goal.invariant_of-pass
invariant_of-pass g c =
    let s : SequencerState = c.args.self.now in
    let v : PassState = c.args.pass.now in
    let what : List ℕ = g.E.Entered.item c.args.what.now in
    let facts = facts-other v.notes (length s.history) ROOM what c.requires.kind in
    let done =
    noted_full g.N.Names.shape g.N.Names.told g.N.Names.callers g.N.Names.spare_hands c.args.self.now c.args.pass.now c.self.inside.keeper.log c.pass.inside.front.log c.self.inside.taken
    c.self.inside.keeper.items c.self.inside.journal c.make_room.new.journal c.self.inside.desks.items c.pass.inside.caller c.pass.inside.calls c.pass.inside.calls c.pass.inside.front.items c.pass.inside.hand
    c.note.new.hand c.pass.inside.spare.items c.from.result c.in_ok-taken.taken c.index_mut-desk.result.now c.note.new.self c.len-point.result (g.E.Entered.item c.args.what.now)
    c.self.invariant (c.self.view_is ∙ c.renew.ensures.same) c.pass.invariant.0 (c.pass.view_is ∙ c.renew.ensures.pass) c.requires.agree
    (omega (arith, c.from.ensures, c.number.ensures)) c.index_mut-desk.ensures.value c.note.ensures.noted c.note.ensures.hand c.len-point.ensures
    c.make_room.ensures.lines c.in_ok-taken.ensures.room c.in_ok-taken.ensures.spare c.in_ok-taken.ensures.history
    (fits_other v.hand s.history v.notes ROOM what c.requires.agree.entered c.requires.kind) (ap (λ (f : HandFacts). f.entries) facts)
    (omega (arith, c.pass.invariant.0.numbered, ap (λ (f : HandFacts). f.calls) facts, ap (λ (p : PassState). (facts_of p.notes).calls) (c.pass.view_is ∙ c.renew.ensures.pass))) (omega arith) in (
      done.1,
      subst (λ (h : HandNotes). IsLastCall h.notes (call_seen c.pass.inside.number c.pass.inside.deed)) (sym c.note.ensures.hand)
          (last_other c.pass.inside.hand.notes c.len-point.result ROOM what (call_seen c.pass.inside.number c.pass.inside.deed) c.requires.kind c.pass.invariant.1),
      λ own. c.pass.invariant.2 (sym (ap (λ (h : HandNotes). h.hand) c.note.ensures.hand) ∙ own),
    )

pub returns-clause-ok : goal.returns-clause-ok
returns-clause-ok g c =
    let s : SequencerState = c.args.self.now in
    let v : PassState = c.args.pass.now in
    let what : List ℕ = g.E.Entered.item c.args.what.now in
    let facts = facts-other v.notes (length s.history) ROOM what c.requires.kind in
    let done =
    noted_full g.N.Names.shape g.N.Names.told g.N.Names.callers g.N.Names.spare_hands c.args.self.now c.args.pass.now c.self.inside.keeper.log c.pass.inside.front.log c.self.inside.taken
    c.self.inside.keeper.items c.self.inside.journal c.make_room.new.journal c.self.inside.desks.items c.pass.inside.caller c.pass.inside.calls c.pass.inside.calls c.pass.inside.front.items c.pass.inside.hand
    c.note.new.hand c.pass.inside.spare.items c.from.result c.in_ok-taken.taken c.index_mut-desk.result.now c.note.new.self c.len-point.result (g.E.Entered.item c.args.what.now)
    c.self.invariant (c.self.view_is ∙ c.renew.ensures.same) c.pass.invariant.0 (c.pass.view_is ∙ c.renew.ensures.pass) c.requires.agree
    (omega (arith, c.from.ensures, c.number.ensures)) c.index_mut-desk.ensures.value c.note.ensures.noted c.note.ensures.hand c.len-point.ensures
    c.make_room.ensures.lines c.in_ok-taken.ensures.room c.in_ok-taken.ensures.spare c.in_ok-taken.ensures.history
    (fits_other v.hand s.history v.notes ROOM what c.requires.agree.entered c.requires.kind) (ap (λ (f : HandFacts). f.entries) facts)
    (omega (arith, c.pass.invariant.0.numbered, ap (λ (f : HandFacts). f.calls) facts, ap (λ (p : PassState). (facts_of p.notes).calls) (c.pass.view_is ∙ c.renew.ensures.pass))) (omega arith) in
    done.2
