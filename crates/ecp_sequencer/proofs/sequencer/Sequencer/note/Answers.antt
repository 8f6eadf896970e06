use Rattle.std.proofs.Common.{◌-◌, ◌∙◌, sym, ap, subst, arith}
use Rattle.ecp_sequencer.specs.Passes.{IsLastCall, HandNotes, call_seen}
use Rattle.ecp_sequencer.proofs.AskLaws.{last_other, open_other}
use Rattle.ecp_sequencer.proofs.EventLaws.{noted_one}
use Rattle.ecp_sequencer.proofs.sequencer.Sequencer.note.Goals as goal

pub note-requires-clause-opened : goal.note-requires-clause-opened
note-requires-clause-opened g c =
    c.is_open-opened.ensures ∙ open_other c.index_mut-desk.result.now.notes c.len-point.result (c.room-room.result - 1) (g.E.Entered.item c.args.what.now) c.requires.kind

pub note-requires-clause-most : goal.note-requires-clause-most
note-requires-clause-most g c = omega (arith, c.room-room.ensures.room, c.room-room.ensures.most)

pub invariant_of-self : goal.invariant_of-self
invariant_of-self g c =
    let done =
    noted_one g.N.Names.shape g.N.Names.told g.N.Names.callers g.N.Names.spare_hands c.args.self.now c.args.pass.now c.self.inside.keeper.log c.pass.inside.front.log c.self.inside.taken
    c.self.inside.keeper.items c.self.inside.journal c.self.inside.desks.items c.pass.inside.caller c.pass.inside.calls c.pass.inside.front.items c.pass.inside.hand c.note.new.hand
    c.pass.inside.spare.items c.from.result c.index_mut-desk.result.now c.note.new.self c.len-point.result (c.room-room.result - 1) (g.E.Entered.item c.args.what.now)
    c.self.invariant (c.self.view_is ∙ c.renew.ensures.same) c.pass.invariant.0 (c.pass.view_is ∙ c.renew.ensures.pass) c.requires.agree
    (omega (arith, c.from.ensures, c.number.ensures)) c.index_mut-desk.ensures.value c.note.ensures.noted c.note.ensures.hand c.len-point.ensures
    c.room-room.ensures.counted (omega (arith, c.room-room.ensures.room)) c.requires.room c.requires.kind in
    done.0

pub invariant_of-pass : goal.invariant_of-pass
invariant_of-pass g c =
    let done =
    noted_one g.N.Names.shape g.N.Names.told g.N.Names.callers g.N.Names.spare_hands c.args.self.now c.args.pass.now c.self.inside.keeper.log c.pass.inside.front.log c.self.inside.taken
    c.self.inside.keeper.items c.self.inside.journal c.self.inside.desks.items c.pass.inside.caller c.pass.inside.calls c.pass.inside.front.items c.pass.inside.hand c.note.new.hand
    c.pass.inside.spare.items c.from.result c.index_mut-desk.result.now c.note.new.self c.len-point.result (c.room-room.result - 1) (g.E.Entered.item c.args.what.now)
    c.self.invariant (c.self.view_is ∙ c.renew.ensures.same) c.pass.invariant.0 (c.pass.view_is ∙ c.renew.ensures.pass) c.requires.agree
    (omega (arith, c.from.ensures, c.number.ensures)) c.index_mut-desk.ensures.value c.note.ensures.noted c.note.ensures.hand c.len-point.ensures
    c.room-room.ensures.counted (omega (arith, c.room-room.ensures.room)) c.requires.room c.requires.kind in (
      done.1,
      subst (λ (h : HandNotes). IsLastCall h.notes (call_seen c.pass.inside.number c.pass.inside.deed)) (sym c.note.ensures.hand)
          (last_other c.pass.inside.hand.notes c.len-point.result (c.room-room.result - 1) (g.E.Entered.item c.args.what.now) (call_seen c.pass.inside.number c.pass.inside.deed) c.requires.kind c.pass.invariant.1),
      λ own. c.pass.invariant.2 (sym (ap (λ (h : HandNotes). h.hand) c.note.ensures.hand) ∙ own),
    )

pub returns-clause-event : goal.returns-clause-event
returns-clause-event g c =
    let done =
    noted_one g.N.Names.shape g.N.Names.told g.N.Names.callers g.N.Names.spare_hands c.args.self.now c.args.pass.now c.self.inside.keeper.log c.pass.inside.front.log c.self.inside.taken
    c.self.inside.keeper.items c.self.inside.journal c.self.inside.desks.items c.pass.inside.caller c.pass.inside.calls c.pass.inside.front.items c.pass.inside.hand c.note.new.hand
    c.pass.inside.spare.items c.from.result c.index_mut-desk.result.now c.note.new.self c.len-point.result (c.room-room.result - 1) (g.E.Entered.item c.args.what.now)
    c.self.invariant (c.self.view_is ∙ c.renew.ensures.same) c.pass.invariant.0 (c.pass.view_is ∙ c.renew.ensures.pass) c.requires.agree
    (omega (arith, c.from.ensures, c.number.ensures)) c.index_mut-desk.ensures.value c.note.ensures.noted c.note.ensures.hand c.len-point.ensures
    c.room-room.ensures.counted (omega (arith, c.room-room.ensures.room)) c.requires.room c.requires.kind in
    done.2
