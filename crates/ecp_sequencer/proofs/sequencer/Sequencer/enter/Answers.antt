use Rattle.std.proofs.Common.{◌-◌, ◌∙◌, Bool, cond, false, ap, sym, subst, arith}
use Rattle.ecp_entry.specs.declared.entry.Entry.{Entry}
use Rattle.ecp_sequencer.specs.Facts.{is_end}
use Rattle.ecp_sequencer.specs.Sequencers.{DeskState}
use Rattle.ecp_book.specs.Logs.{Known}
use Rattle.ecp_sequencer.specs.EntryRefs.{entry_of}
use Rattle.ecp_sequencer.specs.Passes.{IsLastCall, HandNotes, call_seen}
use Rattle.ecp_sequencer.proofs.AskLaws.{last_entered, open_entered}
use Rattle.ecp_sequencer.proofs.EventLaws.{entered_one}
use Rattle.ecp_sequencer.proofs.sequencer.Sequencer.enter.Goals as goal

pub note-requires-clause-opened : goal.note-requires-clause-opened
note-requires-clause-opened g c =
    let d : DeskState = c.index_mut-desk.result.now in
    let e : Entry = entry_of c.args.entry.now in
    c.leaves_open-opened.ensures ∙ ap (λ (b : Bool). cond (is_end e.line.part) false b) c.is_open.ensures
    ∙ open_entered d.notes c.len-point.result (c.room-room.result - 1) c.number-hand.result e

pub note-requires-clause-most : goal.note-requires-clause-most
note-requires-clause-most g c = omega (arith, c.room-room.ensures.room, c.room-room.ensures.most)

pub invariant_of-self : goal.invariant_of-self
invariant_of-self g c =
    let done =
    entered_one g.N.Names.shape g.N.Names.told g.N.Names.callers g.N.Names.spare_hands c.args.self.now c.args.pass.now c.self.inside.keeper.log c.pass.inside.front.log c.self.inside.taken
    c.self.inside.keeper.items c.renew_front.new.keeper.items c.renew_front.new.front.items c.self.inside.journal c.add.new.self c.self.inside.desks.items c.pass.inside.caller c.pass.inside.calls
    c.pass.inside.front.items c.pass.inside.hand c.note.new.hand c.pass.inside.spare.items c.from.result c.index_mut-desk.result.now c.note.new.self c.len-point.result (c.room-room.result - 1)
    c.number-hand.result c.renew_front.new.keeper.log c.renew_front.new.front.log (entry_of c.args.entry.now)
    c.self.invariant c.self.view_is c.pass.invariant.0 c.pass.view_is c.requires.agree
    (omega (arith, c.from.ensures, c.number-hand.ensures)) c.index_mut-desk.ensures.value c.note.ensures.noted c.note.ensures.hand c.len-point.ensures c.number-hand.ensures
    (ap (λ (k : Known). k.items) c.renew_front.ensures.kept ∙ c.append.ensures.added) (ap (λ (k : Known). k.items) (c.renew_front.ensures.front ∙ sym c.renew_front.ensures.kept))
    (ap (λ (k : Known). k.log) c.renew_front.ensures.kept ∙ c.append.ensures.log) (ap (λ (k : Known). k.log) c.renew_front.ensures.front ∙ c.append.ensures.log)
    c.add.ensures.lines c.add.ensures.spare c.room-room.ensures.counted (omega (arith, c.room-room.ensures.room)) c.requires.room c.requires.own c.requires.follows c.requires.bytes in
    done.0

pub invariant_of-pass : goal.invariant_of-pass
invariant_of-pass g c =
    let done =
    entered_one g.N.Names.shape g.N.Names.told g.N.Names.callers g.N.Names.spare_hands c.args.self.now c.args.pass.now c.self.inside.keeper.log c.pass.inside.front.log c.self.inside.taken
    c.self.inside.keeper.items c.renew_front.new.keeper.items c.renew_front.new.front.items c.self.inside.journal c.add.new.self c.self.inside.desks.items c.pass.inside.caller c.pass.inside.calls
    c.pass.inside.front.items c.pass.inside.hand c.note.new.hand c.pass.inside.spare.items c.from.result c.index_mut-desk.result.now c.note.new.self c.len-point.result (c.room-room.result - 1)
    c.number-hand.result c.renew_front.new.keeper.log c.renew_front.new.front.log (entry_of c.args.entry.now)
    c.self.invariant c.self.view_is c.pass.invariant.0 c.pass.view_is c.requires.agree
    (omega (arith, c.from.ensures, c.number-hand.ensures)) c.index_mut-desk.ensures.value c.note.ensures.noted c.note.ensures.hand c.len-point.ensures c.number-hand.ensures
    (ap (λ (k : Known). k.items) c.renew_front.ensures.kept ∙ c.append.ensures.added) (ap (λ (k : Known). k.items) (c.renew_front.ensures.front ∙ sym c.renew_front.ensures.kept))
    (ap (λ (k : Known). k.log) c.renew_front.ensures.kept ∙ c.append.ensures.log) (ap (λ (k : Known). k.log) c.renew_front.ensures.front ∙ c.append.ensures.log)
    c.add.ensures.lines c.add.ensures.spare c.room-room.ensures.counted (omega (arith, c.room-room.ensures.room)) c.requires.room c.requires.own c.requires.follows c.requires.bytes in (
      done.1,
      subst (λ (h : HandNotes). IsLastCall h.notes (call_seen c.pass.inside.number c.pass.inside.deed)) (sym c.note.ensures.hand)
          (last_entered c.pass.inside.hand.notes c.len-point.result (c.room-room.result - 1) c.number-hand.result (entry_of c.args.entry.now) (call_seen c.pass.inside.number c.pass.inside.deed) c.pass.invariant.1),
      λ own. c.pass.invariant.2 (sym (ap (λ (h : HandNotes). h.hand) c.note.ensures.hand) ∙ own),
    )

pub returns-clause-event : goal.returns-clause-event
returns-clause-event g c =
    let done =
    entered_one g.N.Names.shape g.N.Names.told g.N.Names.callers g.N.Names.spare_hands c.args.self.now c.args.pass.now c.self.inside.keeper.log c.pass.inside.front.log c.self.inside.taken
    c.self.inside.keeper.items c.renew_front.new.keeper.items c.renew_front.new.front.items c.self.inside.journal c.add.new.self c.self.inside.desks.items c.pass.inside.caller c.pass.inside.calls
    c.pass.inside.front.items c.pass.inside.hand c.note.new.hand c.pass.inside.spare.items c.from.result c.index_mut-desk.result.now c.note.new.self c.len-point.result (c.room-room.result - 1)
    c.number-hand.result c.renew_front.new.keeper.log c.renew_front.new.front.log (entry_of c.args.entry.now)
    c.self.invariant c.self.view_is c.pass.invariant.0 c.pass.view_is c.requires.agree
    (omega (arith, c.from.ensures, c.number-hand.ensures)) c.index_mut-desk.ensures.value c.note.ensures.noted c.note.ensures.hand c.len-point.ensures c.number-hand.ensures
    (ap (λ (k : Known). k.items) c.renew_front.ensures.kept ∙ c.append.ensures.added) (ap (λ (k : Known). k.items) (c.renew_front.ensures.front ∙ sym c.renew_front.ensures.kept))
    (ap (λ (k : Known). k.log) c.renew_front.ensures.kept ∙ c.append.ensures.log) (ap (λ (k : Known). k.log) c.renew_front.ensures.front ∙ c.append.ensures.log)
    c.add.ensures.lines c.add.ensures.spare c.room-room.ensures.counted (omega (arith, c.room-room.ensures.room)) c.requires.room c.requires.own c.requires.follows c.requires.bytes in
    done.2
