use Rattle.std.proofs.Common.{◌∙◌, Some, refl, sym, ap, subst, arith}
use Rattle.ecp_sequencer.specs.declared.limits.TheConstants.{ROOM}
use Rattle.ecp_sequencer.specs.Passes.{IsLastCall, HandNotes, call_seen}
use Rattle.ecp_sequencer.specs.Steps.{call_with}
use Rattle.ecp_sequencer.proofs.AskLaws.{last_began, open_began}
use Rattle.ecp_sequencer.proofs.StepLaws.{pass_counts}
use Rattle.ecp_sequencer.proofs.EventLaws.{begun}
use Rattle.ecp_sequencer.proofs.sequencer.Sequencer.begin.Goals as goal

pub note-requires-clause-opened : goal.note-requires-clause-opened
note-requires-clause-opened g c = open_began c.index_mut-desk.result.now.notes c.len-point.result ROOM (call_with c.pass.inside.calls c.args.deed)

pub invariant_of-pass : goal.invariant_of-pass
invariant_of-pass g c = (
  pass_counts g.N.Names.callers g.N.Names.spare_hands c.pass.inside.front.log c.pass.inside.caller c.pass.inside.calls c.in-Some.next c.pass.inside.front.items c.pass.inside.hand
      c.pass.inside.spare.items c.pass.invariant.0 (omega (arith, c.in-Some.ensures.1)),
  c.pass.invariant.1,
  c.pass.invariant.2,
)

pub invariant_of-self-2 : goal.invariant_of-self-2
invariant_of-self-2 g c =
    let done =
    begun g.N.Names.shape g.N.Names.told g.N.Names.callers g.N.Names.spare_hands c.args.self.now c.args.pass.now c.self.inside.keeper.log c.pass.inside.front.log c.self.inside.taken
    c.self.inside.keeper.items c.self.inside.journal c.make_room.new.journal c.self.inside.desks.items c.pass.inside.caller c.pass.inside.calls c.in-Some.next c.pass.inside.front.items c.pass.inside.hand
    c.note.new.hand c.pass.inside.spare.items c.from.result c.in_ok-taken.taken c.index_mut-desk.result.now c.note.new.self c.len-point.result c.pass.inside.calls c.args.deed
    c.self.invariant (c.self.view_is ∙ c.renew.ensures.same) c.pass.invariant.0 (c.pass.view_is ∙ c.renew.ensures.pass) c.requires
    (omega (arith, c.from.ensures, c.number.ensures)) c.index_mut-desk.ensures.value refl c.note.ensures.noted c.note.ensures.hand c.len-point.ensures
    c.make_room.ensures.lines c.in_ok-taken.ensures.room c.in_ok-taken.ensures.spare c.in_ok-taken.ensures.history (c.in-Some.ensures.1) in
    done.0

pub invariant_of-pass-2 : goal.invariant_of-pass-2
invariant_of-pass-2 g c =
    let done =
    begun g.N.Names.shape g.N.Names.told g.N.Names.callers g.N.Names.spare_hands c.args.self.now c.args.pass.now c.self.inside.keeper.log c.pass.inside.front.log c.self.inside.taken
    c.self.inside.keeper.items c.self.inside.journal c.make_room.new.journal c.self.inside.desks.items c.pass.inside.caller c.pass.inside.calls c.in-Some.next c.pass.inside.front.items c.pass.inside.hand
    c.note.new.hand c.pass.inside.spare.items c.from.result c.in_ok-taken.taken c.index_mut-desk.result.now c.note.new.self c.len-point.result c.pass.inside.calls c.args.deed
    c.self.invariant (c.self.view_is ∙ c.renew.ensures.same) c.pass.invariant.0 (c.pass.view_is ∙ c.renew.ensures.pass) c.requires
    (omega (arith, c.from.ensures, c.number.ensures)) c.index_mut-desk.ensures.value refl c.note.ensures.noted c.note.ensures.hand c.len-point.ensures
    c.make_room.ensures.lines c.in_ok-taken.ensures.room c.in_ok-taken.ensures.spare c.in_ok-taken.ensures.history (c.in-Some.ensures.1) in
    let notes = c.note.ensures.hand in
    (done.1, subst (λ (h : HandNotes). IsLastCall h.notes (call_seen c.pass.inside.calls (Some c.args.deed))) (sym notes) (last_began c.pass.inside.hand.notes c.len-point.result ROOM (call_with c.pass.inside.calls c.args.deed)), λ own. c.pass.invariant.2 (sym (ap (λ (h : HandNotes). h.hand) c.note.ensures.hand) ∙ own))

pub returns-clause-ok : goal.returns-clause-ok
returns-clause-ok g c =
    let done =
    begun g.N.Names.shape g.N.Names.told g.N.Names.callers g.N.Names.spare_hands c.args.self.now c.args.pass.now c.self.inside.keeper.log c.pass.inside.front.log c.self.inside.taken
    c.self.inside.keeper.items c.self.inside.journal c.make_room.new.journal c.self.inside.desks.items c.pass.inside.caller c.pass.inside.calls c.in-Some.next c.pass.inside.front.items c.pass.inside.hand
    c.note.new.hand c.pass.inside.spare.items c.from.result c.in_ok-taken.taken c.index_mut-desk.result.now c.note.new.self c.len-point.result c.pass.inside.calls c.args.deed
    c.self.invariant (c.self.view_is ∙ c.renew.ensures.same) c.pass.invariant.0 (c.pass.view_is ∙ c.renew.ensures.pass) c.requires
    (omega (arith, c.from.ensures, c.number.ensures)) c.index_mut-desk.ensures.value refl c.note.ensures.noted c.note.ensures.hand c.len-point.ensures
    c.make_room.ensures.lines c.in_ok-taken.ensures.room c.in_ok-taken.ensures.spare c.in_ok-taken.ensures.history (c.in-Some.ensures.1) in
    done.2
