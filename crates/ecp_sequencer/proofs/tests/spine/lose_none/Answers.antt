use Rattle.std.proofs.Common.{◌∙◌, ◌-◌, ◌<◌, [], ◌∷◌, length, sym, subst, arith}
use Rattle.ecp_shape.specs.declared.limits.TheConstants.{MAX_SESSIONS}
use Rattle.ecp_entry.specs.declared.deed.Deed.TheVariants.{Lose}
use Rattle.ecp_entry.specs.declared.entry.Entry.{Entry}
use Rattle.ecp_entry.specs.Told.{history_of}
use Rattle.ecp_history.specs.Legal.{MayFollow}
use Rattle.ecp_sequencer.specs.Notes.{note, entering_of}
use Rattle.ecp_sequencer.specs.Facts.{room_noted}
use Rattle.ecp_sequencer.specs.Passes.{PassState}
use Rattle.ecp_sequencer.specs.Rounds.{Began, no_node}
use Rattle.ecp_sequencer.specs.Sequencers.{SequencerState, Agrees}
use Rattle.ecp_sequencer.specs.Steps.{Event}
use Rattle.ecp_sequencer.proofs.RoundLaws.{called, follows_any}
use Rattle.ecp_sequencer.proofs.tests.spine.lose_none.Goals as goal

pub enter-requires-clause-follows : goal.enter-requires-clause-follows
enter-requires-clause-follows g c =
    let s : SequencerState = c.meet.new.self in
    let session : c.caller.result < MAX_SESSIONS = omega (arith, c.caller.ensures.caller, c.caller.ensures.session) in
    subst (MayFollow g.N.Names.shape g.N.Names.told (history_of s.history)) (sym c.missing-entry.ensures)
    (follows_any g.N.Names.shape g.N.Names.told s.history c.caller.result c.calls-call.result c.len.result c.args.node c.requires session c.len.ensures)

pub returns-clause-ok : goal.returns-clause-ok
returns-clause-ok g c =
    let s : SequencerState = c.meet.new.self in
    let t : SequencerState = c.enter.new.self in
    let v : PassState = c.args.pass.now in
    let u : PassState = c.meet.new.pass in
    let w : PassState = c.enter.new.pass in
    let e : Entry = no_node c.caller.result c.calls-call.result c.len.result c.args.node in
    let b : Began v (Lose c.args.node) u = subst (Began v (Lose c.args.node)) (sym c.meet.ensures.pass) c.in_ok-begin.ensures.ok in
    let met : Agrees s u =
    subst (λ (p : PassState). Agrees s p) (sym c.meet.ensures.pass) (subst (λ (q : SequencerState). Agrees q c.begin.new.pass) (sym c.meet.ensures.same) c.meet.ensures.agree) in
    let ev : Event g.N.Names.shape g.N.Names.told s u (e ∷ []) (note (length s.history) (room_noted u.notes - 1) (entering_of u.hand e) ∷ []) t w =
    subst (λ (y : Entry). Event g.N.Names.shape g.N.Names.told s u (y ∷ []) (note (length s.history) (room_noted u.notes - 1) (entering_of u.hand y) ∷ []) t w) c.missing-entry.ensures c.enter.ensures.event in
    called g.N.Names.shape g.N.Names.told s t v u w (note (length s.history) (room_noted u.notes - 1) (entering_of u.hand e) ∷ []) c.args.node c.caller.result c.calls-call.result c.len.result
    b met ev (c.caller.ensures.caller ∙ b.steps.caller) c.calls-call.ensures c.len.ensures c.enter.ensures.calls
