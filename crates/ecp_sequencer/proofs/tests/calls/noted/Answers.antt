use Rattle.std.proofs.Common.{◌≡◌, ◌∙◌, [], ◌∷◌, length, ap, arith}
use Rattle.ecp_sequencer.specs.declared.limits.TheConstants.{ROOM}
use Rattle.ecp_sequencer.specs.Facts.{room_noted}
use Rattle.ecp_sequencer.proofs.NoteLaws.{room-more}
use Rattle.ecp_sequencer.proofs.tests.calls.noted.Goals as goal

pub note_taking-requires-clause-agree : goal.note_taking-requires-clause-agree
note_taking-requires-clause-agree g c = c.in_ok-begin.ensures.ok.agrees

pub note-requires-clause-agree : goal.note-requires-clause-agree
note-requires-clause-agree g c = c.in_ok-note_taking.ensures.ok.agrees

pub note-requires-clause-room : goal.note-requires-clause-room
note-requires-clause-room g c =
    let full : room_noted c.note_taking.new.pass.notes ≡ ROOM =
    ap room_noted c.in_ok-note_taking.ensures.ok.steps.noted ∙ room-more c.begin.new.pass.notes (length c.begin.new.self.history) ROOM (3 ∷ 5 ∷ []) in
    omega (arith, full)
