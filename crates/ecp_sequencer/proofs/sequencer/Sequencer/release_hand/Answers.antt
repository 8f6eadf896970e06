use Rattle.std.proofs.Common.{◌≡◌, ◌≢◌, ◌∙◌, ℕ, ◌-◌, ◌<◌, ◌≤◌, List, length, get_or, ap, sym, arith}
use Rattle.ecp_sequencer.specs.Facts.{HandFacts}
use Rattle.ecp_sequencer.specs.Histories.{notes_at}
use Rattle.ecp_sequencer.specs.Notes.{being_over}
use Rattle.ecp_sequencer.specs.Passes.{HandNotes}
use Rattle.ecp_sequencer.specs.Sequencers.{DeskState, SequencerState}
use Rattle.ecp_sequencer.proofs.AskLaws.{open_over}
use Rattle.ecp_sequencer.proofs.DeskLaws.{has_desk, room_within}
use Rattle.ecp_sequencer.proofs.HandLaws.{hand_noted, others_heard}
use Rattle.ecp_sequencer.proofs.KeptLaws.{fits_over}
use Rattle.ecp_sequencer.proofs.NoteLaws.{facts-over}
use Rattle.ecp_sequencer.proofs.sequencer.Sequencer.release_hand.Goals as goal

pub note-requires-clause-opened : goal.note-requires-clause-opened
note-requires-clause-opened g c = open_over c.meet.new.self.notes c.len-point.result 0

pub invariant_of-self-2 : goal.invariant_of-self-2
invariant_of-self-2 g c =
    let is = c.self.invariant in
    let history = c.self.inside.keeper.items in
    let desks : List DeskState = c.self.inside.desks.items in
    let n : ℕ = c.from.result in
    let h : HandNotes = c.args.hand.now in
    let d : DeskState = c.meet.new.self in
    let index : n ≡ h.hand = omega (arith, c.from.ensures, c.number.ensures) in
    let at : d ≡ get_or desks n d = c.meet.ensures.kept ∙ c.index_mut-desk.ensures.value ∙ ap (λ (x : DeskState). get_or desks n x) (sym c.meet.ensures.kept) in
    let heard = ap (λ (x : DeskState). x.notes) c.meet.ensures.kept ∙ c.meet.ensures.same in
    let here : n < length desks =
    has_desk g.N.Names.shape g.N.Names.told g.N.Names.callers g.N.Names.spare_hands c.self.inside.keeper.log history c.self.inside.journal desks c.self.inside.taken n is
    (omega (arith, index, c.requires.in_range)) in
    let most : d.room ≤ c.self.inside.taken = room_within desks n c.self.inside.taken d history c.self.inside.journal.spare is.room here at in
    let facts = facts-over h.notes (length history) 0 in
    hand_noted g.N.Names.shape g.N.Names.told g.N.Names.callers g.N.Names.spare_hands c.self.inside.keeper.log c.self.inside.taken (c.self.inside.taken - c.from-room.result) n history
    c.self.inside.journal desks h d c.note.new.self c.len-point.result 0 being_over is index c.requires.in_range at heard c.note.ensures.noted c.len-point.ensures
    (fits_over h.hand history h.notes 0) (ap (λ (f : HandFacts). f.entries) facts)
    (omega (arith, c.from-room.ensures, c.room.ensures.room, most)) (omega (arith, is.room.spare)) (omega (arith, is.room.places))

pub returns-clause-others : goal.returns-clause-others
returns-clause-others g c = λ other apart.
    let desks : List DeskState = c.self.inside.desks.items in
    let index : c.from.result ≡ c.args.hand.now.hand = omega (arith, c.from.ensures, c.number.ensures) in
    let off : c.from.result ≢ other = λ e. apart (sym index ∙ e) in
    others_heard desks c.from.result other c.note.new.self off ∙ ap (λ (t : SequencerState). notes_at t.notes other) c.self.view_is
