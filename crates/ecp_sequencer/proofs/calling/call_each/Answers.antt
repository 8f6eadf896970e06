use Rattle.std.proofs.Common.{◌≡◌, ◌≢◌, ◌∙◌, ℕ, ◌+◌, ◌-◌, ◌*◌, ◌<◌, ◌≤◌, List, length, set, get_or, ap, sym, subst, arith}
use Rattle.std.proofs.lemmas.List.{get_or_default}
use Rattle.std.proofs.lemmas.List.Edits.{map_over_more}
use Rattle.ecp_book.specs.Logs.{Log}
use Rattle.ecp_sequencer.specs.declared.limits.TheConstants.{ROOM}
use Rattle.ecp_sequencer.specs.Branches.{CanBegin}
use Rattle.ecp_sequencer.specs.Facts.{HandFacts}
use Rattle.ecp_sequencer.specs.Notes.{Call, note, beginning_of}
use Rattle.ecp_sequencer.specs.Passes.{HandNotes, call_seen, with_note}
use Rattle.ecp_sequencer.specs.Sequencers.{DeskState}
use Rattle.ecp_sequencer.proofs.AskLaws.{open_began}
use Rattle.ecp_sequencer.proofs.DeskLaws.{has_desk, room_within}
use Rattle.ecp_sequencer.proofs.HandLaws.{hand_noted, others_heard, rest_same}
use Rattle.ecp_sequencer.proofs.KeptLaws.{fits_began}
use Rattle.ecp_sequencer.proofs.NoteLaws.{facts-began}
use Rattle.ecp_sequencer.proofs.calling.call_each.Goals as goal

pub overflow_sub-taken : goal.overflow_sub-taken
overflow_sub-taken g c =
    let i = c.loop-hand.invariant in
    let history : Log = c.args.keeper.now.items in
    let desks : List DeskState = c.loop-hand.desks.items in
    let at : ℕ = c.loop-hand.hand-index in
    let n : ℕ = c.from.result in
    let call : Call = call_seen c.args.call.number c.args.call.deed in
    let before : List HandNotes = c.args.hands.now in
    let now : List HandNotes = c.loop-hand.hands in
    let x : HandNotes = get_or now at c.hand-item.result in
    let f : HandNotes → HandNotes = λ h. with_note h (note (length history) ROOM (beginning_of call)) in
    let rest : x ≡ get_or before at c.hand-item.result = rest_same f before now at c.hand-item.result i.hands c.loop-hand-test.true in
    let can : CanBegin g.N.Names.callers g.N.Names.spare_hands call.number x =
    subst (CanBegin g.N.Names.callers g.N.Names.spare_hands call.number) (sym rest) (c.requires.hands at c.hand-item.result c.loop-hand-test.true) in
    let d : DeskState = c.meet.new.self in
    let index : n ≡ x.hand = omega (arith, c.from.ensures, c.number.ensures) in
    let stands : d ≡ get_or desks n d = c.meet.ensures.kept ∙ c.index_mut-desk.ensures.value ∙ ap (λ (y : DeskState). get_or desks n y) (sym c.meet.ensures.kept) in
    let here : n < length desks =
    has_desk g.N.Names.shape g.N.Names.told g.N.Names.callers g.N.Names.spare_hands c.args.keeper.now.log history c.args.journal.now desks c.loop-hand.taken n i.sequencer
    (omega (arith, index, can.in_range)) in
    let most : d.room ≤ c.loop-hand.taken = room_within desks n c.loop-hand.taken d history c.args.journal.now.spare i.sequencer.room here stands in
    omega (arith, most, c.from-in-loop-hand.ensures, c.room.ensures.room)

pub note-requires-clause-hand : goal.note-requires-clause-hand
note-requires-clause-hand g c =
    let i = c.loop-hand.invariant in
    let history : Log = c.args.keeper.now.items in
    let desks : List DeskState = c.loop-hand.desks.items in
    let at : ℕ = c.loop-hand.hand-index in
    let n : ℕ = c.from.result in
    let call : Call = call_seen c.args.call.number c.args.call.deed in
    let before : List HandNotes = c.args.hands.now in
    let now : List HandNotes = c.loop-hand.hands in
    let x : HandNotes = get_or now at c.hand-item.result in
    let f : HandNotes → HandNotes = λ h. with_note h (note (length history) ROOM (beginning_of call)) in
    let rest : x ≡ get_or before at c.hand-item.result = rest_same f before now at c.hand-item.result i.hands c.loop-hand-test.true in
    let can : CanBegin g.N.Names.callers g.N.Names.spare_hands call.number x =
    subst (CanBegin g.N.Names.callers g.N.Names.spare_hands call.number) (sym rest) (c.requires.hands at c.hand-item.result c.loop-hand-test.true) in
    let d : DeskState = c.meet.new.self in
    let index : n ≡ x.hand = omega (arith, c.from.ensures, c.number.ensures) in
    let stands : d ≡ get_or desks n d = c.meet.ensures.kept ∙ c.index_mut-desk.ensures.value ∙ ap (λ (y : DeskState). get_or desks n y) (sym c.meet.ensures.kept) in
    let here : n < length desks =
    has_desk g.N.Names.shape g.N.Names.told g.N.Names.callers g.N.Names.spare_hands c.args.keeper.now.log history c.args.journal.now desks c.loop-hand.taken n i.sequencer
    (omega (arith, index, can.in_range)) in
    ap (λ (y : DeskState). y.hand) stands ∙ i.sequencer.numbered n d here ∙ index ∙ sym (ap (λ (h : HandNotes). h.hand) c.meet.ensures.hand)

pub note-requires-clause-places : goal.note-requires-clause-places
note-requires-clause-places g c =
    let i = c.loop-hand.invariant in
    let history : Log = c.args.keeper.now.items in
    let at : ℕ = c.loop-hand.hand-index in
    let call : Call = call_seen c.args.call.number c.args.call.deed in
    let before : List HandNotes = c.args.hands.now in
    let now : List HandNotes = c.loop-hand.hands in
    let x : HandNotes = get_or now at c.hand-item.result in
    let f : HandNotes → HandNotes = λ h. with_note h (note (length history) ROOM (beginning_of call)) in
    let rest : x ≡ get_or before at c.hand-item.result = rest_same f before now at c.hand-item.result i.hands c.loop-hand-test.true in
    let can : CanBegin g.N.Names.callers g.N.Names.spare_hands call.number x =
    subst (CanBegin g.N.Names.callers g.N.Names.spare_hands call.number) (sym rest) (c.requires.hands at c.hand-item.result c.loop-hand-test.true) in
    let d : DeskState = c.meet.new.self in
    let heard : d.notes ≡ x.notes = ap (λ (y : DeskState). y.notes) c.meet.ensures.kept ∙ c.meet.ensures.same in
    omega (arith, can.places, ap (λ (ns : Log). length ns) heard)

pub note-requires-clause-opened : goal.note-requires-clause-opened
note-requires-clause-opened g c = open_began c.meet.new.self.notes c.len-point.result ROOM (call_seen c.args.call.number c.args.call.deed)

pub loop-hand-preserved : goal.loop-hand-preserved
loop-hand-preserved g c =
    let i = c.loop-hand.invariant in
    let history : Log = c.args.keeper.now.items in
    let desks : List DeskState = c.loop-hand.desks.items in
    let at : ℕ = c.loop-hand.hand-index in
    let n : ℕ = c.from.result in
    let call : Call = call_seen c.args.call.number c.args.call.deed in
    let before : List HandNotes = c.args.hands.now in
    let now : List HandNotes = c.loop-hand.hands in
    let x : HandNotes = get_or now at c.hand-item.result in
    let f : HandNotes → HandNotes = λ h. with_note h (note (length history) ROOM (beginning_of call)) in
    let rest : x ≡ get_or before at c.hand-item.result = rest_same f before now at c.hand-item.result i.hands c.loop-hand-test.true in
    let can : CanBegin g.N.Names.callers g.N.Names.spare_hands call.number x =
    subst (CanBegin g.N.Names.callers g.N.Names.spare_hands call.number) (sym rest) (c.requires.hands at c.hand-item.result c.loop-hand-test.true) in
    let d : DeskState = c.meet.new.self in
    let index : n ≡ x.hand = omega (arith, c.from.ensures, c.number.ensures) in
    let stands : d ≡ get_or desks n d = c.meet.ensures.kept ∙ c.index_mut-desk.ensures.value ∙ ap (λ (y : DeskState). get_or desks n y) (sym c.meet.ensures.kept) in
    let heard : d.notes ≡ x.notes = ap (λ (y : DeskState). y.notes) c.meet.ensures.kept ∙ c.meet.ensures.same in
    let here : n < length desks =
    has_desk g.N.Names.shape g.N.Names.told g.N.Names.callers g.N.Names.spare_hands c.args.keeper.now.log history c.args.journal.now desks c.loop-hand.taken n i.sequencer
    (omega (arith, index, can.in_range)) in
    let most : d.room ≤ c.loop-hand.taken = room_within desks n c.loop-hand.taken d history c.args.journal.now.spare i.sequencer.room here stands in
    let left : ℕ = c.loop-hand.taken - c.from-in-loop-hand.result + c.from-in-loop-hand-2.result in
    let moved : left + d.room ≡ c.loop-hand.taken + ROOM = omega (arith, most, c.from-in-loop-hand.ensures, c.from-in-loop-hand-2.ensures, c.room.ensures.room) in
    let most_left : left ≤ c.args.taken + ROOM * (at + 1) = omega (arith, moved, i.taken) in
    let within : at + 1 ≤ length before = omega (arith, c.loop-hand-test.true) in
    let facts = facts-began x.notes (length history) ROOM call in
    let is_x : x ≡ get_or now at x = get_or_default now at c.hand-item.result x (omega (arith, c.loop-hand-test.true, c.loop-hand.auto.hands)) in
    let new : c.note.new.hand ≡ f x =
    c.note.ensures.hand ∙ ap (λ (h : HandNotes). with_note h (note c.len-point.result ROOM (beginning_of call))) c.meet.ensures.hand
    ∙ ap (λ (k : ℕ). with_note x (note k ROOM (beginning_of call))) c.len-point.ensures in
    record {
      sequencer = hand_noted g.N.Names.shape g.N.Names.told g.N.Names.callers g.N.Names.spare_hands c.args.keeper.now.log c.loop-hand.taken left n history c.args.journal.now desks x d
          c.note.new.self c.len-point.result ROOM (beginning_of call) i.sequencer index can.in_range stands heard c.note.ensures.noted c.len-point.ensures
          (λ whole. fits_began x.hand history x.notes ROOM call whole can.rises) (ap (λ (y : HandFacts). y.entries) facts) moved
          (omega (arith, most_left, within, c.requires.lines)) (omega (arith, most_left, within, c.requires.places));
      taken = most_left;
      hands = ap (set now at) new ∙ map_over_more f before now at x c.loop-hand-test.true i.hands is_x;
      others = λ hand none.
          let off : n ≢ hand = λ e. none at c.hand-item.result c.loop-hand-test.true (ap (λ (h : HandNotes). h.hand) (sym rest) ∙ sym index ∙ e) in
          others_heard desks n hand c.note.new.self off ∙ i.others hand none;
    }
