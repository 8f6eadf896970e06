use Rattle.std.proofs.Common.{◌≡◌, ◌≢◌, ◌∙◌, ℕ, ◌<◌, length, ap, sym, subst, arith}
use Rattle.ecp_book.specs.Logs.{Log}
use Rattle.ecp_sequencer.specs.Hands.{hands_of}
use Rattle.ecp_sequencer.specs.Closed.{IsHeard}
use Rattle.ecp_sequencer.specs.Histories.{Stands, notes_at}
use Rattle.ecp_sequencer.specs.Sequencers.{DeskState, SequencerState, notes_of}
use Rattle.ecp_sequencer.proofs.DeskLaws.{has_desk, desk_notes}
use Rattle.ecp_sequencer.proofs.sequencer.Sequencer.meet_hand.Goals as goal

pub returns-clause-heard : goal.returns-clause-heard
returns-clause-heard g c =
    let is = c.self.invariant in
    let history = c.self.inside.keeper.items in
    let desks = c.self.inside.desks.items in
    let hand = c.args.hand.now in
    let n : ℕ = c.from.result in
    let d : DeskState = c.index_mut.result.now in
    let at : n ≡ hand.hand = omega (arith, c.from.ensures, c.number.ensures) in
    let here : n < length desks =
    has_desk g.N.Names.shape g.N.Names.told g.N.Names.callers g.N.Names.spare_hands c.self.inside.keeper.log history c.self.inside.journal desks c.self.inside.taken n is
    (omega (arith, at, c.requires)) in
    let notes : notes_at (notes_of desks) hand.hand ≡ hand.notes =
    ap (notes_at (notes_of desks)) (sym at) ∙ desk_notes desks n d here c.index_mut.ensures.value ∙ c.meet.ensures.same in
    let apart : hand.hand ≢ hands_of g.N.Names.callers g.N.Names.spare_hands = λ same. omega (arith, c.requires) in
    subst (λ (t : SequencerState). IsHeard t hand) c.self.view_is
    (record { heard = notes; stands = subst (λ (ns : Log). Stands history hand.hand ns) notes (is.kept.stand hand.hand apart) })
