use Rattle.std.proofs.Common.{◌≡◌, ◌∙◌, ℕ, ◌<◌, length, ap, sym, subst, arith}
use Rattle.ecp_sequencer.specs.Histories.{notes_at}
use Rattle.ecp_sequencer.specs.Passes.{PassState, pass_seen}
use Rattle.ecp_sequencer.specs.Sequencers.{DeskState, SequencerState, Agrees, notes_of}
use Rattle.ecp_sequencer.proofs.DeskLaws.{has_desk, desk_notes}
use Rattle.ecp_sequencer.proofs.EventLaws.{agree, seen}
use Rattle.ecp_sequencer.proofs.sequencer.Sequencer.meet.Goals as goal

pub returns-clause-agree : goal.returns-clause-agree
returns-clause-agree g c =
    let is = c.self.invariant in
    let ps = c.pass.invariant.0 in
    let history = c.self.inside.keeper.items in
    let desks = c.self.inside.desks.items in
    let own = c.pass.inside.hand in
    let n : ℕ = c.from.result in
    let d : DeskState = c.index_mut.result.now in
    let at : n ≡ own.hand = omega (arith, c.from.ensures, c.number.ensures) in
    let here : n < length desks =
    has_desk g.N.Names.shape g.N.Names.told g.N.Names.callers g.N.Names.spare_hands c.self.inside.keeper.log history c.self.inside.journal desks c.self.inside.taken n is
    (omega (arith, at, ps.in_range)) in
    let notes : notes_at (notes_of desks) own.hand ≡ own.notes =
    ap (notes_at (notes_of desks)) (sym at) ∙ desk_notes desks n d here c.index_mut.ensures.value ∙ c.meet-2.ensures.same in
    let s : SequencerState = seen history desks in
    let v : PassState = pass_seen g.N.Names.spare_hands c.pass.inside.caller c.pass.inside.calls c.pass.inside.front.items own c.pass.inside.spare.items in
    let met : Agrees s v =
    agree g.N.Names.shape g.N.Names.told g.N.Names.callers g.N.Names.spare_hands s v c.pass.inside.front.log is.kept ps c.meet.ensures.prefix notes in
    subst (λ (t : SequencerState). Agrees t c.args.pass.now) c.self.view_is (subst (λ (w : PassState). Agrees s w) c.pass.view_is met)
