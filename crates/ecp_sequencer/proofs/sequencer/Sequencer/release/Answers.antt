use Rattle.std.proofs.Common.{◌≡◌, ◌∙◌, List, length, map, ap, sym, subst}
use Rattle.std.proofs.lemmas.List.{with_items_is}
use Rattle.ecp_sequencer.specs.Branches.{IsNone, released}
use Rattle.ecp_sequencer.specs.Passes.{HandNotes, PassState, IsPass, pass_seen}
use Rattle.ecp_sequencer.specs.Sequencers.{SequencerState}
use Rattle.ecp_sequencer.proofs.BranchLaws.{pass_holds}
use Rattle.ecp_sequencer.proofs.HandLaws.{held_released, spares_noted}
use Rattle.ecp_sequencer.proofs.sequencer.Sequencer.release.Goals as goal

pub invariant_of-pass : goal.invariant_of-pass
invariant_of-pass g c =
    let p = c.pass.inside in
    let old : List HandNotes = p.spare.items in
    let new : List HandNotes = c.release_each.new.hands in
    let same = with_items_is p.spare new (c.release_each.auto.hands ∙ c.as_mut_slice.ensures.len) in
    let is_new : new ≡ map (released (length c.renew.new.self.history)) old =
    c.release_each.ensures.hands ∙ ap (map (released (length c.renew.new.self.history))) c.as_mut_slice.ensures.value in
    let held = held_released g.N.Names.callers g.N.Names.spare_hands p.caller p.calls p.front.items (length c.renew.new.self.history) old c.pass.invariant.0.held in
    let pass : IsPass g.N.Names.callers g.N.Names.spare_hands p.front.log (pass_seen g.N.Names.spare_hands p.caller p.calls p.front.items p.hand (map (released (length c.renew.new.self.history)) old)) =
    pass_holds g.N.Names.callers g.N.Names.spare_hands p.front.log p.front.log p.caller p.calls p.front.items p.hand old (map (released (length c.renew.new.self.history)) old) c.pass.invariant.0
    c.pass.invariant.0.on_history held in (
      subst (λ (hs : List HandNotes). IsPass g.N.Names.callers g.N.Names.spare_hands p.front.log (pass_seen g.N.Names.spare_hands p.caller p.calls p.front.items p.hand hs)) (sym (same ∙ is_new)) pass,
      c.pass.invariant.1,
      c.pass.invariant.2,
    )

pub returns : goal.returns
returns g c =
    let p = c.pass.inside in
    let s : SequencerState = c.args.self.now in
    let up : PassState = pass_seen g.N.Names.spare_hands p.caller p.calls p.front.items p.hand p.spare.items in
    let new : List HandNotes = c.release_each.new.hands in
    let same = with_items_is p.spare new (c.release_each.auto.hands ∙ c.as_mut_slice.ensures.len) in
    let is_new : new ≡ map (released (length s.history)) p.spare.items =
    c.release_each.ensures.hands ∙ ap (map (released (length c.renew.new.self.history))) c.as_mut_slice.ensures.value
    ∙ ap (λ (t : SequencerState). map (released (length t.history)) p.spare.items) c.renew.ensures.same in
    record {
      noted = spares_noted (released (length s.history)) s c.renew.new.self c.release_each.new.self c.gather.new.self c.args.pass.now up c.gather.new.pass _ c.renew.ensures.same
          (c.pass.view_is ∙ c.renew.ensures.pass) c.release_each.ensures.history (same ∙ is_new)
          (λ hand none. c.release_each.ensures.others hand (subst (λ (hs : List HandNotes). IsNone hs hand) (sym c.as_mut_slice.ensures.value) none))
          c.gather.ensures.agree c.gather.ensures.spare c.gather.ensures.same c.gather.ensures.pass;
    }
