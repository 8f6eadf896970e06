use Rattle.std.proofs.Common.{◌≡◌, ◌-◌, Bool, Some, refl, sym, ◌∙◌, subst}
use mathlib.Core.List.{IsPrefix}
use Rattle.ecp_shape.specs.declared.shape.Shape.{Shape}
use Rattle.ecp_entry.specs.declared.act.Act.TheVariants as act
use Rattle.ecp_entry.specs.declared.deed.Deed.{Deed}
use Rattle.ecp_entry.specs.Told.{history_of}
use Rattle.ecp_history.specs.Legal.{MayFollow}
use Rattle.ecp_sequencer.specs.Facts.{room_noted}
use Rattle.ecp_sequencer.specs.Passes.{PassState}
use Rattle.ecp_sequencer.specs.Sequencers.{Agrees, SequencerState}
use Rattle.ecp_coord.specs.Calls.{EndsBy, HasOpen, IsOpen, closing}
use Rattle.ecp_coord.specs.Coords.{CoordParts, CoordState, heard, parts_of}
use Rattle.ecp_coord.specs.Plans.{Finishes}
use Rattle.ecp_coord.proofs.AttemptLaws.{state}
use Rattle.ecp_history.specs.Calls.{OfBlock, kind_of, place_of}
use Rattle.ecp_coord.proofs.CallLaws.{answered_kept, planned_free}
use Rattle.ecp_coord.proofs.EndWithLaws.{one_asked}
use Rattle.ecp_coord.proofs.CoverLaws.{covered_free}
use Rattle.ecp_coord.proofs.FinishLaws.{data_goes}
use Rattle.ecp_coord.proofs.FollowLaws.{IsMet, its_own}
use Rattle.ecp_coord.proofs.coord.Coord.finish.Goals as goal

pub end_with-requires-clause-agree : goal.end_with-requires-clause-agree
end_with-requires-clause-agree g c =
    let same : c.meet_front.new.self ≡ c.self.inside.sequencer = c.meet_front.ensures.same ∙ c.meet.ensures.same in
    subst (λ (x : SequencerState). Agrees x c.meet.new.pass) (sym same) (subst (λ (p : PassState). Agrees c.self.inside.sequencer p) (sym c.meet.ensures.pass) c.meet.ensures.agree)

pub end_with-requires-clause-has_open : goal.end_with-requires-clause-has_open
end_with-requires-clause-has_open g c = subst (λ (p : PassState). HasOpen p) (sym c.meet.ensures.pass) (c.requires.planned.asked, c.requires.planned.is_open)

pub end_with-requires-clause-follows : goal.end_with-requires-clause-follows
end_with-requires-clause-follows g c =
    let shape : Shape = g.N.Names.shape in
    let told : Bool = g.N.Names.told in
    let s : SequencerState = c.self.inside.sequencer in
    let v : PassState = c.args.pass.now in
    let plan = c.args.plan.now in
    let same : c.meet_front.new.self ≡ s = c.meet_front.ensures.same ∙ c.meet.ensures.same in
    let begins : IsPrefix plan.front.items s.history = subst (λ (x : SequencerState). IsPrefix plan.front.items x.history) c.meet.ensures.same c.meet_front.ensures.begins in
    let met : IsMet shape told g.N.Names.callers g.N.Names.spare_hands s v = record {
      agree = c.meet.ensures.agree;
      kept = c.meet.ensures.kept;
      session = c.meet.ensures.session;
      own = its_own g.N.Names.spare_hands v c.meet.ensures.places c.requires.planned.is_open.whole;
      in_range = c.meet.ensures.in_range;
    } in
    subst (λ (x : SequencerState). (asked : Deed) → IsOpen c.meet.new.pass asked → MayFollow shape told (history_of x.history) (closing c.meet.new.pass asked plan.part plan.point act.Data c.args.bytes.now)) (sym same)
    (subst (λ (p : PassState). (asked : Deed) → IsOpen p asked → MayFollow shape told (history_of s.history) (closing p asked plan.part plan.point act.Data c.args.bytes.now)) (sym c.meet.ensures.pass)
    (data_goes shape told g.N.Names.callers g.N.Names.spare_hands s v met plan c.requires.planned begins c.self.invariant.idle c.args.bytes.now c.requires.bytes))

pub invariant_of-self : goal.invariant_of-self
invariant_of-self g c =
    let shape : Shape = g.N.Names.shape in
    let told : Bool = g.N.Names.told in
    let s : SequencerState = c.self.inside.sequencer in
    let v : PassState = c.args.pass.now in
    let p : CoordParts = parts_of c.self.inside.catalog c.self.inside.hands c.self.inside.slice c.self.inside.nodes.items c.self.inside.stripes c.self.inside.promises.items in
    let same : c.meet_front.new.self ≡ s = c.meet_front.ensures.same ∙ c.meet.ensures.same in
    let by : EndsBy shape told s v c.args.plan.now.part c.args.plan.now.point act.Data c.args.bytes.now c.end_with.new.sequencer c.end_with.new.pass =
    subst (λ (x : SequencerState). EndsBy shape told x v c.args.plan.now.part c.args.plan.now.point act.Data c.args.bytes.now c.end_with.new.sequencer c.end_with.new.pass) same
    (subst (λ (q : PassState). EndsBy shape told c.meet_front.new.self q c.args.plan.now.part c.args.plan.now.point act.Data c.args.bytes.now c.end_with.new.sequencer c.end_with.new.pass) c.meet.ensures.pass c.end_with.ensures) in
    let met : IsMet shape told g.N.Names.callers g.N.Names.spare_hands s v = record {
      agree = c.meet.ensures.agree;
      kept = c.meet.ensures.kept;
      session = c.meet.ensures.session;
      own = its_own g.N.Names.spare_hands v c.meet.ensures.places c.requires.planned.is_open.whole;
      in_range = c.meet.ensures.in_range;
    } in
    answered_kept shape told g.N.Names.callers g.N.Names.spare_hands s c.end_with.new.sequencer v c.end_with.new.pass p c.self.invariant met by.asked (place_of c.args.plan.now.part)
    (closing v by.asked c.args.plan.now.part c.args.plan.now.point act.Data c.args.bytes.now) (room_noted v.notes - 1) by.is_open
    (subst (λ (d : Deed). OfBlock (kind_of (Some d)) (place_of c.args.plan.now.part)) (one_asked v c.requires.planned.asked by.asked c.requires.planned.is_open by.is_open) c.requires.planned.of_block) refl (record { stores = refl; drops = refl; spends = λ m. refl })
    (covered_free shape s v (closing v by.asked c.args.plan.now.part c.args.plan.now.point act.Data c.args.bytes.now) (planned_free shape told v c.args.plan.now c.requires.planned)) by.event

pub returns-clause-done : goal.returns-clause-done
returns-clause-done g c =
    let shape : Shape = g.N.Names.shape in
    let told : Bool = g.N.Names.told in
    let s : SequencerState = c.self.inside.sequencer in
    let v : PassState = c.args.pass.now in
    let same : c.meet_front.new.self ≡ s = c.meet_front.ensures.same ∙ c.meet.ensures.same in
    let by : EndsBy shape told s v c.args.plan.now.part c.args.plan.now.point act.Data c.args.bytes.now c.end_with.new.sequencer c.end_with.new.pass =
    subst (λ (x : SequencerState). EndsBy shape told x v c.args.plan.now.part c.args.plan.now.point act.Data c.args.bytes.now c.end_with.new.sequencer c.end_with.new.pass) same
    (subst (λ (q : PassState). EndsBy shape told c.meet_front.new.self q c.args.plan.now.part c.args.plan.now.point act.Data c.args.bytes.now c.end_with.new.sequencer c.end_with.new.pass) c.meet.ensures.pass c.end_with.ensures) in
    let new : CoordState = state c.end_with.new.sequencer c.self.inside.stamps c.self.inside.repairs c.self.inside.stripes c.self.inside.slice c.self.inside.cyclic (heard c.self.inside.nodes.items) in
    subst (λ (x : CoordState). Finishes shape told x v c.args.plan.now c.args.bytes.now new c.end_with.new.pass) c.self.view_is
    (record { asked = by.asked; is_open = by.is_open; event = by.event; rest = refl; calls = by.calls })
