use Rattle.std.proofs.Common.{◌≡◌, ℕ, Bool, [], length, sym, ◌∙◌, ap, subst}
use Rattle.ecp_shape.specs.declared.shape.Shape.{Shape}
use Rattle.ecp_entry.specs.declared.deed.Deed.{Deed}
use Rattle.ecp_entry.specs.declared.part.Part.TheVariants as part
use Rattle.ecp_entry.specs.Told.{history_of}
use Rattle.ecp_history.specs.Legal.{MayFollow}
use Rattle.ecp_sequencer.specs.Passes.{PassState}
use Rattle.ecp_sequencer.specs.Sequencers.{SequencerState}
use Rattle.ecp_coord.specs.Calls.{Ends, EndsBy, HasOpen, IsOpen, closing}
use Rattle.ecp_coord.specs.Coords.{CoordParts, CoordState, parts_of}
use Rattle.ecp_coord.proofs.ClosingLaws.{closes_nothing_stored, closing_goes, closing_kept}
use Rattle.ecp_coord.proofs.EndWithLaws.{one_asked}
use Rattle.ecp_coord.proofs.FollowLaws.{IsMet, its_own}
use Rattle.ecp_coord.proofs.coord.Coord.close_call.Goals as goal

pub end_with-requires-clause-has_open : goal.end_with-requires-clause-has_open
end_with-requires-clause-has_open g c = subst (λ (p : PassState). HasOpen p) (sym c.meet.ensures.pass) (c.requires.closes.asked, c.requires.closes.is_open)

pub end_with-requires-clause-stores : goal.end_with-requires-clause-stores
end_with-requires-clause-stores g c = closes_nothing_stored c.args.pass.now c.args.act c.requires.closes

pub end_with-requires-clause-follows : goal.end_with-requires-clause-follows
end_with-requires-clause-follows g c =
    let shape : Shape = g.N.Names.shape in
    let told : Bool = g.N.Names.told in
    let s : SequencerState = c.self.inside.sequencer in
    let v : PassState = c.args.pass.now in
    let met : IsMet shape told g.N.Names.callers g.N.Names.spare_hands s v = record {
      agree = c.meet.ensures.agree;
      kept = c.meet.ensures.kept;
      session = c.meet.ensures.session;
      own = its_own g.N.Names.spare_hands v c.meet.ensures.places c.requires.closes.is_open.whole;
      in_range = c.meet.ensures.in_range;
    } in
    let point : c.len-point.result ≡ length c.meet.new.self.history = c.len-point.ensures in
    subst (λ (n : ℕ). (asked : Deed) → IsOpen c.meet.new.pass asked → MayFollow shape told (history_of c.meet.new.self.history) (closing c.meet.new.pass asked part.End n c.args.act [])) (sym point)
    (subst (λ (x : SequencerState). (asked : Deed) → IsOpen c.meet.new.pass asked → MayFollow shape told (history_of x.history) (closing c.meet.new.pass asked part.End (length x.history) c.args.act [])) (sym c.meet.ensures.same)
    (subst (λ (p : PassState). (asked : Deed) → IsOpen p asked → MayFollow shape told (history_of s.history) (closing p asked part.End (length s.history) c.args.act [])) (sym c.meet.ensures.pass)
    (closing_goes shape told g.N.Names.callers g.N.Names.spare_hands s v met c.args.act c.requires.closes)))

pub invariant_of-self : goal.invariant_of-self
invariant_of-self g c =
    let shape : Shape = g.N.Names.shape in
    let told : Bool = g.N.Names.told in
    let s : SequencerState = c.self.inside.sequencer in
    let v : PassState = c.args.pass.now in
    let t : SequencerState = c.end_with.new.sequencer in
    let w : PassState = c.end_with.new.pass in
    let p : CoordParts = parts_of c.self.inside.catalog c.self.inside.hands c.self.inside.slice c.self.inside.nodes.items c.self.inside.stripes c.self.inside.promises.items in
    let met : IsMet shape told g.N.Names.callers g.N.Names.spare_hands s v = record {
      agree = c.meet.ensures.agree;
      kept = c.meet.ensures.kept;
      session = c.meet.ensures.session;
      own = its_own g.N.Names.spare_hands v c.meet.ensures.places c.requires.closes.is_open.whole;
      in_range = c.meet.ensures.in_range;
    } in
    let point : c.len-point.result ≡ length s.history = c.len-point.ensures ∙ ap (λ (x : SequencerState). length x.history) c.meet.ensures.same in
    let by : EndsBy shape told s v part.End (length s.history) c.args.act [] t w =
    subst (λ (n : ℕ). EndsBy shape told s v part.End n c.args.act [] t w) point
    (subst (λ (x : SequencerState). EndsBy shape told x v part.End c.len-point.result c.args.act [] t w) c.meet.ensures.same
    (subst (λ (q : PassState). EndsBy shape told c.meet.new.self q part.End c.len-point.result c.args.act [] t w) c.meet.ensures.pass c.end_with.ensures)) in
    let ends : Ends shape told s v by.asked c.args.act t w = record { event = by.event; begins = by.begins; calls = by.calls } in
    let same = one_asked v by.asked c.requires.closes.asked by.is_open c.requires.closes.is_open in
    closing_kept shape told g.N.Names.callers g.N.Names.spare_hands s v met c.args.act c.requires.closes t w p c.self.invariant
    (subst (λ (d : Deed). Ends shape told s v d c.args.act t w) same ends)

pub returns-clause-event : goal.returns-clause-event
returns-clause-event g c = λ asked open_call.
    let shape : Shape = g.N.Names.shape in
    let told : Bool = g.N.Names.told in
    let s : SequencerState = c.self.inside.sequencer in
    let v : PassState = c.args.pass.now in
    let t : SequencerState = c.end_with.new.sequencer in
    let w : PassState = c.end_with.new.pass in
    let point : c.len-point.result ≡ length s.history = c.len-point.ensures ∙ ap (λ (x : SequencerState). length x.history) c.meet.ensures.same in
    let by : EndsBy shape told s v part.End (length s.history) c.args.act [] t w =
    subst (λ (n : ℕ). EndsBy shape told s v part.End n c.args.act [] t w) point
    (subst (λ (x : SequencerState). EndsBy shape told x v part.End c.len-point.result c.args.act [] t w) c.meet.ensures.same
    (subst (λ (q : PassState). EndsBy shape told c.meet.new.self q part.End c.len-point.result c.args.act [] t w) c.meet.ensures.pass c.end_with.ensures)) in
    let ends : Ends shape told s v by.asked c.args.act t w = record { event = by.event; begins = by.begins; calls = by.calls } in
    subst (λ (x : CoordState). Ends shape told x.sequence v asked c.args.act t w) c.self.view_is
    (subst (λ (d : Deed). Ends shape told s v d c.args.act t w) (one_asked v by.asked asked by.is_open open_call) ends)
