use Rattle.std.proofs.Common.{◌≡◌, ℕ, Bool, length, Some, refl, sym, ◌∙◌, subst}
use mathlib.Core.List.{IsPrefix}
use Rattle.ecp_entry.specs.declared.act.Act.TheVariants as act
use Rattle.ecp_entry.specs.declared.deed.Deed.TheVariants.{Put}
use Rattle.ecp_entry.specs.Told.{history_of}
use Rattle.ecp_history.specs.Legal.{MayFollow}
use Rattle.ecp_coord.specs.Calls.{Ends, IsOpen, ended}
use Rattle.ecp_coord.specs.Refusals.{Refuses}
use Rattle.ecp_coord.proofs.FollowLaws.{IsMet, its_own}
use Rattle.ecp_coord.proofs.PlaceLaws.{ended_kept, refuses_by, seen}
use Rattle.ecp_coord.proofs.PutCoverLaws.{put_covered}
use Rattle.ecp_shape.specs.declared.shape.Shape.{Shape}
use Rattle.ecp_sequencer.specs.Passes.{PassState}
use Rattle.ecp_sequencer.specs.Sequencers.{Agrees, SequencerState}
use Rattle.ecp_coord.specs.Coords.{CoordParts, CoordState, heard, parts_of}
use Rattle.ecp_coord.proofs.coord.Coord.end_taken.Goals as goal

pub end_call-requires-clause-agree : goal.end_call-requires-clause-agree
end_call-requires-clause-agree g c =
    subst (λ (x : SequencerState). Agrees x c.meet.new.pass) (sym (c.meet_front.ensures.same ∙ c.meet.ensures.same)) (subst (λ (q : PassState). Agrees c.self.inside.sequencer q) (sym c.meet.ensures.pass) c.meet.ensures.agree)

pub end_call-requires-clause-open : goal.end_call-requires-clause-open
end_call-requires-clause-open g c =
    subst (λ (q : PassState). IsOpen q (Put c.args.res.now.name c.args.res.now.len)) (sym c.meet.ensures.pass) c.requires.reserved.is_open

pub end_call-requires-clause-follows : goal.end_call-requires-clause-follows
end_call-requires-clause-follows g c =
    let shape : Shape = g.N.Names.shape in
    let told : Bool = g.N.Names.told in
    let callers : ℕ = g.N.Names.callers in
    let spares : ℕ = g.N.Names.spare_hands in
    let s : SequencerState = c.self.inside.sequencer in
    let v : PassState = c.args.pass.now in
    let p : CoordParts = parts_of c.self.inside.catalog c.self.inside.hands c.self.inside.slice c.self.inside.nodes.items c.self.inside.stripes c.self.inside.promises.items in
    let res = c.args.res.now in
    let same : c.meet_front.new.self ≡ s = c.meet_front.ensures.same ∙ c.meet.ensures.same in
    let here : MayFollow shape told (history_of s.history) (ended v (Put res.name res.len) (length s.history) act.NameTaken) =
    subst (λ (x : CoordState). MayFollow shape told (history_of x.sequence.history) (ended v (Put res.name res.len) (length x.sequence.history) act.NameTaken)) (sym c.self.view_is)
    (c.requires.follows c.meet.ensures.session) in
    subst (λ (q : PassState). MayFollow shape told (history_of c.meet_front.new.self.history) (ended q (Put res.name res.len) (length c.meet_front.new.self.history) act.NameTaken)) (sym c.meet.ensures.pass)
    (subst (λ (x : SequencerState). MayFollow shape told (history_of x.history) (ended v (Put res.name res.len) (length x.history) act.NameTaken)) (sym same) here)

pub invariant_of-self : goal.invariant_of-self
invariant_of-self g c =
    let shape : Shape = g.N.Names.shape in
    let told : Bool = g.N.Names.told in
    let callers : ℕ = g.N.Names.callers in
    let spares : ℕ = g.N.Names.spare_hands in
    let s : SequencerState = c.self.inside.sequencer in
    let v : PassState = c.args.pass.now in
    let p : CoordParts = parts_of c.self.inside.catalog c.self.inside.hands c.self.inside.slice c.self.inside.nodes.items c.self.inside.stripes c.self.inside.promises.items in
    let res = c.args.res.now in
    let same : c.meet_front.new.self ≡ s = c.meet_front.ensures.same ∙ c.meet.ensures.same in
    let met : IsMet shape told callers spares s v = record {
      agree = c.meet.ensures.agree;
      kept = c.meet.ensures.kept;
      session = c.meet.ensures.session;
      own = its_own spares v c.meet.ensures.places c.requires.reserved.is_open.whole;
      in_range = c.meet.ensures.in_range;
    } in
    let begins : IsPrefix res.front.items s.history = subst (λ (x : SequencerState). IsPrefix res.front.items x.history) c.meet.ensures.same c.meet_front.ensures.begins in
    let ends : Ends shape told s v (Put res.name res.len) act.NameTaken c.end_call.new.sequencer c.end_call.new.pass =
    subst (λ (x : SequencerState). Ends shape told x v (Put res.name res.len) act.NameTaken c.end_call.new.sequencer c.end_call.new.pass) same
    (subst (λ (q : PassState). Ends shape told c.meet_front.new.self q (Put res.name res.len) act.NameTaken c.end_call.new.sequencer c.end_call.new.pass) c.meet.ensures.pass c.end_call.ensures) in
    ended_kept shape told callers spares s c.end_call.new.sequencer v c.end_call.new.pass p (Put res.name res.len) act.NameTaken c.self.invariant met tt
    (put_covered shape told v res c.requires.reserved callers spares s met c.self.invariant.idle begins (ended v (Put res.name res.len) (length s.history) act.NameTaken) refl refl c.requires.reserved.is_open.call) ends

pub returns-clause-done : goal.returns-clause-done
returns-clause-done g c =
    let shape : Shape = g.N.Names.shape in
    let told : Bool = g.N.Names.told in
    let callers : ℕ = g.N.Names.callers in
    let spares : ℕ = g.N.Names.spare_hands in
    let s : SequencerState = c.self.inside.sequencer in
    let v : PassState = c.args.pass.now in
    let p : CoordParts = parts_of c.self.inside.catalog c.self.inside.hands c.self.inside.slice c.self.inside.nodes.items c.self.inside.stripes c.self.inside.promises.items in
    let res = c.args.res.now in
    let same : c.meet_front.new.self ≡ s = c.meet_front.ensures.same ∙ c.meet.ensures.same in
    let ends : Ends shape told s v (Put res.name res.len) act.NameTaken c.end_call.new.sequencer c.end_call.new.pass =
    subst (λ (x : SequencerState). Ends shape told x v (Put res.name res.len) act.NameTaken c.end_call.new.sequencer c.end_call.new.pass) same
    (subst (λ (q : PassState). Ends shape told c.meet_front.new.self q (Put res.name res.len) act.NameTaken c.end_call.new.sequencer c.end_call.new.pass) c.meet.ensures.pass c.end_call.ensures) in
    subst (λ (x : CoordState). Refuses shape told x v (Put res.name res.len) (Some act.NameTaken) (seen c.end_call.new.sequencer c.self.inside.stamps c.self.inside.repairs c.self.inside.stripes c.self.inside.slice c.self.inside.cyclic (heard c.self.inside.nodes.items)) c.end_call.new.pass) c.self.view_is
    (refuses_by shape told s c.end_call.new.sequencer v c.end_call.new.pass c.self.inside.stamps c.self.inside.repairs c.self.inside.stripes c.self.inside.slice c.self.inside.cyclic (heard c.self.inside.nodes.items) (Put res.name res.len) (Some act.NameTaken) ends ends.calls)
