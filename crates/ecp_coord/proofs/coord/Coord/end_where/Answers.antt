use Rattle.std.proofs.Common.{◌≡◌, ℕ, Bool, [], length, Option, Some, None, sym, ◌∙◌, ap, subst}
use Rattle.std.specs.Prelude.{MatchOption, ⊤}
use Rattle.ecp_shape.specs.declared.shape.Shape.{Shape}
use Rattle.ecp_entry.specs.declared.act.Act.{Act}
use Rattle.ecp_entry.specs.Told.{history_of}
use Rattle.ecp_history.specs.Legal.{MayFollow}
use Rattle.ecp_sequencer.specs.Passes.{PassState}
use Rattle.ecp_sequencer.specs.Sequencers.{Agrees, SequencerState}
use Rattle.ecp_sequencer.specs.Steps.{Event}
use Rattle.ecp_coord.specs.Calls.{Ends, IsOpen, ended}
use Rattle.ecp_coord.specs.Coords.{CoordParts, CoordState, IsCoord, heard, parts_of}
use Rattle.ecp_coord.specs.Refusals.{Refuses, SaysWhy}
use Rattle.ecp_coord.specs.Numbers.{open_numbers}
use Rattle.ecp_coord.proofs.CoverLaws.{covered_free}
use Rattle.ecp_coord.proofs.FollowLaws.{IsMet, its_own}
use Rattle.ecp_coord.proofs.PlaceLaws.{ended_kept, refuses_by, seen}
use Rattle.ecp_coord.proofs.coord.Coord.end_where.Goals as goal

pub end_call-requires-clause-agree : goal.end_call-requires-clause-agree
end_call-requires-clause-agree g c =
    subst (λ (x : SequencerState). Agrees x c.meet.new.pass) (sym c.meet.ensures.same) (subst (λ (q : PassState). Agrees c.self.inside.sequencer q) (sym c.meet.ensures.pass) c.meet.ensures.agree)

pub end_call-requires-clause-open : goal.end_call-requires-clause-open
end_call-requires-clause-open g c =
    subst (λ (q : PassState). IsOpen q c.args.deed) (sym c.meet.ensures.pass) c.requires.open

pub end_call-requires-clause-follows : goal.end_call-requires-clause-follows
end_call-requires-clause-follows g c =
    let shape : Shape = g.N.Names.shape in
    let told : Bool = g.N.Names.told in
    let callers : ℕ = g.N.Names.callers in
    let spares : ℕ = g.N.Names.spare_hands in
    let s : SequencerState = c.self.inside.sequencer in
    let v : PassState = c.args.pass.now in
    let p : CoordParts = parts_of c.self.inside.catalog c.self.inside.hands c.self.inside.slice c.self.inside.nodes.items c.self.inside.stripes c.self.inside.promises.items in
    let here : MayFollow shape told (history_of s.history) (ended v c.args.deed (length s.history) c.in-Some.act) =
    subst (λ (x : CoordState). MayFollow shape told (history_of x.sequence.history) (ended v c.args.deed (length x.sequence.history) c.in-Some.act)) (sym c.self.view_is)
    (subst (λ (o : Option Act). MatchOption o ⊤ (λ what. MayFollow shape told (history_of c.args.self.now.sequence.history) (ended v c.args.deed (length c.args.self.now.sequence.history) what))) c.in-Some.is
    (c.requires.follows c.meet.ensures.session)) in
    subst (λ (q : PassState). MayFollow shape told (history_of c.meet.new.self.history) (ended q c.args.deed (length c.meet.new.self.history) c.in-Some.act)) (sym c.meet.ensures.pass)
    (subst (λ (x : SequencerState). MayFollow shape told (history_of x.history) (ended v c.args.deed (length x.history) c.in-Some.act)) (sym c.meet.ensures.same) here)

pub invariant_of-self : goal.invariant_of-self
invariant_of-self g c =
    let shape : Shape = g.N.Names.shape in
    let told : Bool = g.N.Names.told in
    let callers : ℕ = g.N.Names.callers in
    let spares : ℕ = g.N.Names.spare_hands in
    let s : SequencerState = c.self.inside.sequencer in
    let v : PassState = c.args.pass.now in
    let p : CoordParts = parts_of c.self.inside.catalog c.self.inside.hands c.self.inside.slice c.self.inside.nodes.items c.self.inside.stripes c.self.inside.promises.items in
    let met : IsMet shape told callers spares s v = record {
      agree = c.meet.ensures.agree;
      kept = c.meet.ensures.kept;
      session = c.meet.ensures.session;
      own = its_own spares v c.meet.ensures.places c.requires.open.whole;
      in_range = c.meet.ensures.in_range;
    } in
    let ends : Ends shape told s v c.args.deed c.in-Some.act c.end_call.new.sequencer c.end_call.new.pass =
    subst (λ (x : SequencerState). Ends shape told x v c.args.deed c.in-Some.act c.end_call.new.sequencer c.end_call.new.pass) c.meet.ensures.same
    (subst (λ (q : PassState). Ends shape told c.meet.new.self q c.args.deed c.in-Some.act c.end_call.new.sequencer c.end_call.new.pass) c.meet.ensures.pass c.end_call.ensures) in
    let why : SaysWhy c.in-Some.act = subst (λ (o : Option Act). MatchOption o ⊤ SaysWhy) c.in-Some.is c.requires.says in
    ended_kept shape told callers spares s c.end_call.new.sequencer v c.end_call.new.pass p c.args.deed c.in-Some.act c.self.invariant met why
    (covered_free shape s v (ended v c.args.deed (length s.history) c.in-Some.act) (subst (λ (o : Option Act). MatchOption o ⊤ (λ (a : Act). open_numbers shape v.notes ≡ 0)) c.in-Some.is c.requires.free)) ends

pub returns-in-Some : goal.returns-in-Some
returns-in-Some g c =
    let shape : Shape = g.N.Names.shape in
    let told : Bool = g.N.Names.told in
    let callers : ℕ = g.N.Names.callers in
    let spares : ℕ = g.N.Names.spare_hands in
    let s : SequencerState = c.self.inside.sequencer in
    let v : PassState = c.args.pass.now in
    let p : CoordParts = parts_of c.self.inside.catalog c.self.inside.hands c.self.inside.slice c.self.inside.nodes.items c.self.inside.stripes c.self.inside.promises.items in
    let ends : Ends shape told s v c.args.deed c.in-Some.act c.end_call.new.sequencer c.end_call.new.pass =
    subst (λ (x : SequencerState). Ends shape told x v c.args.deed c.in-Some.act c.end_call.new.sequencer c.end_call.new.pass) c.meet.ensures.same
    (subst (λ (q : PassState). Ends shape told c.meet.new.self q c.args.deed c.in-Some.act c.end_call.new.sequencer c.end_call.new.pass) c.meet.ensures.pass c.end_call.ensures) in
    subst (λ (x : CoordState). Refuses shape told x v c.args.deed c.args.said (seen c.end_call.new.sequencer c.self.inside.stamps c.self.inside.repairs c.self.inside.stripes c.self.inside.slice c.self.inside.cyclic (heard c.self.inside.nodes.items)) c.end_call.new.pass) c.self.view_is
    (subst (λ (o : Option Act). Refuses shape told (seen s c.self.inside.stamps c.self.inside.repairs c.self.inside.stripes c.self.inside.slice c.self.inside.cyclic (heard c.self.inside.nodes.items)) v c.args.deed o (seen c.end_call.new.sequencer c.self.inside.stamps c.self.inside.repairs c.self.inside.stripes c.self.inside.slice c.self.inside.cyclic (heard c.self.inside.nodes.items)) c.end_call.new.pass) (sym c.in-Some.is)
    (refuses_by shape told s c.end_call.new.sequencer v c.end_call.new.pass c.self.inside.stamps c.self.inside.repairs c.self.inside.stripes c.self.inside.slice c.self.inside.cyclic (heard c.self.inside.nodes.items) c.args.deed (Some c.in-Some.act) ends ends.calls))

pub renew-requires : goal.renew-requires
renew-requires g c =
    subst (λ (x : SequencerState). Agrees x c.meet.new.pass) (sym c.meet.ensures.same) (subst (λ (q : PassState). Agrees c.self.inside.sequencer q) (sym c.meet.ensures.pass) c.meet.ensures.agree)

pub invariant_of-self-in-None : goal.invariant_of-self-in-None
invariant_of-self-in-None g c =
    let shape : Shape = g.N.Names.shape in
    let told : Bool = g.N.Names.told in
    let callers : ℕ = g.N.Names.callers in
    let spares : ℕ = g.N.Names.spare_hands in
    let s : SequencerState = c.self.inside.sequencer in
    let v : PassState = c.args.pass.now in
    let p : CoordParts = parts_of c.self.inside.catalog c.self.inside.hands c.self.inside.slice c.self.inside.nodes.items c.self.inside.stripes c.self.inside.promises.items in
    subst (λ (x : SequencerState). IsCoord shape told callers spares x p) (sym (c.renew.ensures.same ∙ c.meet.ensures.same)) c.self.invariant

pub returns-in-None : goal.returns-in-None
returns-in-None g c =
    let shape : Shape = g.N.Names.shape in
    let told : Bool = g.N.Names.told in
    let callers : ℕ = g.N.Names.callers in
    let spares : ℕ = g.N.Names.spare_hands in
    let s : SequencerState = c.self.inside.sequencer in
    let v : PassState = c.args.pass.now in
    let p : CoordParts = parts_of c.self.inside.catalog c.self.inside.hands c.self.inside.slice c.self.inside.nodes.items c.self.inside.stripes c.self.inside.promises.items in
    let event : Event shape told s v [] [] c.renew.new.self c.renew.new.pass =
    subst (λ (x : SequencerState). Event shape told x v [] [] c.renew.new.self c.renew.new.pass) c.meet.ensures.same
    (subst (λ (q : PassState). Event shape told c.meet.new.self q [] [] c.renew.new.self c.renew.new.pass) c.meet.ensures.pass c.renew.ensures.event) in
    let calls : c.renew.new.pass.calls ≡ v.calls = ap (λ (q : PassState). q.calls) c.renew.ensures.pass ∙ ap (λ (q : PassState). q.calls) c.meet.ensures.pass in
    subst (λ (x : CoordState). Refuses shape told x v c.args.deed c.args.said (seen c.renew.new.self c.self.inside.stamps c.self.inside.repairs c.self.inside.stripes c.self.inside.slice c.self.inside.cyclic (heard c.self.inside.nodes.items)) c.renew.new.pass) c.self.view_is
    (subst (λ (o : Option Act). Refuses shape told (seen s c.self.inside.stamps c.self.inside.repairs c.self.inside.stripes c.self.inside.slice c.self.inside.cyclic (heard c.self.inside.nodes.items)) v c.args.deed o (seen c.renew.new.self c.self.inside.stamps c.self.inside.repairs c.self.inside.stripes c.self.inside.slice c.self.inside.cyclic (heard c.self.inside.nodes.items)) c.renew.new.pass) (sym c.in-None.is)
    (refuses_by shape told s c.renew.new.self v c.renew.new.pass c.self.inside.stamps c.self.inside.repairs c.self.inside.stripes c.self.inside.slice c.self.inside.cyclic (heard c.self.inside.nodes.items) c.args.deed None event calls))
