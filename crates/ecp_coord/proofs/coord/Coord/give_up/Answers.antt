use Rattle.std.proofs.Common.{◌≡◌, ℕ, Bool, length, Some, refl, sym, ◌∙◌, ap, subst}
use mathlib.Core.List.{IsPrefix}
use Rattle.ecp_book.specs.Logs.{Known}
use Rattle.ecp_entry.specs.declared.deed.Deed.TheVariants.{Put}
use Rattle.ecp_entry.specs.Told.{history_of}
use Rattle.ecp_history.specs.Legal.{MayFollow}
use Rattle.ecp_plan.specs.declared.voids.Voids.{Voids}
use Rattle.ecp_coord.specs.Calls.{Ends, IsOpen, ended}
use Rattle.ecp_coord.specs.Puts.{GivesUpPlaces, IsOvertaken, end_of, found_by_renewing}
use Rattle.ecp_coord.proofs.FollowLaws.{IsMet, its_own}
use Rattle.ecp_coord.proofs.PlaceLaws.{ended_kept, seen}
use Rattle.ecp_coord.proofs.PutCoverLaws.{put_covered}
use Rattle.ecp_coord.proofs.RenewLaws.{end_says, give_up_follows, gives_up}
use Rattle.ecp_shape.specs.declared.shape.Shape.{Shape}
use Rattle.ecp_sequencer.specs.Passes.{PassState}
use Rattle.ecp_sequencer.specs.Sequencers.{Agrees, SequencerState}
use Rattle.ecp_coord.specs.Coords.{CoordParts, CoordState, heard, parts_of}
use Rattle.ecp_coord.proofs.coord.Coord.give_up.Goals as goal

pub end_call-requires-clause-agree : goal.end_call-requires-clause-agree
end_call-requires-clause-agree g c =
    subst (λ (x : SequencerState). Agrees x c.meet.new.pass) (sym (c.meet_front.ensures.same ∙ c.meet.ensures.same)) (subst (λ (q : PassState). Agrees c.self.inside.sequencer q) (sym c.meet.ensures.pass) c.meet.ensures.agree)

pub end_call-requires-clause-open : goal.end_call-requires-clause-open
end_call-requires-clause-open g c =
    subst (λ (q : PassState). IsOpen q (Put c.args.res.now.name c.args.res.now.len)) (sym c.meet.ensures.pass) c.requires.reserved.is_open

pub end_call-requires-clause-follows : goal.end_call-requires-clause-follows
end_call-requires-clause-follows g c =
    let shape : Shape = g.N.Names.shape in
    let told : Bool = g.N.Names.told in
    let callers : ℕ = g.N.Names.callers in
    let spares : ℕ = g.N.Names.spare_hands in
    let s : SequencerState = c.self.inside.sequencer in
    let v : PassState = c.args.pass.now in
    let p : CoordParts = parts_of c.self.inside.catalog c.self.inside.hands c.self.inside.slice c.self.inside.nodes.items c.self.inside.stripes c.self.inside.promises.items in
    let met : IsMet shape told callers spares s v = record {
      agree = c.meet.ensures.agree;
      kept = c.meet.ensures.kept;
      session = c.meet.ensures.session;
      own = its_own spares v c.meet.ensures.places c.requires.reserved.is_open.whole;
      in_range = c.meet.ensures.in_range;
    } in
    let res = c.args.res.now in
    let voids : Voids = c.args.voids in
    let begins : IsPrefix res.front.items s.history = subst (λ (x : SequencerState). IsPrefix res.front.items x.history) c.meet.ensures.same c.meet_front.ensures.begins in
    let over : IsOvertaken (history_of s.history) res voids = subst (λ (x : CoordState). IsOvertaken (history_of x.sequence.history) res voids) (sym c.self.view_is) c.requires.overtaken in
    let says : end_of voids (found_by_renewing shape (history_of s.history) res) ≡ Some c.args.act =
    ap (λ (x : CoordState). end_of voids (found_by_renewing shape (history_of x.sequence.history) res)) c.self.view_is ∙ c.requires.says in
    let same : c.meet_front.new.self ≡ s = c.meet_front.ensures.same ∙ c.meet.ensures.same in
    subst (λ (q : PassState). MayFollow shape told (history_of c.meet_front.new.self.history) (ended q (Put res.name res.len) (length c.meet_front.new.self.history) c.args.act)) (sym c.meet.ensures.pass)
    (subst (λ (x : SequencerState). MayFollow shape told (history_of x.history) (ended v (Put res.name res.len) (length x.history) c.args.act)) (sym same)
    (give_up_follows shape told callers spares s v res over.at voids met c.requires.reserved begins over.first over.kept c.self.invariant.idle c.args.act says))

pub invariant_of-self : goal.invariant_of-self
invariant_of-self g c =
    let shape : Shape = g.N.Names.shape in
    let told : Bool = g.N.Names.told in
    let callers : ℕ = g.N.Names.callers in
    let spares : ℕ = g.N.Names.spare_hands in
    let s : SequencerState = c.self.inside.sequencer in
    let v : PassState = c.args.pass.now in
    let p : CoordParts = parts_of c.self.inside.catalog c.self.inside.hands c.self.inside.slice c.self.inside.nodes.items c.self.inside.stripes c.self.inside.promises.items in
    let met : IsMet shape told callers spares s v = record {
      agree = c.meet.ensures.agree;
      kept = c.meet.ensures.kept;
      session = c.meet.ensures.session;
      own = its_own spares v c.meet.ensures.places c.requires.reserved.is_open.whole;
      in_range = c.meet.ensures.in_range;
    } in
    let res = c.args.res.now in
    let voids : Voids = c.args.voids in
    let begins : IsPrefix res.front.items s.history = subst (λ (x : SequencerState). IsPrefix res.front.items x.history) c.meet.ensures.same c.meet_front.ensures.begins in
    let over : IsOvertaken (history_of s.history) res voids = subst (λ (x : CoordState). IsOvertaken (history_of x.sequence.history) res voids) (sym c.self.view_is) c.requires.overtaken in
    let says : end_of voids (found_by_renewing shape (history_of s.history) res) ≡ Some c.args.act =
    ap (λ (x : CoordState). end_of voids (found_by_renewing shape (history_of x.sequence.history) res)) c.self.view_is ∙ c.requires.says in
    let same : c.meet_front.new.self ≡ s = c.meet_front.ensures.same ∙ c.meet.ensures.same in
    let ends : Ends shape told s v (Put res.name res.len) c.args.act c.end_call.new.sequencer c.end_call.new.pass =
    subst (λ (x : SequencerState). Ends shape told x v (Put res.name res.len) c.args.act c.end_call.new.sequencer c.end_call.new.pass) same
    (subst (λ (q : PassState). Ends shape told c.meet_front.new.self q (Put res.name res.len) c.args.act c.end_call.new.sequencer c.end_call.new.pass) c.meet.ensures.pass c.end_call.ensures) in
    ended_kept shape told callers spares s c.end_call.new.sequencer v c.end_call.new.pass p (Put res.name res.len) c.args.act c.self.invariant met
    (end_says voids (found_by_renewing shape (history_of s.history) res) c.args.act says)
    (put_covered shape told v res c.requires.reserved callers spares s met c.self.invariant.idle begins (ended v (Put res.name res.len) (length s.history) c.args.act) refl refl c.requires.reserved.is_open.call) ends

pub returns-clause-done : goal.returns-clause-done
returns-clause-done g c =
    let shape : Shape = g.N.Names.shape in
    let told : Bool = g.N.Names.told in
    let callers : ℕ = g.N.Names.callers in
    let spares : ℕ = g.N.Names.spare_hands in
    let s : SequencerState = c.self.inside.sequencer in
    let v : PassState = c.args.pass.now in
    let p : CoordParts = parts_of c.self.inside.catalog c.self.inside.hands c.self.inside.slice c.self.inside.nodes.items c.self.inside.stripes c.self.inside.promises.items in
    let met : IsMet shape told callers spares s v = record {
      agree = c.meet.ensures.agree;
      kept = c.meet.ensures.kept;
      session = c.meet.ensures.session;
      own = its_own spares v c.meet.ensures.places c.requires.reserved.is_open.whole;
      in_range = c.meet.ensures.in_range;
    } in
    let res = c.args.res.now in
    let voids : Voids = c.args.voids in
    let begins : IsPrefix res.front.items s.history = subst (λ (x : SequencerState). IsPrefix res.front.items x.history) c.meet.ensures.same c.meet_front.ensures.begins in
    let over : IsOvertaken (history_of s.history) res voids = subst (λ (x : CoordState). IsOvertaken (history_of x.sequence.history) res voids) (sym c.self.view_is) c.requires.overtaken in
    let says : end_of voids (found_by_renewing shape (history_of s.history) res) ≡ Some c.args.act =
    ap (λ (x : CoordState). end_of voids (found_by_renewing shape (history_of x.sequence.history) res)) c.self.view_is ∙ c.requires.says in
    let same : c.meet_front.new.self ≡ s = c.meet_front.ensures.same ∙ c.meet.ensures.same in
    let ends : Ends shape told s v (Put res.name res.len) c.args.act c.end_call.new.sequencer c.end_call.new.pass =
    subst (λ (x : SequencerState). Ends shape told x v (Put res.name res.len) c.args.act c.end_call.new.sequencer c.end_call.new.pass) same
    (subst (λ (q : PassState). Ends shape told c.meet_front.new.self q (Put res.name res.len) c.args.act c.end_call.new.sequencer c.end_call.new.pass) c.meet.ensures.pass c.end_call.ensures) in
    subst (λ (x : CoordState). GivesUpPlaces shape told x v res (record res { front = c.meet_front.new.front; voids = voids }) c.args.act (seen c.end_call.new.sequencer c.self.inside.stamps c.self.inside.repairs c.self.inside.stripes c.self.inside.slice c.self.inside.cyclic (heard c.self.inside.nodes.items)) c.end_call.new.pass) c.self.view_is
    (subst (λ (f : Known). GivesUpPlaces shape told (seen s c.self.inside.stamps c.self.inside.repairs c.self.inside.stripes c.self.inside.slice c.self.inside.cyclic (heard c.self.inside.nodes.items)) v res (record res { front = f; voids = voids }) c.args.act (seen c.end_call.new.sequencer c.self.inside.stamps c.self.inside.repairs c.self.inside.stripes c.self.inside.slice c.self.inside.cyclic (heard c.self.inside.nodes.items)) c.end_call.new.pass) (sym c.meet_front.ensures.front)
    (gives_up shape told callers spares s v res over.at voids met c.requires.reserved begins over.first over.kept c.self.invariant.idle c.end_call.new.sequencer c.end_call.new.pass c.self.inside.stamps c.self.inside.repairs c.self.inside.stripes c.self.inside.slice c.self.inside.cyclic (heard c.self.inside.nodes.items) c.args.act ends))
