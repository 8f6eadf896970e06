use Rattle.std.proofs.Common.{◌≡◌, ℕ, ◌^◌, ◌<◌, length, sym, ◌∙◌, ap, subst}
use Rattle.ecp_entry.specs.declared.act.Act.{Act}
use Rattle.ecp_entry.specs.declared.deed.Deed.TheVariants.{Join}
use Rattle.ecp_entry.specs.Told.{history_of}
use Rattle.ecp_history.specs.Fronts.{told_table}
use Rattle.ecp_history.specs.Legal.{MayFollow}
use Rattle.ecp_catalog.specs.Catalogs.{CatalogState}
use Rattle.ecp_sequencer.specs.Passes.{PassState}
use Rattle.ecp_sequencer.specs.Sequencers.{SequencerState}
use Rattle.ecp_coord.specs.Calls.{Ends, ended}
use Rattle.ecp_coord.specs.Coords.{CoordParts, CoordState, IsCoord, parts_of}
use Rattle.ecp_coord.specs.Joining.{HasNext, after_joining, found_by_joining}
use Rattle.ecp_coord.specs.Losing.{act_of}
use Rattle.ecp_coord.proofs.FollowLaws.{IsMet, its_own}
use Rattle.ecp_coord.proofs.KeepLaws.{with_catalog}
use Rattle.ecp_coord.proofs.JoinLaws.{join_goes, join_next, join_can, join_kept}
use Rattle.ecp_coord.proofs.coord.Coord.join.Goals as goal

pub find-found-requires : goal.find-found-requires
find-found-requires g c =
    let p : CoordParts = parts_of c.self.inside.catalog c.self.inside.hands c.self.inside.slice c.self.inside.nodes.items c.self.inside.stripes c.self.inside.promises.items in
    let met : IsMet g.N.Names.shape g.N.Names.told g.N.Names.callers g.N.Names.spare_hands c.self.inside.sequencer c.args.pass.now = record {
      agree = c.meet.ensures.agree;
      kept = c.meet.ensures.kept;
      session = c.meet.ensures.session;
      own = its_own g.N.Names.spare_hands c.args.pass.now c.meet.ensures.places c.requires.open.whole;
      in_range = c.meet.ensures.in_range;
    } in
    join_next g.N.Names.shape g.N.Names.told g.N.Names.callers g.N.Names.spare_hands c.self.inside.sequencer c.args.pass.now p c.args.node c.self.invariant met c.meet.ensures.short

pub end_call-requires-clause-follows : goal.end_call-requires-clause-follows
end_call-requires-clause-follows g c =
    let shape = g.N.Names.shape in
    let told = g.N.Names.told in
    let s : SequencerState = c.self.inside.sequencer in
    let found_is = c.find-found.ensures shape told (history_of s.history) c.self.invariant.outline in
    let here = join_goes shape told s c.args.pass.now c.self.inside.catalog c.args.node c.find-found.result c.self.invariant.outline c.self.invariant.each_node c.meet.ensures.session found_is in
    subst (λ (a : Act). MayFollow shape told (history_of c.meet.new.self.history) (ended c.meet.new.pass (Join c.args.node) (length c.meet.new.self.history) a)) (sym c.act.ensures)
    (subst (λ (p : PassState). MayFollow shape told (history_of c.meet.new.self.history) (ended p (Join c.args.node) (length c.meet.new.self.history) (act_of c.find-found.result))) (sym c.meet.ensures.pass)
    (subst (λ (x : SequencerState). MayFollow shape told (history_of x.history) (ended c.args.pass.now (Join c.args.node) (length x.history) (act_of c.find-found.result))) (sym c.meet.ensures.same) here))

pub update-requires : goal.update-requires
update-requires g c =
    let shape = g.N.Names.shape in
    let told = g.N.Names.told in
    let s : SequencerState = c.self.inside.sequencer in
    let found_is = c.find-found.ensures shape told (history_of s.history) c.self.invariant.outline in
    let p : CoordParts = parts_of c.self.inside.catalog c.self.inside.hands c.self.inside.slice c.self.inside.nodes.items c.self.inside.stripes c.self.inside.promises.items in
    let met : IsMet shape told g.N.Names.callers g.N.Names.spare_hands s c.args.pass.now = record {
      agree = c.meet.ensures.agree;
      kept = c.meet.ensures.kept;
      session = c.meet.ensures.session;
      own = its_own g.N.Names.spare_hands c.args.pass.now c.meet.ensures.places c.requires.open.whole;
      in_range = c.meet.ensures.in_range;
    } in
    let next : HasNext c.self.inside.catalog c.args.node =
    join_next shape told g.N.Names.callers g.N.Names.spare_hands s c.args.pass.now p c.args.node c.self.invariant met c.meet.ensures.short in
    join_can shape told g.N.Names.callers g.N.Names.spare_hands s p c.args.node c.find-found.result c.self.invariant next found_is

pub invariant_of-self : goal.invariant_of-self
invariant_of-self g c =
    let shape = g.N.Names.shape in
    let told = g.N.Names.told in
    let s : SequencerState = c.self.inside.sequencer in
    let t : SequencerState = c.end_call.new.sequencer in
    let found_is = c.find-found.ensures shape told (history_of s.history) c.self.invariant.outline in
    let ends : Ends shape told s c.args.pass.now (Join c.args.node) (act_of c.find-found.result) t c.end_call.new.pass =
    subst (λ (a : Act). Ends shape told s c.args.pass.now (Join c.args.node) a t c.end_call.new.pass) c.act.ensures
    (subst (λ (p : PassState). Ends shape told s p (Join c.args.node) c.act.result t c.end_call.new.pass) c.meet.ensures.pass
    (subst (λ (x : SequencerState). Ends shape told x c.meet.new.pass (Join c.args.node) c.act.result t c.end_call.new.pass) c.meet.ensures.same c.end_call.ensures)) in
    let p : CoordParts = parts_of c.self.inside.catalog c.self.inside.hands c.self.inside.slice c.self.inside.nodes.items c.self.inside.stripes c.self.inside.promises.items in
    let met : IsMet shape told g.N.Names.callers g.N.Names.spare_hands s c.args.pass.now = record {
      agree = c.meet.ensures.agree;
      kept = c.meet.ensures.kept;
      session = c.meet.ensures.session;
      own = its_own g.N.Names.spare_hands c.args.pass.now c.meet.ensures.places c.requires.open.whole;
      in_range = c.meet.ensures.in_range;
    } in
    let made = join_kept shape told g.N.Names.callers g.N.Names.spare_hands s t c.args.pass.now c.end_call.new.pass p c.args.node c.find-found.result c.self.invariant met c.requires.open found_is ends in
    subst (λ (d : CatalogState). IsCoord shape told g.N.Names.callers g.N.Names.spare_hands t (with_catalog p d)) (sym c.update.ensures) made

pub returns-clause-answer : goal.returns-clause-answer
returns-clause-answer g c =
    c.find-found.ensures g.N.Names.shape g.N.Names.told (history_of c.self.inside.sequencer.history) c.self.invariant.outline
    ∙ ap (λ (x : CoordState). found_by_joining g.N.Names.shape (told_table g.N.Names.shape x.sequence.history) c.args.node) c.self.view_is
