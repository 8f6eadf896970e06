use Rattle.std.proofs.Common.{[], OnOk, OnErr, sym, subst}
use Rattle.ecp_catalog.specs.Catalogs.{CatalogState}
use Rattle.ecp_sequencer.specs.Passes.{IsWhole, PassState}
use Rattle.ecp_sequencer.specs.Sequencers.{SequencerState}
use Rattle.ecp_sequencer.specs.Steps.{Event}
use Rattle.ecp_coord.specs.Calls.{Begins}
use Rattle.ecp_coord.specs.Coords.{CoordParts, IsCoord, parts_of}
use Rattle.ecp_coord.proofs.BeginLaws.{begin_fresh, begin_kept, begin_open}
use Rattle.ecp_coord.proofs.FollowLaws.{IsMet, its_own}
use Rattle.ecp_coord.proofs.KeepLaws.{with_catalog}
use Rattle.ecp_coord.proofs.coord.Coord.begin.Goals as goal

pub invariant_of-self-2 : goal.invariant_of-self-2
invariant_of-self-2 g c =
    let shape = g.N.Names.shape in
    let told = g.N.Names.told in
    let s : SequencerState = c.self.inside.sequencer in
    let t : SequencerState = c.begin.new.self in
    let v : PassState = c.args.pass.now in
    let w : PassState = c.begin.new.pass in
    let ok : OnOk c.begin.result (Begins shape told s v c.args.deed t w) =
    subst (λ (p : PassState). OnOk c.begin.result (Begins shape told s p c.args.deed t w)) c.meet.ensures.pass
    (subst (λ (x : SequencerState). OnOk c.begin.result (Begins shape told x c.meet.new.pass c.args.deed t w)) c.meet.ensures.same c.begin.ensures.ok) in
    let err : OnErr c.begin.result (Event shape told s v [] [] t w) =
    subst (λ (p : PassState). OnErr c.begin.result (Event shape told s p [] [] t w)) c.meet.ensures.pass
    (subst (λ (x : SequencerState). OnErr c.begin.result (Event shape told x c.meet.new.pass [] [] t w)) c.meet.ensures.same c.begin.ensures.err) in
    let p : CoordParts = parts_of c.self.inside.catalog c.self.inside.hands c.self.inside.slice c.self.inside.nodes.items c.self.inside.stripes c.self.inside.promises.items in
    let met : IsMet shape told g.N.Names.callers g.N.Names.spare_hands s v = record {
      agree = c.meet.ensures.agree;
      kept = c.meet.ensures.kept;
      session = c.meet.ensures.session;
      own = its_own g.N.Names.spare_hands v c.meet.ensures.places c.requires;
      in_range = c.meet.ensures.in_range;
    } in
    let made = begin_kept shape told g.N.Names.callers g.N.Names.spare_hands c.begin.result s t v w p c.args.deed c.self.invariant met ok err in
    subst (λ (d : CatalogState). IsCoord shape told g.N.Names.callers g.N.Names.spare_hands t (with_catalog p d)) (sym c.in_default.ensures.ok) made

pub returns-clause-open : goal.returns-clause-open
returns-clause-open g c =
    begin_open g.N.Names.shape g.N.Names.told c.begin.result c.meet.new.self c.begin.new.self c.meet.new.pass c.begin.new.pass c.args.deed (subst (λ (p : PassState). IsWhole p) (sym c.meet.ensures.pass) c.requires) c.begin.ensures.ok c.begin.ensures.counted

pub returns-clause-fresh : goal.returns-clause-fresh
returns-clause-fresh g c =
    begin_fresh g.N.Names.shape g.N.Names.told c.begin.result c.meet.new.self c.begin.new.self c.meet.new.pass c.begin.new.pass c.args.deed (subst (λ (p : PassState). IsWhole p) (sym c.meet.ensures.pass) c.requires) c.begin.ensures.ok c.begin.ensures.counted
