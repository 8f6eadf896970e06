use Rattle.std.proofs.Common.{◌≡◌, ℕ, ◌+◌, ◌<◌, Bool, List, [], ◌∷◌, length, map, None, Ok, refl, sym, ◌∙◌, ap, subst, inr}
use Rattle.std.specs.Prelude.{All}
use Rattle.ecp_shape.specs.declared.limits.TheConstants.{MAX_NODES}
use Rattle.ecp_shape.specs.declared.shape.Shape.{Shape}
use Rattle.ecp_entry.specs.Told.{history_of}
use Rattle.ecp_history.specs.Calls.{place_of}
use Rattle.ecp_history.specs.table.Steps.{table_of}
use Rattle.ecp_history.specs.declared.table.block_name.BlockName.{BlockName}
use Rattle.ecp_history.specs.Fronts.{told_table}
use Rattle.ecp_history.specs.table.Tables.{PlainTable}
use Rattle.ecp_catalog.specs.Catalogs.{CatalogState}
use Rattle.ecp_catalog.specs.Stamps.{IsRaised}
use Rattle.ecp_sequencer.specs.declared.limits.TheConstants.{ROOM}
use Rattle.ecp_sequencer.specs.Notes.{note}
use Rattle.ecp_sequencer.specs.Passes.{PassState}
use Rattle.ecp_sequencer.specs.Sequencers.{Agrees, SequencerState}
use Rattle.ecp_sequencer.specs.Steps.{Event}
use Rattle.ecp_coord.specs.declared.planning.Making.{Making}
use Rattle.ecp_coord.specs.Attempts.{IsFirst}
use Rattle.ecp_coord.specs.Calls.{HasOpen}
use Rattle.ecp_coord.specs.Coords.{CoordParts, CoordState, IsCoord, heard, parts_of}
use Rattle.ecp_coord.specs.Plans.{Plans, RefusesPlan, planning_of, refusal_of, sought}
use Rattle.ecp_coord.proofs.AttemptLaws.{first_plans, first_stamped, found_can, state}
use Rattle.ecp_coord.proofs.CallLaws.{block_free, planned_kept, waited_kept}
use Rattle.ecp_coord.proofs.FollowLaws.{IsMet, its_own}
use Rattle.ecp_coord.proofs.KeepLaws.{with_catalog}
use Rattle.ecp_coord.proofs.PlanningLaws.{asking_of, event_met, refuse_goes, refuse_met, refuses_now, sought_whole}
use Rattle.ecp_coord.proofs.RefuseLaws.{refused_kept}
use Rattle.ecp_coord.proofs.coord.Coord.plan_block.Goals as goal

pub refuse-requires-clause-agree : goal.refuse-requires-clause-agree
refuse-requires-clause-agree g c =
    let s : SequencerState = c.self.inside.sequencer in
    subst (λ (x : SequencerState). Agrees x c.meet.new.pass) (sym c.meet.ensures.same) (subst (λ (q : PassState). Agrees s q) (sym c.meet.ensures.pass) c.meet.ensures.agree)

pub refuse-requires-clause-has_open : goal.refuse-requires-clause-has_open
refuse-requires-clause-has_open g c =
    let shape : Shape = g.N.Names.shape in
    let told : Bool = g.N.Names.told in
    let callers : ℕ = g.N.Names.callers in
    let spares : ℕ = g.N.Names.spare_hands in
    let s : SequencerState = c.self.inside.sequencer in
    let v : PassState = c.args.pass.now in
    let p : CoordParts = parts_of c.self.inside.catalog c.self.inside.hands c.self.inside.slice c.self.inside.nodes.items c.self.inside.stripes c.self.inside.promises.items in
    let met : IsMet shape told callers spares s v = record {
      agree = c.meet.ensures.agree;
      kept = c.meet.ensures.kept;
      session = c.meet.ensures.session;
      own = its_own spares v c.meet.ensures.places (sought_whole shape v c.args.part c.args.name.now c.args.index c.requires);
      in_range = c.meet.ensures.in_range;
    } in
    let asking = asking_of shape told callers spares s v p c.self.invariant met c.args.part c.args.name.now c.args.index c.requires in
    subst (λ (q : PassState). HasOpen q) (sym c.meet.ensures.pass) (asking.0, asking.1.is_open)

pub refuse-requires-clause-follows : goal.refuse-requires-clause-follows
refuse-requires-clause-follows g c =
    let shape : Shape = g.N.Names.shape in
    let told : Bool = g.N.Names.told in
    let callers : ℕ = g.N.Names.callers in
    let spares : ℕ = g.N.Names.spare_hands in
    let s : SequencerState = c.self.inside.sequencer in
    let v : PassState = c.args.pass.now in
    let p : CoordParts = parts_of c.self.inside.catalog c.self.inside.hands c.self.inside.slice c.self.inside.nodes.items c.self.inside.stripes c.self.inside.promises.items in
    let met : IsMet shape told callers spares s v = record {
      agree = c.meet.ensures.agree;
      kept = c.meet.ensures.kept;
      session = c.meet.ensures.session;
      own = its_own spares v c.meet.ensures.places (sought_whole shape v c.args.part c.args.name.now c.args.index c.requires);
      in_range = c.meet.ensures.in_range;
    } in
    refuse_goes shape told callers spares s v p c.self.invariant met c.meet.new.self c.meet.new.pass c.meet.ensures.same c.meet.ensures.pass c.args.part c.args.name.now c.args.index c.requires c.in-Err.why
    (sym (c.in-Err.ensures shape told (history_of s.history) c.self.invariant.outline))

pub invariant_of-self : goal.invariant_of-self
invariant_of-self g c =
    let shape : Shape = g.N.Names.shape in
    let told : Bool = g.N.Names.told in
    let callers : ℕ = g.N.Names.callers in
    let spares : ℕ = g.N.Names.spare_hands in
    let s : SequencerState = c.self.inside.sequencer in
    let v : PassState = c.args.pass.now in
    let p : CoordParts = parts_of c.self.inside.catalog c.self.inside.hands c.self.inside.slice c.self.inside.nodes.items c.self.inside.stripes c.self.inside.promises.items in
    let met : IsMet shape told callers spares s v = record {
      agree = c.meet.ensures.agree;
      kept = c.meet.ensures.kept;
      session = c.meet.ensures.session;
      own = its_own spares v c.meet.ensures.places (sought_whole shape v c.args.part c.args.name.now c.args.index c.requires);
      in_range = c.meet.ensures.in_range;
    } in
    let asking = asking_of shape told callers spares s v p c.self.invariant met c.args.part c.args.name.now c.args.index c.requires in
    let event = refuse_met shape told s c.meet.new.self c.refuse.new.sequencer v c.meet.new.pass c.refuse.new.pass c.meet.ensures.same c.meet.ensures.pass c.args.part (refusal_of c.in-Err.why) c.refuse.ensures.event in
    refused_kept shape told callers spares s c.refuse.new.sequencer v c.refuse.new.pass p c.self.invariant met (block_free shape v asking.0 (place_of c.args.part) asking.1.is_open asking.1.of_block)
    asking.0 c.args.part asking.1.is_open asking.1.of_block c.in-Err.why event

pub returns-in-Err-clause-err : goal.returns-in-Err-clause-err
returns-in-Err-clause-err g c =
    let shape : Shape = g.N.Names.shape in
    let told : Bool = g.N.Names.told in
    let s : SequencerState = c.self.inside.sequencer in
    let v : PassState = c.args.pass.now in
    let event = refuse_met shape told s c.meet.new.self c.refuse.new.sequencer v c.meet.new.pass c.refuse.new.pass c.meet.ensures.same c.meet.ensures.pass c.args.part (refusal_of c.in-Err.why) c.refuse.ensures.event in
    let counted : c.refuse.new.pass.calls ≡ v.calls = c.refuse.ensures.calls ∙ ap (λ (q : PassState). q.calls) c.meet.ensures.pass in
    subst (λ (x : CoordState). RefusesPlan shape told x v c.args.part (refusal_of c.in-Err.why) (state c.refuse.new.sequencer c.self.inside.stamps c.self.inside.repairs c.self.inside.stripes c.self.inside.slice c.self.inside.cyclic (heard c.self.inside.nodes.items)) c.refuse.new.pass) c.self.view_is
    (refuses_now shape told s c.refuse.new.sequencer v c.refuse.new.pass c.self.inside.stamps c.self.inside.repairs c.self.inside.stripes c.self.inside.slice c.self.inside.cyclic (heard c.self.inside.nodes.items)
    c.args.part (refusal_of c.in-Err.why) event counted)

pub returns-in-Err-clause-answer : goal.returns-in-Err-clause-answer
returns-in-Err-clause-answer g c =
    let shape : Shape = g.N.Names.shape in
    let told : Bool = g.N.Names.told in
    let s : SequencerState = c.self.inside.sequencer in
    let name : List ℕ = c.args.name.now in
    let index : ℕ = c.args.index in
    let t : PlainTable = table_of shape (history_of s.history) in
    let by : sought shape (told_table shape c.args.self.now.sequence.history) name index ≡ sought shape t name index =
    ap (λ (x : CoordState). sought shape (told_table shape x.sequence.history) name index) (sym c.self.view_is) in
    inr (by ∙ sym (c.in-Err.ensures shape told (history_of s.history) c.self.invariant.outline))

pub first_attempt-made-requires-clause-agree : goal.first_attempt-made-requires-clause-agree
first_attempt-made-requires-clause-agree g c =
    let s : SequencerState = c.self.inside.sequencer in
    subst (λ (x : SequencerState). Agrees x c.meet.new.pass) (sym c.meet.ensures.same) (subst (λ (q : PassState). Agrees s q) (sym c.meet.ensures.pass) c.meet.ensures.agree)

pub first_attempt-made-requires-clause-can : goal.first_attempt-made-requires-clause-can
first_attempt-made-requires-clause-can g c =
    let shape : Shape = g.N.Names.shape in
    let told : Bool = g.N.Names.told in
    let callers : ℕ = g.N.Names.callers in
    let spares : ℕ = g.N.Names.spare_hands in
    let s : SequencerState = c.self.inside.sequencer in
    let v : PassState = c.args.pass.now in
    let p : CoordParts = parts_of c.self.inside.catalog c.self.inside.hands c.self.inside.slice c.self.inside.nodes.items c.self.inside.stripes c.self.inside.promises.items in
    let met : IsMet shape told callers spares s v = record {
      agree = c.meet.ensures.agree;
      kept = c.meet.ensures.kept;
      session = c.meet.ensures.session;
      own = its_own spares v c.meet.ensures.places (sought_whole shape v c.args.part c.args.name.now c.args.index c.requires);
      in_range = c.meet.ensures.in_range;
    } in
    let name : List ℕ = c.args.name.now in
    let index : ℕ = c.args.index in
    found_can shape told callers spares s v p c.self.invariant met name index c.in-Ok.block (sym (c.in-Ok.ensures shape told (history_of s.history) c.self.invariant.outline))

pub raise-requires : goal.raise-requires
raise-requires g c =
    let shape : Shape = g.N.Names.shape in
    let told : Bool = g.N.Names.told in
    let callers : ℕ = g.N.Names.callers in
    let spares : ℕ = g.N.Names.spare_hands in
    let s : SequencerState = c.self.inside.sequencer in
    let v : PassState = c.args.pass.now in
    let p : CoordParts = parts_of c.self.inside.catalog c.self.inside.hands c.self.inside.slice c.self.inside.nodes.items c.self.inside.stripes c.self.inside.promises.items in
    let met : IsMet shape told callers spares s v = record {
      agree = c.meet.ensures.agree;
      kept = c.meet.ensures.kept;
      session = c.meet.ensures.session;
      own = its_own spares v c.meet.ensures.places (sought_whole shape v c.args.part c.args.name.now c.args.index c.requires);
      in_range = c.meet.ensures.in_range;
    } in
    let making : Making = record { repair = c.self.inside.repairs; part = c.args.part; block = c.in-Ok.block; slice = c.self.inside.slice; cyclic = c.self.inside.cyclic } in
    let first : IsFirst c.self.inside.catalog c.self.inside.stamps.stamps making s.history c.in-Ok-made.plan =
    subst (λ (x : SequencerState). IsFirst c.self.inside.catalog c.self.inside.stamps.stamps making x.history c.in-Ok-made.plan) c.meet.ensures.same c.in-Ok-made.ensures.plan in
    subst (λ xs. All (λ hop. hop.node < MAX_NODES) xs) (sym c.deref.ensures.value)
    (first_stamped shape told callers spares s v p c.self.invariant met c.self.inside.stamps making c.in-Ok-made.plan first)

pub invariant_of-self-in-Ok-made : goal.invariant_of-self-in-Ok-made
invariant_of-self-in-Ok-made g c =
    let shape : Shape = g.N.Names.shape in
    let told : Bool = g.N.Names.told in
    let callers : ℕ = g.N.Names.callers in
    let spares : ℕ = g.N.Names.spare_hands in
    let s : SequencerState = c.self.inside.sequencer in
    let v : PassState = c.args.pass.now in
    let p : CoordParts = parts_of c.self.inside.catalog c.self.inside.hands c.self.inside.slice c.self.inside.nodes.items c.self.inside.stripes c.self.inside.promises.items in
    let met : IsMet shape told callers spares s v = record {
      agree = c.meet.ensures.agree;
      kept = c.meet.ensures.kept;
      session = c.meet.ensures.session;
      own = its_own spares v c.meet.ensures.places (sought_whole shape v c.args.part c.args.name.now c.args.index c.requires);
      in_range = c.meet.ensures.in_range;
    } in
    let name : List ℕ = c.args.name.now in
    let index : ℕ = c.args.index in
    let event = event_met shape told s c.meet.new.self c.first_attempt-made.new.sequencer v c.meet.new.pass c.first_attempt-made.new.pass c.meet.ensures.same c.meet.ensures.pass
    (note (length c.meet.new.self.history) ROOM (planning_of c.in-Ok-made.plan) ∷ []) c.in-Ok-made.ensures.ok in
    let event : Event shape told s v [] (note (length s.history) ROOM (planning_of c.in-Ok-made.plan) ∷ []) c.first_attempt-made.new.sequencer c.first_attempt-made.new.pass =
    subst (λ (x : SequencerState). Event shape told s v [] (note (length x.history) ROOM (planning_of c.in-Ok-made.plan) ∷ []) c.first_attempt-made.new.sequencer c.first_attempt-made.new.pass) c.meet.ensures.same event in
    let asking = asking_of shape told callers spares s v p c.self.invariant met c.args.part c.args.name.now c.args.index c.requires in
    let made = planned_kept shape told callers spares s c.first_attempt-made.new.sequencer v c.first_attempt-made.new.pass p c.self.invariant met asking.0 (place_of c.args.part) ROOM c.in-Ok-made.plan asking.1.is_open
    asking.1.of_block event in
    subst (λ (d : CatalogState). IsCoord shape told callers spares c.first_attempt-made.new.sequencer (with_catalog p d)) (sym c.first_attempt-made.ensures.kept) made

pub returns-in-Ok-made-clause-ok : goal.returns-in-Ok-made-clause-ok
returns-in-Ok-made-clause-ok g c =
    let shape : Shape = g.N.Names.shape in
    let told : Bool = g.N.Names.told in
    let callers : ℕ = g.N.Names.callers in
    let spares : ℕ = g.N.Names.spare_hands in
    let s : SequencerState = c.self.inside.sequencer in
    let v : PassState = c.args.pass.now in
    let p : CoordParts = parts_of c.self.inside.catalog c.self.inside.hands c.self.inside.slice c.self.inside.nodes.items c.self.inside.stripes c.self.inside.promises.items in
    let met : IsMet shape told callers spares s v = record {
      agree = c.meet.ensures.agree;
      kept = c.meet.ensures.kept;
      session = c.meet.ensures.session;
      own = its_own spares v c.meet.ensures.places (sought_whole shape v c.args.part c.args.name.now c.args.index c.requires);
      in_range = c.meet.ensures.in_range;
    } in
    let name : List ℕ = c.args.name.now in
    let index : ℕ = c.args.index in
    let making : Making = record { repair = c.self.inside.repairs; part = c.args.part; block = c.in-Ok.block; slice = c.self.inside.slice; cyclic = c.self.inside.cyclic } in
    let first : IsFirst c.self.inside.catalog c.self.inside.stamps.stamps making s.history c.in-Ok-made.plan =
    subst (λ (x : SequencerState). IsFirst c.self.inside.catalog c.self.inside.stamps.stamps making x.history c.in-Ok-made.plan) c.meet.ensures.same c.in-Ok-made.ensures.plan in
    let event = event_met shape told s c.meet.new.self c.first_attempt-made.new.sequencer v c.meet.new.pass c.first_attempt-made.new.pass c.meet.ensures.same c.meet.ensures.pass
    (note (length c.meet.new.self.history) ROOM (planning_of c.in-Ok-made.plan) ∷ []) c.in-Ok-made.ensures.ok in
    let event : Event shape told s v [] (note (length s.history) ROOM (planning_of c.in-Ok-made.plan) ∷ []) c.first_attempt-made.new.sequencer c.first_attempt-made.new.pass =
    subst (λ (x : SequencerState). Event shape told s v [] (note (length x.history) ROOM (planning_of c.in-Ok-made.plan) ∷ []) c.first_attempt-made.new.sequencer c.first_attempt-made.new.pass) c.meet.ensures.same event in
    let counted : c.first_attempt-made.new.pass.calls ≡ v.calls = c.first_attempt-made.ensures.calls ∙ ap (λ (q : PassState). q.calls) c.meet.ensures.pass in
    let raised : IsRaised c.self.inside.stamps c.raise.new.self (map (λ h. h.node) c.in-Ok-made.plan.hops.items) =
    subst (λ xs. IsRaised c.self.inside.stamps c.raise.new.self (map (λ h. h.node) xs)) c.deref.ensures.value c.raise.ensures in
    let asking = asking_of shape told callers spares s v p c.self.invariant met c.args.part c.args.name.now c.args.index c.requires in
    let made = first_plans shape told callers spares s v p c.self.invariant met c.self.inside.stamps making c.in-Ok-made.plan first c.first_attempt-made.new.sequencer c.first_attempt-made.new.pass c.raise.new.self
    c.self.inside.stripes (heard c.self.inside.nodes.items) asking.0 name index asking.1 (sym (c.in-Ok.ensures shape told (history_of s.history) c.self.invariant.outline)) refl event counted raised in
    subst (λ (x : CoordState). Plans shape told x v c.in-Ok-made.plan (state c.first_attempt-made.new.sequencer c.raise.new.self (c.self.inside.repairs + 1) c.self.inside.stripes c.self.inside.slice c.self.inside.cyclic (heard c.self.inside.nodes.items)) c.first_attempt-made.new.pass) c.self.view_is made

pub returns-in-Ok-made-clause-part : goal.returns-in-Ok-made-clause-part
returns-in-Ok-made-clause-part g c = c.in-Ok-made.ensures.plan.part

pub returns-in-Ok-made-clause-answer : goal.returns-in-Ok-made-clause-answer
returns-in-Ok-made-clause-answer g c =
    let shape : Shape = g.N.Names.shape in
    let told : Bool = g.N.Names.told in
    let s : SequencerState = c.self.inside.sequencer in
    let name : List ℕ = c.args.name.now in
    let index : ℕ = c.args.index in
    let making : Making = record { repair = c.self.inside.repairs; part = c.args.part; block = c.in-Ok.block; slice = c.self.inside.slice; cyclic = c.self.inside.cyclic } in
    let first : IsFirst c.self.inside.catalog c.self.inside.stamps.stamps making s.history c.in-Ok-made.plan =
    subst (λ (x : SequencerState). IsFirst c.self.inside.catalog c.self.inside.stamps.stamps making x.history c.in-Ok-made.plan) c.meet.ensures.same c.in-Ok-made.ensures.plan in
    let t : PlainTable = table_of shape (history_of s.history) in
    let by : sought shape (told_table shape c.args.self.now.sequence.history) name index ≡ sought shape t name index =
    ap (λ (x : CoordState). sought shape (told_table shape x.sequence.history) name index) (sym c.self.view_is) in
    by ∙ sym (c.in-Ok.ensures shape told (history_of s.history) c.self.invariant.outline) ∙ ap (λ (b : BlockName). Ok b) (sym first.block)

pub invariant_of-self-in-Err-made : goal.invariant_of-self-in-Err-made
invariant_of-self-in-Err-made g c =
    let shape : Shape = g.N.Names.shape in
    let told : Bool = g.N.Names.told in
    let callers : ℕ = g.N.Names.callers in
    let spares : ℕ = g.N.Names.spare_hands in
    let s : SequencerState = c.self.inside.sequencer in
    let v : PassState = c.args.pass.now in
    let p : CoordParts = parts_of c.self.inside.catalog c.self.inside.hands c.self.inside.slice c.self.inside.nodes.items c.self.inside.stripes c.self.inside.promises.items in
    let met : IsMet shape told callers spares s v = record {
      agree = c.meet.ensures.agree;
      kept = c.meet.ensures.kept;
      session = c.meet.ensures.session;
      own = its_own spares v c.meet.ensures.places (sought_whole shape v c.args.part c.args.name.now c.args.index c.requires);
      in_range = c.meet.ensures.in_range;
    } in
    let event = event_met shape told s c.meet.new.self c.first_attempt-made.new.sequencer v c.meet.new.pass c.first_attempt-made.new.pass c.meet.ensures.same c.meet.ensures.pass [] c.in-Err-made.ensures.err in
    let made = waited_kept shape told callers spares s c.first_attempt-made.new.sequencer v c.first_attempt-made.new.pass p c.self.invariant met event in
    subst (λ (d : CatalogState). IsCoord shape told callers spares c.first_attempt-made.new.sequencer (with_catalog p d)) (sym c.first_attempt-made.ensures.kept) made

pub returns-in-Err-made-clause-err : goal.returns-in-Err-made-clause-err
returns-in-Err-made-clause-err g c =
    let shape : Shape = g.N.Names.shape in
    let told : Bool = g.N.Names.told in
    let s : SequencerState = c.self.inside.sequencer in
    let v : PassState = c.args.pass.now in
    let event = event_met shape told s c.meet.new.self c.first_attempt-made.new.sequencer v c.meet.new.pass c.first_attempt-made.new.pass c.meet.ensures.same c.meet.ensures.pass [] c.in-Err-made.ensures.err in
    let counted : c.first_attempt-made.new.pass.calls ≡ v.calls = c.first_attempt-made.ensures.calls ∙ ap (λ (q : PassState). q.calls) c.meet.ensures.pass in
    subst (λ (x : CoordState). RefusesPlan shape told x v c.args.part None (state c.first_attempt-made.new.sequencer c.self.inside.stamps c.self.inside.repairs c.self.inside.stripes c.self.inside.slice c.self.inside.cyclic (heard c.self.inside.nodes.items)) c.first_attempt-made.new.pass) c.self.view_is
    (refuses_now shape told s c.first_attempt-made.new.sequencer v c.first_attempt-made.new.pass c.self.inside.stamps c.self.inside.repairs c.self.inside.stripes c.self.inside.slice c.self.inside.cyclic
    (heard c.self.inside.nodes.items) c.args.part None event counted)
