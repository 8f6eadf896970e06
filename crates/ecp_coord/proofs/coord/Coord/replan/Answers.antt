use Rattle.std.proofs.Common.{◌≡◌, ℕ, ◌-◌, ◌<◌, ◌≤◌, Bool, cond, List, [], map, Option, Some, None, sym, ◌∙◌, ap, subst, arith}
use Rattle.std.specs.Prelude.{All, is_none}
use mathlib.Core.List.{IsPrefix}
use Rattle.ecp_shape.specs.declared.limits.TheConstants.{MAX_NODES}
use Rattle.ecp_shape.specs.declared.shape.Shape.{Shape}
use Rattle.ecp_entry.specs.Told.{history_of}
use Rattle.ecp_history.specs.Calls.{place_of}
use Rattle.ecp_history.specs.table.Steps.{table_of}
use Rattle.ecp_plan.specs.declared.hop.Hop.{Hop}
use Rattle.ecp_plan.specs.declared.plan.Plan.{Plan}
use Rattle.ecp_catalog.specs.Catalogs.{CatalogState}
use Rattle.ecp_catalog.specs.Stamps.{IsRaised}
use Rattle.ecp_sequencer.specs.Facts.{room_noted}
use Rattle.ecp_sequencer.specs.Passes.{PassState}
use Rattle.ecp_sequencer.specs.Sequencers.{Agrees, SequencerState}
use Rattle.ecp_coord.specs.declared.replanned.Replanned.{Replanned}
use Rattle.ecp_coord.specs.declared.replanned.Replanned.TheVariants.{StillGood}
use Rattle.ecp_coord.specs.Attempts.{IsNext}
use Rattle.ecp_coord.specs.Calls.{EndsAny, HasOpen}
use Rattle.ecp_coord.specs.Coords.{CoordParts, CoordState, IsCoord, heard, parts_of}
use Rattle.ecp_coord.specs.Plans.{Did, IsPlanned, Replans, Stands, end_of, first_void, found_by_moving, found_by_replanning, planning_of}
use Rattle.ecp_coord.proofs.AttemptLaws.{state}
use Rattle.ecp_coord.proofs.CallLaws.{planned_free, planned_kept, waited_kept}
use Rattle.ecp_coord.proofs.FollowLaws.{IsMet, its_own}
use Rattle.ecp_coord.proofs.KeepLaws.{with_catalog}
use Rattle.ecp_coord.proofs.NextLaws.{ends_met, noted_met}
use Rattle.ecp_coord.proofs.PlanningLaws.{event_met}
use Rattle.ecp_coord.proofs.RefuseLaws.{given_up_kept}
use Rattle.ecp_coord.proofs.ReplanLaws.{end_stores, few_attempts, first_is, given_up_now, goes_met, goes_on, next_can, next_met, next_stamped, replans_now, stands_now, with_plan_front, with_voids}
use Rattle.ecp_coord.proofs.coord.Coord.replan.Goals as goal

pub renew-requires : goal.renew-requires
renew-requires g c =
    let s : SequencerState = c.self.inside.sequencer in
    let same : c.meet_front.new.self ≡ s = c.meet_front.ensures.same ∙ c.meet.ensures.same in
    subst (λ (x : SequencerState). Agrees x c.meet.new.pass) (sym same) (subst (λ (q : PassState). Agrees s q) (sym c.meet.ensures.pass) c.meet.ensures.agree)

pub invariant_of-self : goal.invariant_of-self
invariant_of-self g c =
    let shape : Shape = g.N.Names.shape in
    let told : Bool = g.N.Names.told in
    let callers : ℕ = g.N.Names.callers in
    let spares : ℕ = g.N.Names.spare_hands in
    let s : SequencerState = c.self.inside.sequencer in
    let v : PassState = c.args.pass.now in
    let p : CoordParts = parts_of c.self.inside.catalog c.self.inside.hands c.self.inside.slice c.self.inside.nodes.items c.self.inside.stripes c.self.inside.promises.items in
    let is : IsCoord shape told callers spares s p = c.self.invariant in
    let met : IsMet shape told callers spares s v = record { agree = c.meet.ensures.agree; kept = c.meet.ensures.kept; session = c.meet.ensures.session; own = its_own spares v c.meet.ensures.places c.requires.is_open.whole; in_range = c.meet.ensures.in_range } in
    let same : c.meet_front.new.self ≡ s = c.meet_front.ensures.same ∙ c.meet.ensures.same in
    waited_kept shape told callers spares s c.renew.new.self v c.renew.new.pass p is met (event_met shape told s c.meet_front.new.self c.renew.new.self v c.meet.new.pass c.renew.new.pass same c.meet.ensures.pass [] c.renew.ensures.event)

pub returns-in_default-clause-answer : goal.returns-in_default-clause-answer
returns-in_default-clause-answer g c =
    let shape : Shape = g.N.Names.shape in
    let told : Bool = g.N.Names.told in
    let callers : ℕ = g.N.Names.callers in
    let spares : ℕ = g.N.Names.spare_hands in
    let s : SequencerState = c.self.inside.sequencer in
    let v : PassState = c.args.pass.now in
    let plan : Plan g.row.N.Denot = c.args.plan.now in
    let planned : IsPlanned shape told v plan = c.requires in
    let p : CoordParts = parts_of c.self.inside.catalog c.self.inside.hands c.self.inside.slice c.self.inside.nodes.items c.self.inside.stripes c.self.inside.promises.items in
    let is : IsCoord shape told callers spares s p = c.self.invariant in
    let met : IsMet shape told callers spares s v = record { agree = c.meet.ensures.agree; kept = c.meet.ensures.kept; session = c.meet.ensures.session; own = its_own spares v c.meet.ensures.places c.requires.is_open.whole; in_range = c.meet.ensures.in_range } in
    let begins : IsPrefix plan.front.items s.history = subst (λ (x : SequencerState). IsPrefix plan.front.items x.history) c.meet.ensures.same c.meet_front.ensures.begins in
    let first : c.first_void.result ≡ first_void plan (history_of s.history) = c.first_void.ensures ∙ first_is shape told callers spares s v p is met plan planned begins in
    let none : first_void plan (history_of s.history) ≡ None = sym first ∙ c.in_default.is in
    ap (λ (o : Option ℕ). cond (is_none o) StillGood (found_by_moving shape (table_of shape (history_of s.history)) plan)) (sym none)
    ∙ ap (λ (x : CoordState). found_by_replanning shape (history_of x.sequence.history) plan) c.self.view_is

pub returns-in_default-clause-done : goal.returns-in_default-clause-done
returns-in_default-clause-done g c =
    let shape : Shape = g.N.Names.shape in
    let told : Bool = g.N.Names.told in
    let s : SequencerState = c.self.inside.sequencer in
    let v : PassState = c.args.pass.now in
    let plan : Plan g.row.N.Denot = c.args.plan.now in
    let same : c.meet_front.new.self ≡ s = c.meet_front.ensures.same ∙ c.meet.ensures.same in
    subst (λ (x : CoordState). Stands shape told x v plan (with_plan_front plan c.meet_front.new.front) (state c.renew.new.self c.self.inside.stamps c.self.inside.repairs c.self.inside.stripes c.self.inside.slice c.self.inside.cyclic (heard c.self.inside.nodes.items)) c.renew.new.pass) c.self.view_is
    (stands_now shape told s c.meet_front.new.self c.renew.new.self v c.meet.new.pass c.renew.new.pass c.self.inside.stamps c.self.inside.repairs c.self.inside.stripes c.self.inside.slice c.self.inside.cyclic (heard c.self.inside.nodes.items) plan c.meet_front.new.front same c.meet.ensures.pass
    c.meet_front.ensures.front c.renew.ensures.event c.renew.ensures.pass)

pub push-requires : goal.push-requires
push-requires g c =
    let shape : Shape = g.N.Names.shape in
    let told : Bool = g.N.Names.told in
    let v : PassState = c.args.pass.now in
    let plan : Plan g.row.N.Denot = c.args.plan.now in
    let planned : IsPlanned shape told v plan = c.requires in
    omega (arith, planned.attempt, planned.most)

pub next_attempt-requires-clause-agree : goal.next_attempt-requires-clause-agree
next_attempt-requires-clause-agree g c =
    let s : SequencerState = c.self.inside.sequencer in
    let same : c.meet_front.new.self ≡ s = c.meet_front.ensures.same ∙ c.meet.ensures.same in
    subst (λ (x : SequencerState). Agrees x c.meet.new.pass) (sym same) (subst (λ (q : PassState). Agrees s q) (sym c.meet.ensures.pass) c.meet.ensures.agree)

pub next_attempt-requires-clause-room : goal.next_attempt-requires-clause-room
next_attempt-requires-clause-room g c =
    let shape : Shape = g.N.Names.shape in
    let told : Bool = g.N.Names.told in
    let v : PassState = c.args.pass.now in
    let plan : Plan g.row.N.Denot = c.args.plan.now in
    let planned : IsPlanned shape told v plan = c.requires in
    let some : 1 ≤ room_noted v.notes = omega (arith, planned.room, planned.most) in
    subst (λ (q : PassState). 1 ≤ room_noted q.notes) (sym c.meet.ensures.pass) some

pub next_attempt-requires-clause-can : goal.next_attempt-requires-clause-can
next_attempt-requires-clause-can g c =
    let shape : Shape = g.N.Names.shape in
    let told : Bool = g.N.Names.told in
    let callers : ℕ = g.N.Names.callers in
    let spares : ℕ = g.N.Names.spare_hands in
    let s : SequencerState = c.self.inside.sequencer in
    let v : PassState = c.args.pass.now in
    let plan : Plan g.row.N.Denot = c.args.plan.now in
    let planned : IsPlanned shape told v plan = c.requires in
    let p : CoordParts = parts_of c.self.inside.catalog c.self.inside.hands c.self.inside.slice c.self.inside.nodes.items c.self.inside.stripes c.self.inside.promises.items in
    let is : IsCoord shape told callers spares s p = c.self.invariant in
    let met : IsMet shape told callers spares s v = record { agree = c.meet.ensures.agree; kept = c.meet.ensures.kept; session = c.meet.ensures.session; own = its_own spares v c.meet.ensures.places c.requires.is_open.whole; in_range = c.meet.ensures.in_range } in
    let begins : IsPrefix plan.front.items s.history = subst (λ (x : SequencerState). IsPrefix plan.front.items x.history) c.meet.ensures.same c.meet_front.ensures.begins in
    let first : c.first_void.result ≡ first_void plan (history_of s.history) = c.first_void.ensures ∙ first_is shape told callers spares s v p is met plan planned begins in
    let at : first_void plan (history_of s.history) ≡ Some c.in-Some.at = sym first ∙ c.in-Some.is in
    let found : c.find-found.result ≡ found_by_moving shape (table_of shape (history_of s.history)) plan = c.find-found.ensures shape told (history_of s.history) is.outline in
    let on = goes_on shape told callers spares s v p is met plan planned begins c.in-Some.at at c.push.new.voids c.push.ensures.len c.push.ensures.kept c.push.ensures.rest c.find-found.result found (sym c.act.ensures ∙ c.in_default-act.is) in
    next_can shape told callers spares s v p is met plan planned begins on.1

pub next_attempt-requires-clause-fits : goal.next_attempt-requires-clause-fits
next_attempt-requires-clause-fits g c =
    let shape : Shape = g.N.Names.shape in
    let told : Bool = g.N.Names.told in
    let callers : ℕ = g.N.Names.callers in
    let spares : ℕ = g.N.Names.spare_hands in
    let s : SequencerState = c.self.inside.sequencer in
    let v : PassState = c.args.pass.now in
    let plan : Plan g.row.N.Denot = c.args.plan.now in
    let planned : IsPlanned shape told v plan = c.requires in
    let p : CoordParts = parts_of c.self.inside.catalog c.self.inside.hands c.self.inside.slice c.self.inside.nodes.items c.self.inside.stripes c.self.inside.promises.items in
    let is : IsCoord shape told callers spares s p = c.self.invariant in
    omega (arith, planned.fits, ap (λ (z : Shape). z.k) is.outline.sizes)

pub next_attempt-requires-clause-most : goal.next_attempt-requires-clause-most
next_attempt-requires-clause-most g c =
    let shape : Shape = g.N.Names.shape in
    let told : Bool = g.N.Names.told in
    let callers : ℕ = g.N.Names.callers in
    let spares : ℕ = g.N.Names.spare_hands in
    let s : SequencerState = c.self.inside.sequencer in
    let v : PassState = c.args.pass.now in
    let plan : Plan g.row.N.Denot = c.args.plan.now in
    let planned : IsPlanned shape told v plan = c.requires in
    let p : CoordParts = parts_of c.self.inside.catalog c.self.inside.hands c.self.inside.slice c.self.inside.nodes.items c.self.inside.stripes c.self.inside.promises.items in
    let is : IsCoord shape told callers spares s p = c.self.invariant in
    let met : IsMet shape told callers spares s v = record { agree = c.meet.ensures.agree; kept = c.meet.ensures.kept; session = c.meet.ensures.session; own = its_own spares v c.meet.ensures.places c.requires.is_open.whole; in_range = c.meet.ensures.in_range } in
    let begins : IsPrefix plan.front.items s.history = subst (λ (x : SequencerState). IsPrefix plan.front.items x.history) c.meet.ensures.same c.meet_front.ensures.begins in
    let first : c.first_void.result ≡ first_void plan (history_of s.history) = c.first_void.ensures ∙ first_is shape told callers spares s v p is met plan planned begins in
    let at : first_void plan (history_of s.history) ≡ Some c.in-Some.at = sym first ∙ c.in-Some.is in
    let found : c.find-found.result ≡ found_by_moving shape (table_of shape (history_of s.history)) plan = c.find-found.ensures shape told (history_of s.history) is.outline in
    let on = goes_on shape told callers spares s v p is met plan planned begins c.in-Some.at at c.push.new.voids c.push.ensures.len c.push.ensures.kept c.push.ensures.rest c.find-found.result found (sym c.act.ensures ∙ c.in_default-act.is) in
    few_attempts plan.attempt plan.voids.len planned.attempt planned.most on.2

pub raise-requires : goal.raise-requires
raise-requires g c =
    let shape : Shape = g.N.Names.shape in
    let told : Bool = g.N.Names.told in
    let callers : ℕ = g.N.Names.callers in
    let spares : ℕ = g.N.Names.spare_hands in
    let s : SequencerState = c.self.inside.sequencer in
    let v : PassState = c.args.pass.now in
    let plan : Plan g.row.N.Denot = c.args.plan.now in
    let planned : IsPlanned shape told v plan = c.requires in
    let p : CoordParts = parts_of c.self.inside.catalog c.self.inside.hands c.self.inside.slice c.self.inside.nodes.items c.self.inside.stripes c.self.inside.promises.items in
    let is : IsCoord shape told callers spares s p = c.self.invariant in
    let met : IsMet shape told callers spares s v = record { agree = c.meet.ensures.agree; kept = c.meet.ensures.kept; session = c.meet.ensures.session; own = its_own spares v c.meet.ensures.places c.requires.is_open.whole; in_range = c.meet.ensures.in_range } in
    let same : c.meet_front.new.self ≡ s = c.meet_front.ensures.same ∙ c.meet.ensures.same in
    let begins : IsPrefix plan.front.items s.history = subst (λ (x : SequencerState). IsPrefix plan.front.items x.history) c.meet.ensures.same c.meet_front.ensures.begins in
    let first : c.first_void.result ≡ first_void plan (history_of s.history) = c.first_void.ensures ∙ first_is shape told callers spares s v p is met plan planned begins in
    let at : first_void plan (history_of s.history) ≡ Some c.in-Some.at = sym first ∙ c.in-Some.is in
    let next : IsNext c.self.inside.catalog c.self.inside.stamps.stamps c.self.inside.cyclic s.history (with_voids plan c.push.new.voids) c.next_attempt.new.plan =
    next_met shape told callers spares s v p is met plan planned begins c.in-Some.at at c.push.new.voids c.push.ensures.len c.push.ensures.kept c.push.ensures.rest c.meet_front.new.self c.self.inside.stamps.stamps c.self.inside.cyclic c.meet_front.new.front c.next_attempt.new.plan same c.meet_front.ensures.front c.next_attempt.ensures.plan in
    subst (λ (hops : List (Hop g.row.N.Denot)). All (λ hop. hop.node < MAX_NODES) hops) (sym c.deref.ensures.value)
    (next_stamped shape told callers spares s v p is met plan planned begins c.in-Some.at at c.push.new.voids c.push.ensures.len c.push.ensures.kept c.push.ensures.rest c.self.inside.stamps c.self.inside.cyclic c.next_attempt.new.plan next)

pub invariant_of-self-in_default-act : goal.invariant_of-self-in_default-act
invariant_of-self-in_default-act g c =
    let shape : Shape = g.N.Names.shape in
    let told : Bool = g.N.Names.told in
    let callers : ℕ = g.N.Names.callers in
    let spares : ℕ = g.N.Names.spare_hands in
    let s : SequencerState = c.self.inside.sequencer in
    let v : PassState = c.args.pass.now in
    let plan : Plan g.row.N.Denot = c.args.plan.now in
    let planned : IsPlanned shape told v plan = c.requires in
    let p : CoordParts = parts_of c.self.inside.catalog c.self.inside.hands c.self.inside.slice c.self.inside.nodes.items c.self.inside.stripes c.self.inside.promises.items in
    let is : IsCoord shape told callers spares s p = c.self.invariant in
    let met : IsMet shape told callers spares s v = record { agree = c.meet.ensures.agree; kept = c.meet.ensures.kept; session = c.meet.ensures.session; own = its_own spares v c.meet.ensures.places c.requires.is_open.whole; in_range = c.meet.ensures.in_range } in
    let same : c.meet_front.new.self ≡ s = c.meet_front.ensures.same ∙ c.meet.ensures.same in
    let begins : IsPrefix plan.front.items s.history = subst (λ (x : SequencerState). IsPrefix plan.front.items x.history) c.meet.ensures.same c.meet_front.ensures.begins in
    let event = noted_met shape told s c.meet_front.new.self c.next_attempt.new.sequencer v c.meet.new.pass c.next_attempt.new.pass same (planning_of c.next_attempt.new.plan) c.meet.ensures.pass
    c.next_attempt.ensures.event in
    subst (λ (d : CatalogState). IsCoord shape told callers spares c.next_attempt.new.sequencer (with_catalog p d)) (sym c.next_attempt.ensures.kept)
    (planned_kept shape told callers spares s c.next_attempt.new.sequencer v c.next_attempt.new.pass p is met planned.asked (place_of plan.part) (room_noted v.notes - 1) c.next_attempt.new.plan planned.is_open
    planned.of_block event)

pub returns-in_default-act-clause-answer : goal.returns-in_default-act-clause-answer
returns-in_default-act-clause-answer g c =
    let shape : Shape = g.N.Names.shape in
    let told : Bool = g.N.Names.told in
    let callers : ℕ = g.N.Names.callers in
    let spares : ℕ = g.N.Names.spare_hands in
    let s : SequencerState = c.self.inside.sequencer in
    let v : PassState = c.args.pass.now in
    let plan : Plan g.row.N.Denot = c.args.plan.now in
    let planned : IsPlanned shape told v plan = c.requires in
    let p : CoordParts = parts_of c.self.inside.catalog c.self.inside.hands c.self.inside.slice c.self.inside.nodes.items c.self.inside.stripes c.self.inside.promises.items in
    let is : IsCoord shape told callers spares s p = c.self.invariant in
    let met : IsMet shape told callers spares s v = record { agree = c.meet.ensures.agree; kept = c.meet.ensures.kept; session = c.meet.ensures.session; own = its_own spares v c.meet.ensures.places c.requires.is_open.whole; in_range = c.meet.ensures.in_range } in
    let begins : IsPrefix plan.front.items s.history = subst (λ (x : SequencerState). IsPrefix plan.front.items x.history) c.meet.ensures.same c.meet_front.ensures.begins in
    let first : c.first_void.result ≡ first_void plan (history_of s.history) = c.first_void.ensures ∙ first_is shape told callers spares s v p is met plan planned begins in
    let at : first_void plan (history_of s.history) ≡ Some c.in-Some.at = sym first ∙ c.in-Some.is in
    let found : c.find-found.result ≡ found_by_moving shape (table_of shape (history_of s.history)) plan = c.find-found.ensures shape told (history_of s.history) is.outline in
    found ∙ ap (λ (o : Option ℕ). cond (is_none o) StillGood (found_by_moving shape (table_of shape (history_of s.history)) plan)) (sym at)
    ∙ ap (λ (x : CoordState). found_by_replanning shape (history_of x.sequence.history) plan) c.self.view_is

pub returns-in_default-act-clause-done : goal.returns-in_default-act-clause-done
returns-in_default-act-clause-done g c =
    let shape : Shape = g.N.Names.shape in
    let told : Bool = g.N.Names.told in
    let callers : ℕ = g.N.Names.callers in
    let spares : ℕ = g.N.Names.spare_hands in
    let s : SequencerState = c.self.inside.sequencer in
    let v : PassState = c.args.pass.now in
    let plan : Plan g.row.N.Denot = c.args.plan.now in
    let planned : IsPlanned shape told v plan = c.requires in
    let p : CoordParts = parts_of c.self.inside.catalog c.self.inside.hands c.self.inside.slice c.self.inside.nodes.items c.self.inside.stripes c.self.inside.promises.items in
    let is : IsCoord shape told callers spares s p = c.self.invariant in
    let met : IsMet shape told callers spares s v = record { agree = c.meet.ensures.agree; kept = c.meet.ensures.kept; session = c.meet.ensures.session; own = its_own spares v c.meet.ensures.places c.requires.is_open.whole; in_range = c.meet.ensures.in_range } in
    let same : c.meet_front.new.self ≡ s = c.meet_front.ensures.same ∙ c.meet.ensures.same in
    let begins : IsPrefix plan.front.items s.history = subst (λ (x : SequencerState). IsPrefix plan.front.items x.history) c.meet.ensures.same c.meet_front.ensures.begins in
    let first : c.first_void.result ≡ first_void plan (history_of s.history) = c.first_void.ensures ∙ first_is shape told callers spares s v p is met plan planned begins in
    let at : first_void plan (history_of s.history) ≡ Some c.in-Some.at = sym first ∙ c.in-Some.is in
    let found : c.find-found.result ≡ found_by_moving shape (table_of shape (history_of s.history)) plan = c.find-found.ensures shape told (history_of s.history) is.outline in
    let on = goes_on shape told callers spares s v p is met plan planned begins c.in-Some.at at c.push.new.voids c.push.ensures.len c.push.ensures.kept c.push.ensures.rest c.find-found.result found (sym c.act.ensures ∙ c.in_default-act.is) in
    let next : IsNext c.self.inside.catalog c.self.inside.stamps.stamps c.self.inside.cyclic s.history (with_voids plan c.push.new.voids) c.next_attempt.new.plan =
    next_met shape told callers spares s v p is met plan planned begins c.in-Some.at at c.push.new.voids c.push.ensures.len c.push.ensures.kept c.push.ensures.rest c.meet_front.new.self c.self.inside.stamps.stamps c.self.inside.cyclic c.meet_front.new.front c.next_attempt.new.plan same c.meet_front.ensures.front c.next_attempt.ensures.plan in
    let raised : IsRaised c.self.inside.stamps c.raise.new.self (map (λ h. h.node) c.next_attempt.new.plan.hops.items) =
    subst (λ (hops : List (Hop g.row.N.Denot)). IsRaised c.self.inside.stamps c.raise.new.self (map (λ h. h.node) hops)) c.deref.ensures.value c.raise.ensures in
    subst (λ (r : Replanned). Did shape told c.args.self.now v plan c.next_attempt.new.plan (state c.next_attempt.new.sequencer c.raise.new.self c.self.inside.repairs c.self.inside.stripes c.self.inside.slice c.self.inside.cyclic (heard c.self.inside.nodes.items)) c.next_attempt.new.pass r) (sym on.0)
    (subst (λ (x : CoordState). Replans shape told x v plan c.next_attempt.new.plan (state c.next_attempt.new.sequencer c.raise.new.self c.self.inside.repairs c.self.inside.stripes c.self.inside.slice c.self.inside.cyclic (heard c.self.inside.nodes.items)) c.next_attempt.new.pass) c.self.view_is
    (replans_now shape told callers spares s v p is met plan planned begins c.in-Some.at at c.push.new.voids c.push.ensures.len c.push.ensures.kept c.push.ensures.rest c.meet_front.new.self c.next_attempt.new.sequencer c.meet.new.pass c.next_attempt.new.pass c.self.inside.stamps c.raise.new.self c.self.inside.repairs c.self.inside.stripes c.self.inside.slice c.self.inside.cyclic (heard c.self.inside.nodes.items) c.next_attempt.new.plan same
    c.meet.ensures.pass next on.1 on.2 c.next_attempt.ensures.event c.next_attempt.ensures.calls raised))

pub end_with-requires-clause-agree : goal.end_with-requires-clause-agree
end_with-requires-clause-agree g c =
    let s : SequencerState = c.self.inside.sequencer in
    let same : c.meet_front.new.self ≡ s = c.meet_front.ensures.same ∙ c.meet.ensures.same in
    subst (λ (x : SequencerState). Agrees x c.meet.new.pass) (sym same) (subst (λ (q : PassState). Agrees s q) (sym c.meet.ensures.pass) c.meet.ensures.agree)

pub end_with-requires-clause-has_open : goal.end_with-requires-clause-has_open
end_with-requires-clause-has_open g c =
    let shape : Shape = g.N.Names.shape in
    let told : Bool = g.N.Names.told in
    let v : PassState = c.args.pass.now in
    let plan : Plan g.row.N.Denot = c.args.plan.now in
    let planned : IsPlanned shape told v plan = c.requires in
    subst (λ (q : PassState). HasOpen q) (sym c.meet.ensures.pass) (planned.asked, planned.is_open)

pub end_with-requires-clause-stores : goal.end_with-requires-clause-stores
end_with-requires-clause-stores g c =
    let says : end_of c.push.new.voids c.find-found.result ≡ Some c.in-Some-act.act = sym c.act.ensures ∙ c.in-Some-act.is in
    end_stores c.push.new.voids c.find-found.result c.in-Some-act.act says

pub end_with-requires-clause-follows : goal.end_with-requires-clause-follows
end_with-requires-clause-follows g c =
    let shape : Shape = g.N.Names.shape in
    let told : Bool = g.N.Names.told in
    let callers : ℕ = g.N.Names.callers in
    let spares : ℕ = g.N.Names.spare_hands in
    let s : SequencerState = c.self.inside.sequencer in
    let v : PassState = c.args.pass.now in
    let plan : Plan g.row.N.Denot = c.args.plan.now in
    let planned : IsPlanned shape told v plan = c.requires in
    let p : CoordParts = parts_of c.self.inside.catalog c.self.inside.hands c.self.inside.slice c.self.inside.nodes.items c.self.inside.stripes c.self.inside.promises.items in
    let is : IsCoord shape told callers spares s p = c.self.invariant in
    let met : IsMet shape told callers spares s v = record { agree = c.meet.ensures.agree; kept = c.meet.ensures.kept; session = c.meet.ensures.session; own = its_own spares v c.meet.ensures.places c.requires.is_open.whole; in_range = c.meet.ensures.in_range } in
    let same : c.meet_front.new.self ≡ s = c.meet_front.ensures.same ∙ c.meet.ensures.same in
    let begins : IsPrefix plan.front.items s.history = subst (λ (x : SequencerState). IsPrefix plan.front.items x.history) c.meet.ensures.same c.meet_front.ensures.begins in
    let first : c.first_void.result ≡ first_void plan (history_of s.history) = c.first_void.ensures ∙ first_is shape told callers spares s v p is met plan planned begins in
    let at : first_void plan (history_of s.history) ≡ Some c.in-Some.at = sym first ∙ c.in-Some.is in
    let found : c.find-found.result ≡ found_by_moving shape (table_of shape (history_of s.history)) plan = c.find-found.ensures shape told (history_of s.history) is.outline in
    let says : end_of c.push.new.voids c.find-found.result ≡ Some c.in-Some-act.act = sym c.act.ensures ∙ c.in-Some-act.is in
    goes_met shape told callers spares s v p is met plan planned begins c.in-Some.at at c.push.new.voids c.push.ensures.len c.push.ensures.kept c.push.ensures.rest c.meet_front.new.self c.meet.new.pass c.len-position.result same c.meet.ensures.pass c.len-position.ensures c.find-found.result found c.in-Some-act.act says

pub invariant_of-self-2 : goal.invariant_of-self-2
invariant_of-self-2 g c =
    let shape : Shape = g.N.Names.shape in
    let told : Bool = g.N.Names.told in
    let callers : ℕ = g.N.Names.callers in
    let spares : ℕ = g.N.Names.spare_hands in
    let s : SequencerState = c.self.inside.sequencer in
    let v : PassState = c.args.pass.now in
    let p : CoordParts = parts_of c.self.inside.catalog c.self.inside.hands c.self.inside.slice c.self.inside.nodes.items c.self.inside.stripes c.self.inside.promises.items in
    let is : IsCoord shape told callers spares s p = c.self.invariant in
    let met : IsMet shape told callers spares s v = record { agree = c.meet.ensures.agree; kept = c.meet.ensures.kept; session = c.meet.ensures.session; own = its_own spares v c.meet.ensures.places c.requires.is_open.whole; in_range = c.meet.ensures.in_range } in
    let same : c.meet_front.new.self ≡ s = c.meet_front.ensures.same ∙ c.meet.ensures.same in
    let says : end_of c.push.new.voids c.find-found.result ≡ Some c.in-Some-act.act = sym c.act.ensures ∙ c.in-Some-act.is in
    let ends : EndsAny shape told s v c.args.plan.now.part c.in-Some-act.act c.end_with.new.sequencer c.end_with.new.pass =
    ends_met shape told s c.meet_front.new.self c.end_with.new.sequencer v c.meet.new.pass c.end_with.new.pass same c.args.plan.now.part c.len-position.result c.in-Some-act.act c.meet.ensures.pass c.len-position.ensures c.end_with.ensures in
    given_up_kept shape told callers spares s c.end_with.new.sequencer v c.end_with.new.pass p is met (planned_free shape told v c.args.plan.now c.requires) c.requires.asked c.args.plan.now.part c.requires.is_open c.requires.of_block c.push.new.voids c.find-found.result c.in-Some-act.act says ends

pub returns-clause-answer : goal.returns-clause-answer
returns-clause-answer g c =
    let shape : Shape = g.N.Names.shape in
    let told : Bool = g.N.Names.told in
    let callers : ℕ = g.N.Names.callers in
    let spares : ℕ = g.N.Names.spare_hands in
    let s : SequencerState = c.self.inside.sequencer in
    let v : PassState = c.args.pass.now in
    let plan : Plan g.row.N.Denot = c.args.plan.now in
    let planned : IsPlanned shape told v plan = c.requires in
    let p : CoordParts = parts_of c.self.inside.catalog c.self.inside.hands c.self.inside.slice c.self.inside.nodes.items c.self.inside.stripes c.self.inside.promises.items in
    let is : IsCoord shape told callers spares s p = c.self.invariant in
    let met : IsMet shape told callers spares s v = record { agree = c.meet.ensures.agree; kept = c.meet.ensures.kept; session = c.meet.ensures.session; own = its_own spares v c.meet.ensures.places c.requires.is_open.whole; in_range = c.meet.ensures.in_range } in
    let begins : IsPrefix plan.front.items s.history = subst (λ (x : SequencerState). IsPrefix plan.front.items x.history) c.meet.ensures.same c.meet_front.ensures.begins in
    let first : c.first_void.result ≡ first_void plan (history_of s.history) = c.first_void.ensures ∙ first_is shape told callers spares s v p is met plan planned begins in
    let at : first_void plan (history_of s.history) ≡ Some c.in-Some.at = sym first ∙ c.in-Some.is in
    let found : c.find-found.result ≡ found_by_moving shape (table_of shape (history_of s.history)) plan = c.find-found.ensures shape told (history_of s.history) is.outline in
    found ∙ ap (λ (o : Option ℕ). cond (is_none o) StillGood (found_by_moving shape (table_of shape (history_of s.history)) plan)) (sym at)
    ∙ ap (λ (x : CoordState). found_by_replanning shape (history_of x.sequence.history) plan) c.self.view_is

pub returns-clause-done : goal.returns-clause-done
returns-clause-done g c =
    let shape : Shape = g.N.Names.shape in
    let told : Bool = g.N.Names.told in
    let callers : ℕ = g.N.Names.callers in
    let spares : ℕ = g.N.Names.spare_hands in
    let s : SequencerState = c.self.inside.sequencer in
    let v : PassState = c.args.pass.now in
    let plan : Plan g.row.N.Denot = c.args.plan.now in
    let planned : IsPlanned shape told v plan = c.requires in
    let p : CoordParts = parts_of c.self.inside.catalog c.self.inside.hands c.self.inside.slice c.self.inside.nodes.items c.self.inside.stripes c.self.inside.promises.items in
    let is : IsCoord shape told callers spares s p = c.self.invariant in
    let met : IsMet shape told callers spares s v = record { agree = c.meet.ensures.agree; kept = c.meet.ensures.kept; session = c.meet.ensures.session; own = its_own spares v c.meet.ensures.places c.requires.is_open.whole; in_range = c.meet.ensures.in_range } in
    let same : c.meet_front.new.self ≡ s = c.meet_front.ensures.same ∙ c.meet.ensures.same in
    let begins : IsPrefix plan.front.items s.history = subst (λ (x : SequencerState). IsPrefix plan.front.items x.history) c.meet.ensures.same c.meet_front.ensures.begins in
    let first : c.first_void.result ≡ first_void plan (history_of s.history) = c.first_void.ensures ∙ first_is shape told callers spares s v p is met plan planned begins in
    let at : first_void plan (history_of s.history) ≡ Some c.in-Some.at = sym first ∙ c.in-Some.is in
    let says : end_of c.push.new.voids c.find-found.result ≡ Some c.in-Some-act.act = sym c.act.ensures ∙ c.in-Some-act.is in
    let ends : EndsAny shape told s v c.args.plan.now.part c.in-Some-act.act c.end_with.new.sequencer c.end_with.new.pass =
    ends_met shape told s c.meet_front.new.self c.end_with.new.sequencer v c.meet.new.pass c.end_with.new.pass same c.args.plan.now.part c.len-position.result c.in-Some-act.act c.meet.ensures.pass c.len-position.ensures c.end_with.ensures in
    subst (λ (x : CoordState). Did shape told x v plan (with_plan_front (with_voids plan c.push.new.voids) c.meet_front.new.front) (state c.end_with.new.sequencer c.self.inside.stamps c.self.inside.repairs c.self.inside.stripes c.self.inside.slice c.self.inside.cyclic (heard c.self.inside.nodes.items)) c.end_with.new.pass c.find-found.result) c.self.view_is
    (given_up_now shape told callers spares s v p is met plan planned begins c.in-Some.at at c.push.new.voids c.push.ensures.len c.push.ensures.kept c.push.ensures.rest c.end_with.new.sequencer c.end_with.new.pass c.self.inside.stamps c.self.inside.repairs c.self.inside.stripes c.self.inside.slice c.self.inside.cyclic (heard c.self.inside.nodes.items) c.meet_front.new.front c.find-found.result c.in-Some-act.act c.meet_front.ensures.front says ends)
