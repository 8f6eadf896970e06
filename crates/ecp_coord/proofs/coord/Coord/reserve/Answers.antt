use Rattle.std.proofs.Common.{◌≡◌, ℕ, ◌+◌, ◌-◌, ◌*◌, ◌≤◌, Bool, List, [], replicate, set, None, refl, sym, ◌∙◌, ap, subst, arith}
use Rattle.std.specs.Prelude.{sum}
use Rattle.ecp_shape.specs.declared.limits.TheConstants.{MAX_ATTEMPTS}
use Rattle.ecp_shape.specs.declared.shape.Shape.{Shape}
use Rattle.ecp_book.specs.Logs.{Known, Log, history_log}
use Rattle.ecp_entry.specs.declared.deed.Deed.TheVariants.{Put}
use Rattle.ecp_history.specs.Fronts.{told_table}
use Rattle.ecp_catalog.specs.declared.limits.TheConstants.{END_OF_STRIPES}
use Rattle.ecp_catalog.specs.Catalogs.{CatalogState}
use Rattle.ecp_plan.specs.declared.voids.Voids.{Voids}
use Rattle.ecp_sequencer.specs.declared.limits.TheConstants.{ROOM}
use Rattle.ecp_sequencer.specs.Passes.{PassState}
use Rattle.ecp_sequencer.specs.Sequencers.{Agrees, SequencerState}
use Rattle.ecp_sequencer.specs.Steps.{Event}
use Rattle.ecp_coord.specs.Coords.{CoordParts, CoordState, IsCoord, heard, parts_of}
use Rattle.ecp_coord.specs.Puts.{IsPlacedNow, Reserves, booking_of, hindered}
use Rattle.ecp_coord.specs.Refusals.{Refuses}
use Rattle.ecp_coord.proofs.FollowLaws.{IsMet, its_own}
use Rattle.ecp_coord.proofs.PlaceLaws.{refuses_by, seen, stood_kept}
use Rattle.ecp_coord.proofs.ReserveLaws.{FirstMade, FrontRenewed, first_coord, first_fits, first_reserves, renewed_booked, renewed_event, renewed_front, renewed_noted, renewed_pass, reserved_outline, reserved_room, reserved_serves, with_booking}
use Rattle.ecp_coord.proofs.coord.Coord.reserve.Goals as goal

pub renew-requires : goal.renew-requires
renew-requires g c =
    subst (λ (x : SequencerState). Agrees x c.meet.new.pass) (sym c.meet.ensures.same) (subst (λ (q : PassState). Agrees c.self.inside.sequencer q) (sym c.meet.ensures.pass) c.meet.ensures.agree)

pub make_room-requires : goal.make_room-requires
make_room-requires g c =
    let shape : Shape = g.N.Names.shape in
    let told : Bool = g.N.Names.told in
    let callers : ℕ = g.N.Names.callers in
    let spares : ℕ = g.N.Names.spare_hands in
    let s : SequencerState = c.self.inside.sequencer in
    let v : PassState = c.args.pass.now in
    let p : CoordParts = parts_of c.self.inside.catalog c.self.inside.hands c.self.inside.slice c.self.inside.nodes.items c.self.inside.stripes c.self.inside.promises.items in
    subst (λ (xs : List ℕ). c.self.inside.stripes + sum xs ≤ END_OF_STRIPES) (sym c.deref.ensures.value) c.self.invariant.booked.numbers

pub note_taking-requires-clause-agree : goal.note_taking-requires-clause-agree
note_taking-requires-clause-agree g c =
    subst (λ (q : PassState). Agrees c.renew.new.self q) (sym c.front-front.ensures.kept) c.renew.ensures.event.agrees

pub invariant_of-self : goal.invariant_of-self
invariant_of-self g c =
    let shape : Shape = g.N.Names.shape in
    let told : Bool = g.N.Names.told in
    let callers : ℕ = g.N.Names.callers in
    let spares : ℕ = g.N.Names.spare_hands in
    let s : SequencerState = c.self.inside.sequencer in
    let v : PassState = c.args.pass.now in
    let p : CoordParts = parts_of c.self.inside.catalog c.self.inside.hands c.self.inside.slice c.self.inside.nodes.items c.self.inside.stripes c.self.inside.promises.items in
    subst (λ (e : CatalogState). IsCoord shape told callers spares c.renew.new.self (with_booking p e c.self.inside.stripes c.self.inside.promises.items)) (sym c.in-Err.ensures.err)
    (subst (λ (x : SequencerState). IsCoord shape told callers spares x p) (sym (c.renew.ensures.same ∙ c.meet.ensures.same)) c.self.invariant)

pub returns-in-Err-clause-err : goal.returns-in-Err-clause-err
returns-in-Err-clause-err g c =
    let shape : Shape = g.N.Names.shape in
    let told : Bool = g.N.Names.told in
    let callers : ℕ = g.N.Names.callers in
    let spares : ℕ = g.N.Names.spare_hands in
    let s : SequencerState = c.self.inside.sequencer in
    let v : PassState = c.args.pass.now in
    let p : CoordParts = parts_of c.self.inside.catalog c.self.inside.hands c.self.inside.slice c.self.inside.nodes.items c.self.inside.stripes c.self.inside.promises.items in
    let by : FrontRenewed shape told s c.meet.new.self c.renew.new.self v c.meet.new.pass c.renew.new.pass c.renew.new.pass = record {
      met_same = c.meet.ensures.same;
      met_pass = c.meet.ensures.pass;
      event = c.renew.ensures.event;
      same = c.renew.ensures.same;
      pass = c.renew.ensures.pass;
      copied = refl;
    } in
    let now : c.renew.new.pass ≡ record v { front = s.history } = renewed_pass shape told s c.meet.new.self c.renew.new.self v c.meet.new.pass c.renew.new.pass c.renew.new.pass by in
    let event : Event shape told s v [] [] c.renew.new.self c.renew.new.pass =
    subst (λ (q : PassState). Event shape told s v [] [] c.renew.new.self q) (sym now)
    (subst (λ (x : SequencerState). Event shape told s v [] [] x (record v { front = s.history })) (sym (c.renew.ensures.same ∙ c.meet.ensures.same))
    (renewed_event shape told s c.meet.new.self c.renew.new.self v c.meet.new.pass c.renew.new.pass c.renew.new.pass by)) in
    subst (λ (x : CoordState). Refuses shape told x v (Put c.args.name c.args.len) None (seen c.renew.new.self c.self.inside.stamps c.self.inside.repairs c.self.inside.stripes c.self.inside.slice c.self.inside.cyclic (heard c.self.inside.nodes.items)) c.renew.new.pass) c.self.view_is
    (refuses_by shape told s c.renew.new.self v c.renew.new.pass c.self.inside.stamps c.self.inside.repairs c.self.inside.stripes c.self.inside.slice c.self.inside.cyclic (heard c.self.inside.nodes.items) (Put c.args.name c.args.len) None event (ap (λ (q : PassState). q.calls) now))

pub invariant_of-self-in-Err-note_taking : goal.invariant_of-self-in-Err-note_taking
invariant_of-self-in-Err-note_taking g c =
    let shape : Shape = g.N.Names.shape in
    let told : Bool = g.N.Names.told in
    let callers : ℕ = g.N.Names.callers in
    let spares : ℕ = g.N.Names.spare_hands in
    let s : SequencerState = c.self.inside.sequencer in
    let v : PassState = c.args.pass.now in
    let p : CoordParts = parts_of c.self.inside.catalog c.self.inside.hands c.self.inside.slice c.self.inside.nodes.items c.self.inside.stripes c.self.inside.promises.items in
    let met : IsMet shape told callers spares s v = record {
      agree = c.meet.ensures.agree;
      kept = c.meet.ensures.kept;
      session = c.meet.ensures.session;
      own = its_own spares v c.meet.ensures.places c.requires.fresh.is_open.whole;
      in_range = c.meet.ensures.in_range;
    } in
    let by : FrontRenewed shape told s c.meet.new.self c.renew.new.self v c.meet.new.pass c.renew.new.pass c.front-front.new.self = record {
      met_same = c.meet.ensures.same;
      met_pass = c.meet.ensures.pass;
      event = c.renew.ensures.event;
      same = c.renew.ensures.same;
      pass = c.renew.ensures.pass;
      copied = c.front-front.ensures.kept;
    } in
    let d : CatalogState = c.make_room.new.catalog in
    let now : c.front-front.new.self ≡ record v { front = s.history } = renewed_pass shape told s c.meet.new.self c.renew.new.self v c.meet.new.pass c.renew.new.pass c.front-front.new.self by in
    let event : Event shape told s v [] [] c.note_taking.new.self c.note_taking.new.pass =
    renewed_noted shape told s c.meet.new.self c.renew.new.self c.note_taking.new.self v c.meet.new.pass c.renew.new.pass c.front-front.new.self c.note_taking.new.pass [] by c.in-Err-note_taking.ensures.err in
    stood_kept shape told callers spares s c.note_taking.new.self v c.note_taking.new.pass p d c.self.invariant met event
    (reserved_outline shape told p.catalog d s.history c.args.name p.hands c.self.invariant.outline c.in_default.ensures.ok c.make_room.ensures.nodes)
    (reserved_serves p.catalog d c.args.name p.hands c.in_default.ensures.ok c.make_room.ensures.nodes)
    (reserved_room shape.nodes p.catalog d s.notes c.make_room.ensures.nodes c.self.invariant.room)

pub returns-in-Err-note_taking-clause-err : goal.returns-in-Err-note_taking-clause-err
returns-in-Err-note_taking-clause-err g c =
    let shape : Shape = g.N.Names.shape in
    let told : Bool = g.N.Names.told in
    let callers : ℕ = g.N.Names.callers in
    let spares : ℕ = g.N.Names.spare_hands in
    let s : SequencerState = c.self.inside.sequencer in
    let v : PassState = c.args.pass.now in
    let p : CoordParts = parts_of c.self.inside.catalog c.self.inside.hands c.self.inside.slice c.self.inside.nodes.items c.self.inside.stripes c.self.inside.promises.items in
    let by : FrontRenewed shape told s c.meet.new.self c.renew.new.self v c.meet.new.pass c.renew.new.pass c.front-front.new.self = record {
      met_same = c.meet.ensures.same;
      met_pass = c.meet.ensures.pass;
      event = c.renew.ensures.event;
      same = c.renew.ensures.same;
      pass = c.renew.ensures.pass;
      copied = c.front-front.ensures.kept;
    } in
    let d : CatalogState = c.make_room.new.catalog in
    let now : c.front-front.new.self ≡ record v { front = s.history } = renewed_pass shape told s c.meet.new.self c.renew.new.self v c.meet.new.pass c.renew.new.pass c.front-front.new.self by in
    let event : Event shape told s v [] [] c.note_taking.new.self c.note_taking.new.pass =
    renewed_noted shape told s c.meet.new.self c.renew.new.self c.note_taking.new.self v c.meet.new.pass c.renew.new.pass c.front-front.new.self c.note_taking.new.pass [] by c.in-Err-note_taking.ensures.err in
    subst (λ (x : CoordState). Refuses shape told x v (Put c.args.name c.args.len) None (seen c.note_taking.new.self c.self.inside.stamps c.self.inside.repairs c.self.inside.stripes c.self.inside.slice c.self.inside.cyclic (heard c.self.inside.nodes.items)) c.note_taking.new.pass) c.self.view_is
    (refuses_by shape told s c.note_taking.new.self v c.note_taking.new.pass c.self.inside.stamps c.self.inside.repairs c.self.inside.stripes c.self.inside.slice c.self.inside.cyclic (heard c.self.inside.nodes.items) (Put c.args.name c.args.len) None event (c.note_taking.ensures.calls ∙ ap (λ (q : PassState). q.calls) now))

pub overflow_mul-stripes : goal.overflow_mul-stripes
overflow_mul-stripes g c =
    let shape : Shape = g.N.Names.shape in
    let told : Bool = g.N.Names.told in
    let callers : ℕ = g.N.Names.callers in
    let spares : ℕ = g.N.Names.spare_hands in
    let s : SequencerState = c.self.inside.sequencer in
    let v : PassState = c.args.pass.now in
    let p : CoordParts = parts_of c.self.inside.catalog c.self.inside.hands c.self.inside.slice c.self.inside.nodes.items c.self.inside.stripes c.self.inside.promises.items in
    let met : IsMet shape told callers spares s v = record {
      agree = c.meet.ensures.agree;
      kept = c.meet.ensures.kept;
      session = c.meet.ensures.session;
      own = its_own spares v c.meet.ensures.places c.requires.fresh.is_open.whole;
      in_range = c.meet.ensures.in_range;
    } in
    let by : FrontRenewed shape told s c.meet.new.self c.renew.new.self v c.meet.new.pass c.renew.new.pass c.front-front.new.self = record {
      met_same = c.meet.ensures.same;
      met_pass = c.meet.ensures.pass;
      event = c.renew.ensures.event;
      same = c.renew.ensures.same;
      pass = c.renew.ensures.pass;
      copied = c.front-front.ensures.kept;
    } in
    let d : CatalogState = c.make_room.new.catalog in
    let now : c.front-front.new.self ≡ record v { front = s.history } = renewed_pass shape told s c.meet.new.self c.renew.new.self v c.meet.new.pass c.renew.new.pass c.front-front.new.self by in
    let none : Voids = record { len = 0; at = replicate MAX_ATTEMPTS 0 } in
    let stripes : ℕ = c.stripes_of-stripes.result in
    let t : SequencerState = c.note_taking.new.self in
    let w : PassState = c.note_taking.new.pass in
    let tag : c.front-front.result ≡ record { log = history_log; items = s.history } =
    c.front-front.ensures.front ∙ ap (λ (xs : Log). let k : Known = record { log = history_log; items = xs } in k)
    (renewed_front shape told s c.meet.new.self c.renew.new.self v c.meet.new.pass c.renew.new.pass c.front-front.new.self by) in
    let first : FirstMade shape told s t v w p d c.args.name c.args.len stripes c.places_now-res.result = record {
      asked = c.requires.fresh.is_open;
      none = c.requires.fresh.none;
      free = subst (λ (x : CoordState). hindered shape (told_table shape x.sequence.history) c.args.name ≡ None) (sym c.self.view_is) c.requires.free;
      reserves = c.in_default.ensures.ok;
      nodes = c.make_room.ensures.nodes;
      numbers = subst (λ (xs : List ℕ). c.self.inside.stripes + sum xs + stripes * MAX_ATTEMPTS ≤ END_OF_STRIPES) c.deref.ensures.value c.in_default.ensures.numbers;
      counted = c.stripes_of-stripes.ensures;
      placed = subst (λ (k : Known). IsPlacedNow d c.args.name c.args.len c.self.inside.stripes stripes k none c.places_now-res.result) tag c.places_now-res.ensures;
      event = renewed_booked shape told s c.meet.new.self c.renew.new.self t v c.meet.new.pass c.renew.new.pass c.front-front.new.self w ROOM (booking_of c.places_now-res.result) by c.in_default-note_taking.ensures.ok;
      calls = c.note_taking.ensures.calls ∙ ap (λ (q : PassState). q.calls) now;
    } in
    let fits = first_fits shape told callers spares s t v w p d c.args.name c.args.len stripes c.places_now-res.result c.self.invariant met first in
    omega (arith, fits.0)

pub overflow_add-self : goal.overflow_add-self
overflow_add-self g c =
    let shape : Shape = g.N.Names.shape in
    let told : Bool = g.N.Names.told in
    let callers : ℕ = g.N.Names.callers in
    let spares : ℕ = g.N.Names.spare_hands in
    let s : SequencerState = c.self.inside.sequencer in
    let v : PassState = c.args.pass.now in
    let p : CoordParts = parts_of c.self.inside.catalog c.self.inside.hands c.self.inside.slice c.self.inside.nodes.items c.self.inside.stripes c.self.inside.promises.items in
    let met : IsMet shape told callers spares s v = record {
      agree = c.meet.ensures.agree;
      kept = c.meet.ensures.kept;
      session = c.meet.ensures.session;
      own = its_own spares v c.meet.ensures.places c.requires.fresh.is_open.whole;
      in_range = c.meet.ensures.in_range;
    } in
    let by : FrontRenewed shape told s c.meet.new.self c.renew.new.self v c.meet.new.pass c.renew.new.pass c.front-front.new.self = record {
      met_same = c.meet.ensures.same;
      met_pass = c.meet.ensures.pass;
      event = c.renew.ensures.event;
      same = c.renew.ensures.same;
      pass = c.renew.ensures.pass;
      copied = c.front-front.ensures.kept;
    } in
    let d : CatalogState = c.make_room.new.catalog in
    let now : c.front-front.new.self ≡ record v { front = s.history } = renewed_pass shape told s c.meet.new.self c.renew.new.self v c.meet.new.pass c.renew.new.pass c.front-front.new.self by in
    let none : Voids = record { len = 0; at = replicate MAX_ATTEMPTS 0 } in
    let stripes : ℕ = c.stripes_of-stripes.result in
    let t : SequencerState = c.note_taking.new.self in
    let w : PassState = c.note_taking.new.pass in
    let tag : c.front-front.result ≡ record { log = history_log; items = s.history } =
    c.front-front.ensures.front ∙ ap (λ (xs : Log). let k : Known = record { log = history_log; items = xs } in k)
    (renewed_front shape told s c.meet.new.self c.renew.new.self v c.meet.new.pass c.renew.new.pass c.front-front.new.self by) in
    let first : FirstMade shape told s t v w p d c.args.name c.args.len stripes c.places_now-res.result = record {
      asked = c.requires.fresh.is_open;
      none = c.requires.fresh.none;
      free = subst (λ (x : CoordState). hindered shape (told_table shape x.sequence.history) c.args.name ≡ None) (sym c.self.view_is) c.requires.free;
      reserves = c.in_default.ensures.ok;
      nodes = c.make_room.ensures.nodes;
      numbers = subst (λ (xs : List ℕ). c.self.inside.stripes + sum xs + stripes * MAX_ATTEMPTS ≤ END_OF_STRIPES) c.deref.ensures.value c.in_default.ensures.numbers;
      counted = c.stripes_of-stripes.ensures;
      placed = subst (λ (k : Known). IsPlacedNow d c.args.name c.args.len c.self.inside.stripes stripes k none c.places_now-res.result) tag c.places_now-res.ensures;
      event = renewed_booked shape told s c.meet.new.self c.renew.new.self t v c.meet.new.pass c.renew.new.pass c.front-front.new.self w ROOM (booking_of c.places_now-res.result) by c.in_default-note_taking.ensures.ok;
      calls = c.note_taking.ensures.calls ∙ ap (λ (q : PassState). q.calls) now;
    } in
    let fits = first_fits shape told callers spares s t v w p d c.args.name c.args.len stripes c.places_now-res.result c.self.invariant met first in
    omega (arith, fits.1)

pub index_mut-requires : goal.index_mut-requires
index_mut-requires g c =
    let shape : Shape = g.N.Names.shape in
    let told : Bool = g.N.Names.told in
    let callers : ℕ = g.N.Names.callers in
    let spares : ℕ = g.N.Names.spare_hands in
    let s : SequencerState = c.self.inside.sequencer in
    let v : PassState = c.args.pass.now in
    let p : CoordParts = parts_of c.self.inside.catalog c.self.inside.hands c.self.inside.slice c.self.inside.nodes.items c.self.inside.stripes c.self.inside.promises.items in
    let met : IsMet shape told callers spares s v = record {
      agree = c.meet.ensures.agree;
      kept = c.meet.ensures.kept;
      session = c.meet.ensures.session;
      own = its_own spares v c.meet.ensures.places c.requires.fresh.is_open.whole;
      in_range = c.meet.ensures.in_range;
    } in
    let by : FrontRenewed shape told s c.meet.new.self c.renew.new.self v c.meet.new.pass c.renew.new.pass c.front-front.new.self = record {
      met_same = c.meet.ensures.same;
      met_pass = c.meet.ensures.pass;
      event = c.renew.ensures.event;
      same = c.renew.ensures.same;
      pass = c.renew.ensures.pass;
      copied = c.front-front.ensures.kept;
    } in
    let d : CatalogState = c.make_room.new.catalog in
    let now : c.front-front.new.self ≡ record v { front = s.history } = renewed_pass shape told s c.meet.new.self c.renew.new.self v c.meet.new.pass c.renew.new.pass c.front-front.new.self by in
    let none : Voids = record { len = 0; at = replicate MAX_ATTEMPTS 0 } in
    let stripes : ℕ = c.stripes_of-stripes.result in
    let t : SequencerState = c.note_taking.new.self in
    let w : PassState = c.note_taking.new.pass in
    let tag : c.front-front.result ≡ record { log = history_log; items = s.history } =
    c.front-front.ensures.front ∙ ap (λ (xs : Log). let k : Known = record { log = history_log; items = xs } in k)
    (renewed_front shape told s c.meet.new.self c.renew.new.self v c.meet.new.pass c.renew.new.pass c.front-front.new.self by) in
    let first : FirstMade shape told s t v w p d c.args.name c.args.len stripes c.places_now-res.result = record {
      asked = c.requires.fresh.is_open;
      none = c.requires.fresh.none;
      free = subst (λ (x : CoordState). hindered shape (told_table shape x.sequence.history) c.args.name ≡ None) (sym c.self.view_is) c.requires.free;
      reserves = c.in_default.ensures.ok;
      nodes = c.make_room.ensures.nodes;
      numbers = subst (λ (xs : List ℕ). c.self.inside.stripes + sum xs + stripes * MAX_ATTEMPTS ≤ END_OF_STRIPES) c.deref.ensures.value c.in_default.ensures.numbers;
      counted = c.stripes_of-stripes.ensures;
      placed = subst (λ (k : Known). IsPlacedNow d c.args.name c.args.len c.self.inside.stripes stripes k none c.places_now-res.result) tag c.places_now-res.ensures;
      event = renewed_booked shape told s c.meet.new.self c.renew.new.self t v c.meet.new.pass c.renew.new.pass c.front-front.new.self w ROOM (booking_of c.places_now-res.result) by c.in_default-note_taking.ensures.ok;
      calls = c.note_taking.ensures.calls ∙ ap (λ (q : PassState). q.calls) now;
    } in
    let fits = first_fits shape told callers spares s t v w p d c.args.name c.args.len stripes c.places_now-res.result c.self.invariant met first in
    let hand = first.event.steps.hand in
    omega (arith, fits.2, c.from.ensures, c.hand.ensures, hand, c.self.inside.promises.ok.0)

pub invariant_of-self-2 : goal.invariant_of-self-2
invariant_of-self-2 g c =
    let shape : Shape = g.N.Names.shape in
    let told : Bool = g.N.Names.told in
    let callers : ℕ = g.N.Names.callers in
    let spares : ℕ = g.N.Names.spare_hands in
    let s : SequencerState = c.self.inside.sequencer in
    let v : PassState = c.args.pass.now in
    let p : CoordParts = parts_of c.self.inside.catalog c.self.inside.hands c.self.inside.slice c.self.inside.nodes.items c.self.inside.stripes c.self.inside.promises.items in
    let met : IsMet shape told callers spares s v = record {
      agree = c.meet.ensures.agree;
      kept = c.meet.ensures.kept;
      session = c.meet.ensures.session;
      own = its_own spares v c.meet.ensures.places c.requires.fresh.is_open.whole;
      in_range = c.meet.ensures.in_range;
    } in
    let by : FrontRenewed shape told s c.meet.new.self c.renew.new.self v c.meet.new.pass c.renew.new.pass c.front-front.new.self = record {
      met_same = c.meet.ensures.same;
      met_pass = c.meet.ensures.pass;
      event = c.renew.ensures.event;
      same = c.renew.ensures.same;
      pass = c.renew.ensures.pass;
      copied = c.front-front.ensures.kept;
    } in
    let d : CatalogState = c.make_room.new.catalog in
    let now : c.front-front.new.self ≡ record v { front = s.history } = renewed_pass shape told s c.meet.new.self c.renew.new.self v c.meet.new.pass c.renew.new.pass c.front-front.new.self by in
    let none : Voids = record { len = 0; at = replicate MAX_ATTEMPTS 0 } in
    let stripes : ℕ = c.stripes_of-stripes.result in
    let t : SequencerState = c.note_taking.new.self in
    let w : PassState = c.note_taking.new.pass in
    let tag : c.front-front.result ≡ record { log = history_log; items = s.history } =
    c.front-front.ensures.front ∙ ap (λ (xs : Log). let k : Known = record { log = history_log; items = xs } in k)
    (renewed_front shape told s c.meet.new.self c.renew.new.self v c.meet.new.pass c.renew.new.pass c.front-front.new.self by) in
    let first : FirstMade shape told s t v w p d c.args.name c.args.len stripes c.places_now-res.result = record {
      asked = c.requires.fresh.is_open;
      none = c.requires.fresh.none;
      free = subst (λ (x : CoordState). hindered shape (told_table shape x.sequence.history) c.args.name ≡ None) (sym c.self.view_is) c.requires.free;
      reserves = c.in_default.ensures.ok;
      nodes = c.make_room.ensures.nodes;
      numbers = subst (λ (xs : List ℕ). c.self.inside.stripes + sum xs + stripes * MAX_ATTEMPTS ≤ END_OF_STRIPES) c.deref.ensures.value c.in_default.ensures.numbers;
      counted = c.stripes_of-stripes.ensures;
      placed = subst (λ (k : Known). IsPlacedNow d c.args.name c.args.len c.self.inside.stripes stripes k none c.places_now-res.result) tag c.places_now-res.ensures;
      event = renewed_booked shape told s c.meet.new.self c.renew.new.self t v c.meet.new.pass c.renew.new.pass c.front-front.new.self w ROOM (booking_of c.places_now-res.result) by c.in_default-note_taking.ensures.ok;
      calls = c.note_taking.ensures.calls ∙ ap (λ (q : PassState). q.calls) now;
    } in
    let hand : v.hand ≡ c.from.result = sym (c.from.ensures ∙ c.hand.ensures ∙ first.event.steps.hand) in
    subst (λ (h : ℕ). IsCoord shape told callers spares t (with_booking p d (p.stripes + stripes) (set p.promises h (stripes * (MAX_ATTEMPTS - 1))))) hand
    (first_coord shape told callers spares s t v w p d c.args.name c.args.len stripes c.places_now-res.result c.self.invariant met first)

pub returns-clause-ok : goal.returns-clause-ok
returns-clause-ok g c =
    let shape : Shape = g.N.Names.shape in
    let told : Bool = g.N.Names.told in
    let callers : ℕ = g.N.Names.callers in
    let spares : ℕ = g.N.Names.spare_hands in
    let s : SequencerState = c.self.inside.sequencer in
    let v : PassState = c.args.pass.now in
    let p : CoordParts = parts_of c.self.inside.catalog c.self.inside.hands c.self.inside.slice c.self.inside.nodes.items c.self.inside.stripes c.self.inside.promises.items in
    let met : IsMet shape told callers spares s v = record {
      agree = c.meet.ensures.agree;
      kept = c.meet.ensures.kept;
      session = c.meet.ensures.session;
      own = its_own spares v c.meet.ensures.places c.requires.fresh.is_open.whole;
      in_range = c.meet.ensures.in_range;
    } in
    let by : FrontRenewed shape told s c.meet.new.self c.renew.new.self v c.meet.new.pass c.renew.new.pass c.front-front.new.self = record {
      met_same = c.meet.ensures.same;
      met_pass = c.meet.ensures.pass;
      event = c.renew.ensures.event;
      same = c.renew.ensures.same;
      pass = c.renew.ensures.pass;
      copied = c.front-front.ensures.kept;
    } in
    let d : CatalogState = c.make_room.new.catalog in
    let now : c.front-front.new.self ≡ record v { front = s.history } = renewed_pass shape told s c.meet.new.self c.renew.new.self v c.meet.new.pass c.renew.new.pass c.front-front.new.self by in
    let none : Voids = record { len = 0; at = replicate MAX_ATTEMPTS 0 } in
    let stripes : ℕ = c.stripes_of-stripes.result in
    let t : SequencerState = c.note_taking.new.self in
    let w : PassState = c.note_taking.new.pass in
    let tag : c.front-front.result ≡ record { log = history_log; items = s.history } =
    c.front-front.ensures.front ∙ ap (λ (xs : Log). let k : Known = record { log = history_log; items = xs } in k)
    (renewed_front shape told s c.meet.new.self c.renew.new.self v c.meet.new.pass c.renew.new.pass c.front-front.new.self by) in
    let first : FirstMade shape told s t v w p d c.args.name c.args.len stripes c.places_now-res.result = record {
      asked = c.requires.fresh.is_open;
      none = c.requires.fresh.none;
      free = subst (λ (x : CoordState). hindered shape (told_table shape x.sequence.history) c.args.name ≡ None) (sym c.self.view_is) c.requires.free;
      reserves = c.in_default.ensures.ok;
      nodes = c.make_room.ensures.nodes;
      numbers = subst (λ (xs : List ℕ). c.self.inside.stripes + sum xs + stripes * MAX_ATTEMPTS ≤ END_OF_STRIPES) c.deref.ensures.value c.in_default.ensures.numbers;
      counted = c.stripes_of-stripes.ensures;
      placed = subst (λ (k : Known). IsPlacedNow d c.args.name c.args.len c.self.inside.stripes stripes k none c.places_now-res.result) tag c.places_now-res.ensures;
      event = renewed_booked shape told s c.meet.new.self c.renew.new.self t v c.meet.new.pass c.renew.new.pass c.front-front.new.self w ROOM (booking_of c.places_now-res.result) by c.in_default-note_taking.ensures.ok;
      calls = c.note_taking.ensures.calls ∙ ap (λ (q : PassState). q.calls) now;
    } in
    subst (λ (x : CoordState). Reserves shape told x v c.places_now-res.result (seen t c.self.inside.stamps c.self.inside.repairs (c.self.inside.stripes + stripes) c.self.inside.slice c.self.inside.cyclic (heard c.self.inside.nodes.items)) w) c.self.view_is
    (first_reserves shape told callers spares s t v w p d c.args.name c.args.len stripes c.places_now-res.result c.self.invariant met first c.self.inside.stamps c.self.inside.repairs c.self.inside.slice c.self.inside.cyclic (heard c.self.inside.nodes.items))

pub returns-clause-named : goal.returns-clause-named
returns-clause-named g c =
    c.places_now-res.ensures.named
