use Rattle.std.proofs.Common.{◌≡◌, ℕ, ◌+◌, ◌-◌, ◌<◌, ◌≤◌, Bool, [], ◌∷◌, length, set, sym, ◌∙◌, ap, subst, arith}
use Rattle.std.specs.Prelude.{slice_index}
use mathlib.Core.List.{IsPrefix}
use Rattle.std.proofs.lemmas.List.{get_or_read}
use Rattle.ecp_book.specs.Logs.{Known, Log, history_log}
use Rattle.ecp_entry.specs.Told.{history_of}
use Rattle.ecp_plan.specs.declared.voids.Voids.{Voids}
use Rattle.ecp_sequencer.specs.Facts.{room_noted}
use Rattle.ecp_sequencer.specs.Notes.{note}
use Rattle.ecp_sequencer.specs.Steps.{Event}
use Rattle.ecp_coord.specs.Puts.{IsOvertaken, IsPlacedNow, Renews, booking_of, found_by_renewing}
use Rattle.ecp_coord.proofs.FollowLaws.{IsMet, its_own}
use Rattle.ecp_coord.proofs.PlaceLaws.{seen}
use Rattle.ecp_coord.proofs.RenewLaws.{NextMade, next_coord, next_fits, next_renews}
use Rattle.ecp_coord.proofs.ReserveLaws.{FrontRenewed, renewed_booked, renewed_front, renewed_pass, with_booking}
use Rattle.ecp_shape.specs.declared.shape.Shape.{Shape}
use Rattle.ecp_sequencer.specs.Passes.{PassState}
use Rattle.ecp_sequencer.specs.Sequencers.{Agrees, SequencerState}
use Rattle.ecp_coord.specs.Coords.{CoordParts, CoordState, IsCoord, heard, parts_of}
use Rattle.ecp_coord.proofs.coord.Coord.go_on.Goals as goal

pub renew-requires : goal.renew-requires
renew-requires g c =
    subst (λ (x : SequencerState). Agrees x c.meet.new.pass) (sym (c.meet_front.ensures.same ∙ c.meet.ensures.same)) (subst (λ (q : PassState). Agrees c.self.inside.sequencer q) (sym c.meet.ensures.pass) c.meet.ensures.agree)

pub note-requires-clause-agree : goal.note-requires-clause-agree
note-requires-clause-agree g c =
    subst (λ (q : PassState). Agrees c.renew.new.self q) (sym c.front-front.ensures.kept) c.renew.ensures.event.agrees

pub note-requires-clause-room : goal.note-requires-clause-room
note-requires-clause-room g c =
    let shape : Shape = g.N.Names.shape in
    let told : Bool = g.N.Names.told in
    let callers : ℕ = g.N.Names.callers in
    let spares : ℕ = g.N.Names.spare_hands in
    let s : SequencerState = c.self.inside.sequencer in
    let v : PassState = c.args.pass.now in
    let p : CoordParts = parts_of c.self.inside.catalog c.self.inside.hands c.self.inside.slice c.self.inside.nodes.items c.self.inside.stripes c.self.inside.promises.items in
    let met : IsMet shape told callers spares s v = record {
      agree = c.meet.ensures.agree;
      kept = c.meet.ensures.kept;
      session = c.meet.ensures.session;
      own = its_own spares v c.meet.ensures.places c.requires.reserved.is_open.whole;
      in_range = c.meet.ensures.in_range;
    } in
    let res = c.args.res.now in
    let voids : Voids = c.args.voids in
    let begins : IsPrefix res.front.items s.history = subst (λ (x : SequencerState). IsPrefix res.front.items x.history) c.meet.ensures.same c.meet_front.ensures.begins in
    let by : FrontRenewed shape told s c.meet_front.new.self c.renew.new.self v c.meet.new.pass c.renew.new.pass c.front-front.new.self = record {
      met_same = c.meet_front.ensures.same ∙ c.meet.ensures.same;
      met_pass = c.meet.ensures.pass;
      event = c.renew.ensures.event;
      same = c.renew.ensures.same;
      pass = c.renew.ensures.pass;
      copied = c.front-front.ensures.kept;
    } in
    let now : c.front-front.new.self ≡ record v { front = s.history } = renewed_pass shape told s c.meet_front.new.self c.renew.new.self v c.meet.new.pass c.renew.new.pass c.front-front.new.self by in
    let over : IsOvertaken (history_of s.history) res voids = subst (λ (x : CoordState). IsOvertaken (history_of x.sequence.history) res voids) (sym c.self.view_is) c.requires.overtaken in
    let tag : c.front-front.result ≡ record { log = history_log; items = s.history } =
    c.front-front.ensures.front ∙ ap (λ (xs : Log). let k : Known = record { log = history_log; items = xs } in k) (renewed_front shape told s c.meet_front.new.self c.renew.new.self v c.meet.new.pass c.renew.new.pass c.front-front.new.self by) in
    subst (λ (q : PassState). 1 ≤ room_noted q.notes) (sym now) c.requires.reserved.is_open.room

pub index_mut-requires : goal.index_mut-requires
index_mut-requires g c =
    let shape : Shape = g.N.Names.shape in
    let told : Bool = g.N.Names.told in
    let callers : ℕ = g.N.Names.callers in
    let spares : ℕ = g.N.Names.spare_hands in
    let s : SequencerState = c.self.inside.sequencer in
    let v : PassState = c.args.pass.now in
    let p : CoordParts = parts_of c.self.inside.catalog c.self.inside.hands c.self.inside.slice c.self.inside.nodes.items c.self.inside.stripes c.self.inside.promises.items in
    let met : IsMet shape told callers spares s v = record {
      agree = c.meet.ensures.agree;
      kept = c.meet.ensures.kept;
      session = c.meet.ensures.session;
      own = its_own spares v c.meet.ensures.places c.requires.reserved.is_open.whole;
      in_range = c.meet.ensures.in_range;
    } in
    let res = c.args.res.now in
    let voids : Voids = c.args.voids in
    let begins : IsPrefix res.front.items s.history = subst (λ (x : SequencerState). IsPrefix res.front.items x.history) c.meet.ensures.same c.meet_front.ensures.begins in
    let by : FrontRenewed shape told s c.meet_front.new.self c.renew.new.self v c.meet.new.pass c.renew.new.pass c.front-front.new.self = record {
      met_same = c.meet_front.ensures.same ∙ c.meet.ensures.same;
      met_pass = c.meet.ensures.pass;
      event = c.renew.ensures.event;
      same = c.renew.ensures.same;
      pass = c.renew.ensures.pass;
      copied = c.front-front.ensures.kept;
    } in
    let now : c.front-front.new.self ≡ record v { front = s.history } = renewed_pass shape told s c.meet_front.new.self c.renew.new.self v c.meet.new.pass c.renew.new.pass c.front-front.new.self by in
    let over : IsOvertaken (history_of s.history) res voids = subst (λ (x : CoordState). IsOvertaken (history_of x.sequence.history) res voids) (sym c.self.view_is) c.requires.overtaken in
    let tag : c.front-front.result ≡ record { log = history_log; items = s.history } =
    c.front-front.ensures.front ∙ ap (λ (xs : Log). let k : Known = record { log = history_log; items = xs } in k) (renewed_front shape told s c.meet_front.new.self c.renew.new.self v c.meet.new.pass c.renew.new.pass c.front-front.new.self by) in
    let t : SequencerState = c.note.new.self in
    let w : PassState = c.note.new.pass in
    let next : NextMade shape told s t v w p res voids c.replace-front.new.dest = record {
      reserved = c.requires.reserved;
      begins = begins;
      overtaken = over;
      found = ap (λ (x : CoordState). found_by_renewing shape (history_of x.sequence.history) res) c.self.view_is ∙ c.requires.found;
      placed = subst (λ (k : Known). IsPlacedNow p.catalog res.name res.len p.stripes res.stripes k voids c.replace-front.new.dest) tag (subst (IsPlacedNow p.catalog res.name res.len p.stripes res.stripes c.front-front.result voids) (sym c.replace-front.ensures.after) c.places_now-next.ensures);
      event = renewed_booked shape told s c.meet_front.new.self c.renew.new.self t v c.meet.new.pass c.renew.new.pass c.front-front.new.self w (room_noted v.notes - 1) (booking_of c.replace-front.new.dest) by
          (subst (λ (n : ℕ). Event shape told c.renew.new.self c.front-front.new.self [] (note (length c.renew.new.self.history) (n - 1) (booking_of c.replace-front.new.dest) ∷ []) t w) (ap (λ (q : PassState). room_noted q.notes) now) c.note.ensures.event);
      calls = c.note.ensures.calls ∙ ap (λ (q : PassState). q.calls) now;
    } in
    let fits = next_fits shape told callers spares s t v w p res voids c.replace-front.new.dest c.self.invariant met next in
    let hand = next.event.steps.hand in
    omega (arith, fits.2, c.from.ensures, c.hand.ensures, hand, c.self.inside.promises.ok.0)

pub overflow_sub-index_mut : goal.overflow_sub-index_mut
overflow_sub-index_mut g c =
    let shape : Shape = g.N.Names.shape in
    let told : Bool = g.N.Names.told in
    let callers : ℕ = g.N.Names.callers in
    let spares : ℕ = g.N.Names.spare_hands in
    let s : SequencerState = c.self.inside.sequencer in
    let v : PassState = c.args.pass.now in
    let p : CoordParts = parts_of c.self.inside.catalog c.self.inside.hands c.self.inside.slice c.self.inside.nodes.items c.self.inside.stripes c.self.inside.promises.items in
    let met : IsMet shape told callers spares s v = record {
      agree = c.meet.ensures.agree;
      kept = c.meet.ensures.kept;
      session = c.meet.ensures.session;
      own = its_own spares v c.meet.ensures.places c.requires.reserved.is_open.whole;
      in_range = c.meet.ensures.in_range;
    } in
    let res = c.args.res.now in
    let voids : Voids = c.args.voids in
    let begins : IsPrefix res.front.items s.history = subst (λ (x : SequencerState). IsPrefix res.front.items x.history) c.meet.ensures.same c.meet_front.ensures.begins in
    let by : FrontRenewed shape told s c.meet_front.new.self c.renew.new.self v c.meet.new.pass c.renew.new.pass c.front-front.new.self = record {
      met_same = c.meet_front.ensures.same ∙ c.meet.ensures.same;
      met_pass = c.meet.ensures.pass;
      event = c.renew.ensures.event;
      same = c.renew.ensures.same;
      pass = c.renew.ensures.pass;
      copied = c.front-front.ensures.kept;
    } in
    let now : c.front-front.new.self ≡ record v { front = s.history } = renewed_pass shape told s c.meet_front.new.self c.renew.new.self v c.meet.new.pass c.renew.new.pass c.front-front.new.self by in
    let over : IsOvertaken (history_of s.history) res voids = subst (λ (x : CoordState). IsOvertaken (history_of x.sequence.history) res voids) (sym c.self.view_is) c.requires.overtaken in
    let tag : c.front-front.result ≡ record { log = history_log; items = s.history } =
    c.front-front.ensures.front ∙ ap (λ (xs : Log). let k : Known = record { log = history_log; items = xs } in k) (renewed_front shape told s c.meet_front.new.self c.renew.new.self v c.meet.new.pass c.renew.new.pass c.front-front.new.self by) in
    let t : SequencerState = c.note.new.self in
    let w : PassState = c.note.new.pass in
    let next : NextMade shape told s t v w p res voids c.replace-front.new.dest = record {
      reserved = c.requires.reserved;
      begins = begins;
      overtaken = over;
      found = ap (λ (x : CoordState). found_by_renewing shape (history_of x.sequence.history) res) c.self.view_is ∙ c.requires.found;
      placed = subst (λ (k : Known). IsPlacedNow p.catalog res.name res.len p.stripes res.stripes k voids c.replace-front.new.dest) tag (subst (IsPlacedNow p.catalog res.name res.len p.stripes res.stripes c.front-front.result voids) (sym c.replace-front.ensures.after) c.places_now-next.ensures);
      event = renewed_booked shape told s c.meet_front.new.self c.renew.new.self t v c.meet.new.pass c.renew.new.pass c.front-front.new.self w (room_noted v.notes - 1) (booking_of c.replace-front.new.dest) by
          (subst (λ (n : ℕ). Event shape told c.renew.new.self c.front-front.new.self [] (note (length c.renew.new.self.history) (n - 1) (booking_of c.replace-front.new.dest) ∷ []) t w) (ap (λ (q : PassState). room_noted q.notes) now) c.note.ensures.event);
      calls = c.note.ensures.calls ∙ ap (λ (q : PassState). q.calls) now;
    } in
    let hand : v.hand ≡ c.from.result = sym (c.from.ensures ∙ c.hand.ensures ∙ next.event.steps.hand) in
    let fits = next_fits shape told callers spares s t v w p res voids c.replace-front.new.dest c.self.invariant met next in
    let within : c.from.result < length p.promises = subst (λ (h : ℕ). h < length p.promises) hand fits.2 in
    let read : c.index_mut.result.now ≡ slice_index p.promises c.from.result = get_or_read p.promises c.from.result c.index_mut.result.now within c.index_mut.ensures.value 0 in
    subst (λ (n : ℕ). c.replace-front.new.dest.stripes ≤ n) (sym read) (subst (λ (h : ℕ). c.replace-front.new.dest.stripes ≤ slice_index p.promises h) hand fits.0)

pub overflow_add-self : goal.overflow_add-self
overflow_add-self g c =
    let shape : Shape = g.N.Names.shape in
    let told : Bool = g.N.Names.told in
    let callers : ℕ = g.N.Names.callers in
    let spares : ℕ = g.N.Names.spare_hands in
    let s : SequencerState = c.self.inside.sequencer in
    let v : PassState = c.args.pass.now in
    let p : CoordParts = parts_of c.self.inside.catalog c.self.inside.hands c.self.inside.slice c.self.inside.nodes.items c.self.inside.stripes c.self.inside.promises.items in
    let met : IsMet shape told callers spares s v = record {
      agree = c.meet.ensures.agree;
      kept = c.meet.ensures.kept;
      session = c.meet.ensures.session;
      own = its_own spares v c.meet.ensures.places c.requires.reserved.is_open.whole;
      in_range = c.meet.ensures.in_range;
    } in
    let res = c.args.res.now in
    let voids : Voids = c.args.voids in
    let begins : IsPrefix res.front.items s.history = subst (λ (x : SequencerState). IsPrefix res.front.items x.history) c.meet.ensures.same c.meet_front.ensures.begins in
    let by : FrontRenewed shape told s c.meet_front.new.self c.renew.new.self v c.meet.new.pass c.renew.new.pass c.front-front.new.self = record {
      met_same = c.meet_front.ensures.same ∙ c.meet.ensures.same;
      met_pass = c.meet.ensures.pass;
      event = c.renew.ensures.event;
      same = c.renew.ensures.same;
      pass = c.renew.ensures.pass;
      copied = c.front-front.ensures.kept;
    } in
    let now : c.front-front.new.self ≡ record v { front = s.history } = renewed_pass shape told s c.meet_front.new.self c.renew.new.self v c.meet.new.pass c.renew.new.pass c.front-front.new.self by in
    let over : IsOvertaken (history_of s.history) res voids = subst (λ (x : CoordState). IsOvertaken (history_of x.sequence.history) res voids) (sym c.self.view_is) c.requires.overtaken in
    let tag : c.front-front.result ≡ record { log = history_log; items = s.history } =
    c.front-front.ensures.front ∙ ap (λ (xs : Log). let k : Known = record { log = history_log; items = xs } in k) (renewed_front shape told s c.meet_front.new.self c.renew.new.self v c.meet.new.pass c.renew.new.pass c.front-front.new.self by) in
    let t : SequencerState = c.note.new.self in
    let w : PassState = c.note.new.pass in
    let next : NextMade shape told s t v w p res voids c.replace-front.new.dest = record {
      reserved = c.requires.reserved;
      begins = begins;
      overtaken = over;
      found = ap (λ (x : CoordState). found_by_renewing shape (history_of x.sequence.history) res) c.self.view_is ∙ c.requires.found;
      placed = subst (λ (k : Known). IsPlacedNow p.catalog res.name res.len p.stripes res.stripes k voids c.replace-front.new.dest) tag (subst (IsPlacedNow p.catalog res.name res.len p.stripes res.stripes c.front-front.result voids) (sym c.replace-front.ensures.after) c.places_now-next.ensures);
      event = renewed_booked shape told s c.meet_front.new.self c.renew.new.self t v c.meet.new.pass c.renew.new.pass c.front-front.new.self w (room_noted v.notes - 1) (booking_of c.replace-front.new.dest) by
          (subst (λ (n : ℕ). Event shape told c.renew.new.self c.front-front.new.self [] (note (length c.renew.new.self.history) (n - 1) (booking_of c.replace-front.new.dest) ∷ []) t w) (ap (λ (q : PassState). room_noted q.notes) now) c.note.ensures.event);
      calls = c.note.ensures.calls ∙ ap (λ (q : PassState). q.calls) now;
    } in
    let fits = next_fits shape told callers spares s t v w p res voids c.replace-front.new.dest c.self.invariant met next in
    omega (arith, fits.1)

pub invariant_of-self : goal.invariant_of-self
invariant_of-self g c =
    let shape : Shape = g.N.Names.shape in
    let told : Bool = g.N.Names.told in
    let callers : ℕ = g.N.Names.callers in
    let spares : ℕ = g.N.Names.spare_hands in
    let s : SequencerState = c.self.inside.sequencer in
    let v : PassState = c.args.pass.now in
    let p : CoordParts = parts_of c.self.inside.catalog c.self.inside.hands c.self.inside.slice c.self.inside.nodes.items c.self.inside.stripes c.self.inside.promises.items in
    let met : IsMet shape told callers spares s v = record {
      agree = c.meet.ensures.agree;
      kept = c.meet.ensures.kept;
      session = c.meet.ensures.session;
      own = its_own spares v c.meet.ensures.places c.requires.reserved.is_open.whole;
      in_range = c.meet.ensures.in_range;
    } in
    let res = c.args.res.now in
    let voids : Voids = c.args.voids in
    let begins : IsPrefix res.front.items s.history = subst (λ (x : SequencerState). IsPrefix res.front.items x.history) c.meet.ensures.same c.meet_front.ensures.begins in
    let by : FrontRenewed shape told s c.meet_front.new.self c.renew.new.self v c.meet.new.pass c.renew.new.pass c.front-front.new.self = record {
      met_same = c.meet_front.ensures.same ∙ c.meet.ensures.same;
      met_pass = c.meet.ensures.pass;
      event = c.renew.ensures.event;
      same = c.renew.ensures.same;
      pass = c.renew.ensures.pass;
      copied = c.front-front.ensures.kept;
    } in
    let now : c.front-front.new.self ≡ record v { front = s.history } = renewed_pass shape told s c.meet_front.new.self c.renew.new.self v c.meet.new.pass c.renew.new.pass c.front-front.new.self by in
    let over : IsOvertaken (history_of s.history) res voids = subst (λ (x : CoordState). IsOvertaken (history_of x.sequence.history) res voids) (sym c.self.view_is) c.requires.overtaken in
    let tag : c.front-front.result ≡ record { log = history_log; items = s.history } =
    c.front-front.ensures.front ∙ ap (λ (xs : Log). let k : Known = record { log = history_log; items = xs } in k) (renewed_front shape told s c.meet_front.new.self c.renew.new.self v c.meet.new.pass c.renew.new.pass c.front-front.new.self by) in
    let t : SequencerState = c.note.new.self in
    let w : PassState = c.note.new.pass in
    let next : NextMade shape told s t v w p res voids c.replace-front.new.dest = record {
      reserved = c.requires.reserved;
      begins = begins;
      overtaken = over;
      found = ap (λ (x : CoordState). found_by_renewing shape (history_of x.sequence.history) res) c.self.view_is ∙ c.requires.found;
      placed = subst (λ (k : Known). IsPlacedNow p.catalog res.name res.len p.stripes res.stripes k voids c.replace-front.new.dest) tag (subst (IsPlacedNow p.catalog res.name res.len p.stripes res.stripes c.front-front.result voids) (sym c.replace-front.ensures.after) c.places_now-next.ensures);
      event = renewed_booked shape told s c.meet_front.new.self c.renew.new.self t v c.meet.new.pass c.renew.new.pass c.front-front.new.self w (room_noted v.notes - 1) (booking_of c.replace-front.new.dest) by
          (subst (λ (n : ℕ). Event shape told c.renew.new.self c.front-front.new.self [] (note (length c.renew.new.self.history) (n - 1) (booking_of c.replace-front.new.dest) ∷ []) t w) (ap (λ (q : PassState). room_noted q.notes) now) c.note.ensures.event);
      calls = c.note.ensures.calls ∙ ap (λ (q : PassState). q.calls) now;
    } in
    let hand : v.hand ≡ c.from.result = sym (c.from.ensures ∙ c.hand.ensures ∙ next.event.steps.hand) in
    let fits = next_fits shape told callers spares s t v w p res voids c.replace-front.new.dest c.self.invariant met next in
    let within : c.from.result < length p.promises = subst (λ (h : ℕ). h < length p.promises) hand fits.2 in
    let read : c.index_mut.result.now ≡ slice_index p.promises c.from.result = get_or_read p.promises c.from.result c.index_mut.result.now within c.index_mut.ensures.value 0 in
    subst (λ (n : ℕ). IsCoord shape told callers spares t (with_booking p p.catalog (p.stripes + c.replace-front.new.dest.stripes) (set p.promises c.from.result (n - c.replace-front.new.dest.stripes)))) (sym read)
    (subst (λ (h : ℕ). IsCoord shape told callers spares t (with_booking p p.catalog (p.stripes + c.replace-front.new.dest.stripes) (set p.promises h (slice_index p.promises h - c.replace-front.new.dest.stripes)))) hand
    (next_coord shape told callers spares s t v w p res voids c.replace-front.new.dest c.self.invariant met next))

pub returns : goal.returns
returns g c =
    let shape : Shape = g.N.Names.shape in
    let told : Bool = g.N.Names.told in
    let callers : ℕ = g.N.Names.callers in
    let spares : ℕ = g.N.Names.spare_hands in
    let s : SequencerState = c.self.inside.sequencer in
    let v : PassState = c.args.pass.now in
    let p : CoordParts = parts_of c.self.inside.catalog c.self.inside.hands c.self.inside.slice c.self.inside.nodes.items c.self.inside.stripes c.self.inside.promises.items in
    let met : IsMet shape told callers spares s v = record {
      agree = c.meet.ensures.agree;
      kept = c.meet.ensures.kept;
      session = c.meet.ensures.session;
      own = its_own spares v c.meet.ensures.places c.requires.reserved.is_open.whole;
      in_range = c.meet.ensures.in_range;
    } in
    let res = c.args.res.now in
    let voids : Voids = c.args.voids in
    let begins : IsPrefix res.front.items s.history = subst (λ (x : SequencerState). IsPrefix res.front.items x.history) c.meet.ensures.same c.meet_front.ensures.begins in
    let by : FrontRenewed shape told s c.meet_front.new.self c.renew.new.self v c.meet.new.pass c.renew.new.pass c.front-front.new.self = record {
      met_same = c.meet_front.ensures.same ∙ c.meet.ensures.same;
      met_pass = c.meet.ensures.pass;
      event = c.renew.ensures.event;
      same = c.renew.ensures.same;
      pass = c.renew.ensures.pass;
      copied = c.front-front.ensures.kept;
    } in
    let now : c.front-front.new.self ≡ record v { front = s.history } = renewed_pass shape told s c.meet_front.new.self c.renew.new.self v c.meet.new.pass c.renew.new.pass c.front-front.new.self by in
    let over : IsOvertaken (history_of s.history) res voids = subst (λ (x : CoordState). IsOvertaken (history_of x.sequence.history) res voids) (sym c.self.view_is) c.requires.overtaken in
    let tag : c.front-front.result ≡ record { log = history_log; items = s.history } =
    c.front-front.ensures.front ∙ ap (λ (xs : Log). let k : Known = record { log = history_log; items = xs } in k) (renewed_front shape told s c.meet_front.new.self c.renew.new.self v c.meet.new.pass c.renew.new.pass c.front-front.new.self by) in
    let t : SequencerState = c.note.new.self in
    let w : PassState = c.note.new.pass in
    let next : NextMade shape told s t v w p res voids c.replace-front.new.dest = record {
      reserved = c.requires.reserved;
      begins = begins;
      overtaken = over;
      found = ap (λ (x : CoordState). found_by_renewing shape (history_of x.sequence.history) res) c.self.view_is ∙ c.requires.found;
      placed = subst (λ (k : Known). IsPlacedNow p.catalog res.name res.len p.stripes res.stripes k voids c.replace-front.new.dest) tag (subst (IsPlacedNow p.catalog res.name res.len p.stripes res.stripes c.front-front.result voids) (sym c.replace-front.ensures.after) c.places_now-next.ensures);
      event = renewed_booked shape told s c.meet_front.new.self c.renew.new.self t v c.meet.new.pass c.renew.new.pass c.front-front.new.self w (room_noted v.notes - 1) (booking_of c.replace-front.new.dest) by
          (subst (λ (n : ℕ). Event shape told c.renew.new.self c.front-front.new.self [] (note (length c.renew.new.self.history) (n - 1) (booking_of c.replace-front.new.dest) ∷ []) t w) (ap (λ (q : PassState). room_noted q.notes) now) c.note.ensures.event);
      calls = c.note.ensures.calls ∙ ap (λ (q : PassState). q.calls) now;
    } in
    subst (λ (x : CoordState). Renews shape told x v res c.replace-front.new.dest (seen t c.self.inside.stamps c.self.inside.repairs (c.self.inside.stripes + c.replace-front.new.dest.stripes) c.self.inside.slice c.self.inside.cyclic (heard c.self.inside.nodes.items)) w) c.self.view_is
    (next_renews shape told callers spares s t v w p res voids c.replace-front.new.dest c.self.invariant met next c.self.inside.stamps c.self.inside.repairs c.self.inside.slice c.self.inside.cyclic (heard c.self.inside.nodes.items))
