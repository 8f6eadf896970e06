-- A put, from its places to its end.
use Rattle.std.proofs.Common.{◌≡◌, ℕ, ◌-◌, ◌≤◌, Bool, List, [], ◌∷◌, ◌++◌, length, Option, Some, None, Result, Ok, Err, IfOk, IfErr, OnErr, refl, sym, ◌∙◌, ap, subst, arith, append-nil}
use Rattle.ecp_shape.specs.declared.shape.Shape.{Shape}
use Rattle.ecp_book.specs.Logs.{Log}
use Rattle.ecp_book.proofs.Prefixes.{prefix_length}
use Rattle.ecp_entry.specs.declared.act.Act.{Act}
use Rattle.ecp_entry.specs.declared.act.Act.TheVariants as act
use Rattle.ecp_entry.specs.declared.deed.Deed.{Deed}
use Rattle.ecp_entry.specs.declared.deed.Deed.TheVariants.{Put}
use Rattle.ecp_entry.specs.declared.entry.Entry.{Entry}
use Rattle.ecp_entry.specs.Items.{item}
use Rattle.ecp_entry.specs.Told.{items_by}
use Rattle.ecp_node.specs.Receipts.{ReceiptState}
use Rattle.ecp_sequencer.specs.Facts.{facts_of, entries_noted, room_noted}
use Rattle.ecp_sequencer.specs.Passes.{PassState}
use Rattle.ecp_sequencer.specs.Sequencers.{SequencerState}
use Rattle.ecp_sequencer.specs.Steps.{Event, call_with}
use Rattle.ecp_sequencer.proofs.StepLaws.{steps_both, steps_whole}
use Rattle.ecp_coord.specs.declared.no_places.NoPlaces.{NoPlaces}
use Rattle.ecp_coord.specs.declared.no_places.NoPlaces.TheVariants as no
use Rattle.ecp_coord.specs.declared.published.Published.{Published}
use Rattle.ecp_coord.specs.declared.published.Published.TheVariants as published
use Rattle.ecp_coord.specs.declared.reservation.Reservation.{Reservation}
use Rattle.ecp_coord.specs.Bookings.{bookings_noted}
use Rattle.ecp_coord.specs.Calls.{Ends, IsOpen}
use Rattle.ecp_coord.specs.Coords.{CoordState}
use Rattle.ecp_coord.specs.Puts.{DidPublish, GivesUpPlaces, IsReserved, Publishes, Renews, Reserves, StandsPlaces, is_any_loss, refusal_of, stored_by}
use Rattle.ecp_coord.specs.Refusals.{Refuses}
use Rattle.ecp_coord.specs.Voids.{AreVoids}
use Rattle.ecp_cluster.specs.Concluded.{Concludes, WentOn}
use Rattle.ecp_cluster.specs.Puts.{EndsUnplaced, IsPlacedFrom, PutBy, PutMoves, PutSteps, PutStops, act_published}
use Rattle.ecp_cluster.proofs.CallLaws.{concluded, concludes_past, open_same, same_asked, waited}

-- ---- its places

placed_from : (shape : Shape) (told : Bool) {N : Type 0} (s t : CoordState) (v w : PassState) (name : List ℕ) (len : ℕ) (res : Reservation N) → Reserves shape told s v res t w
    → (res.name ≡ name) × (res.len ≡ len) → IsPlacedFrom shape told v (Put name len) res w
placed_from shape told s t v w name len res r named =
    let same : Put res.name res.len ≡ Put name len = ap (λ (n : List ℕ). Put n res.len) named.0 ∙ ap (λ (n : ℕ). Put name n) named.1 in
    let whole : w.front ≡ res.front.items = r.event.front ∙ r.event.history ∙ append-nil s.sequence.history ∙ sym r.front in
    record {
      goes = record { more = _; steps = r.event.steps; is_open = subst (λ (d : Deed). IsOpen w d) same r.is_reserved.is_open; calls = r.calls };
      reserved = r.is_reserved;
      late = omega (arith, prefix_length v.front w.front r.event.steps.extends, ap (λ (xs : Log). length xs) whole, r.is_reserved.point);
    }

pub placed_either : (shape : Shape) (told : Bool) {N : Type 0} (s t : CoordState) (v w : PassState) (name : List ℕ) (len : ℕ) (result : Result (Reservation N) NoPlaces)
    → IfOk result (λ res. Reserves shape told s v res t w) → IfOk result (λ res. (res.name ≡ name) × (res.len ≡ len)) → IfOk result (λ res. IsPlacedFrom shape told v (Put name len) res w)
placed_either shape told s t v w name len (Ok res) r named = placed_from shape told s t v w name len res r named
placed_either shape told s t v w name len (Err why) r named = tt

unplaced : (shape : Shape) (told : Bool) (s t : CoordState) (v w : PassState) (asked : Deed) (why : NoPlaces) → Refuses shape told s v asked (refusal_of why) t w
    → EndsUnplaced shape told v asked why w
unplaced shape told s t v w asked no.NameTaken r = concluded shape told s.sequence t.sequence v w asked act.NameTaken r.event
unplaced shape told s t v w asked (no.TooFewNodes up) r = concluded shape told s.sequence t.sequence v w asked (act.TooFewNodes up) r.event
unplaced shape told s t v w asked no.NoMemory r = waited shape told s.sequence t.sequence v w r.event r.calls

pub unplaced_either : (shape : Shape) (told : Bool) {N : Type 0} (s t : CoordState) (v w : PassState) (asked : Deed) (result : Result (Reservation N) NoPlaces)
    → IfErr result (λ why. Refuses shape told s v asked (refusal_of why) t w) → IfErr result (λ why. EndsUnplaced shape told v asked why w)
unplaced_either shape told s t v w asked (Ok res) r = tt
unplaced_either shape told s t v w asked (Err why) r = unplaced shape told s t v w asked why r

-- ---- one event

module _ (shape : Shape) (told : Bool) {N : Type 0} (s t : SequencerState) (v w : PassState) (res : Reservation N) where
  -- where nothing was noted the reservation stands
  still_reserved : Event shape told s v [] [] t w → w.calls ≡ v.calls → IsReserved shape told v res → IsReserved shape told w res
  still_reserved event calls is =
      let notes : w.notes ≡ v.notes = event.steps.noted ∙ append-nil v.notes in
      record {
        is_open = open_same v w (Put res.name res.len) notes calls (steps_whole v w [] [] event.steps is.is_open.whole) is.is_open;
        last = (is.last.0, ap (λ (ns : Log). bookings_noted ns) notes ∙ is.last.1);
        on_history = is.on_history;
        legal = is.legal;
        point = is.point;
        own = ap (λ (h : ℕ). items_by h res.front.items) event.steps.hand ∙ is.own ∙ ap (λ (ns : Log). entries_noted ns) (sym notes);
        counted = is.counted;
        places = is.places;
        few = is.few;
        voids = subst (λ (h : ℕ). AreVoids shape is_any_loss h res.front.items res.voids) (sym event.steps.hand) is.voids;
        room = let left : room_noted w.notes ≡ room_noted v.notes = ap (λ (ns : Log). room_noted ns) notes in let some = is.room in omega (arith, left, some);
      }

  pub moves_same : Event shape told s v [] [] t w → w.calls ≡ v.calls → IsReserved shape told v res → PutMoves shape told v res res w
  moves_same event calls is = record {
    reserved = still_reserved event calls is;
    same = refl;
    from = λ u asked from. record {
      goes = record {
        more = from.goes.more ++ [];
        steps = steps_both u v w [] [] from.goes.more [] from.goes.steps event.steps;
        is_open = open_same v w asked (event.steps.noted ∙ append-nil v.notes) calls (steps_whole v w [] [] event.steps from.goes.is_open.whole) from.goes.is_open;
        calls = calls ∙ from.goes.calls;
      };
      reserved = still_reserved event calls is;
      late = from.late;
    };
  }

-- a call that has come to places asks for the put of their reservation
asks_put : (shape : Shape) (told : Bool) {N : Type 0} (u v : PassState) (asked : Deed) (res : Reservation N) → IsPlacedFrom shape told u asked res v → Put res.name res.len ≡ asked
asks_put shape told u v asked res from =
    same_asked (facts_of v.notes).call (v.calls - 1) (v.calls - 1) (Put res.name res.len) asked from.reserved.is_open.call from.goes.is_open.call

pub moves_again : (shape : Shape) (told : Bool) {N : Type 0} (s t : CoordState) (v w : PassState) (old new : Reservation N) → Renews shape told s v old new t w → PutMoves shape told v old new w
moves_again shape told s t v w old new r = record {
  reserved = r.is_reserved;
  same = r.same.1;
  from = λ u asked from.
      let named : Put new.name new.len ≡ Put old.name old.len = ap (λ (n : List ℕ). Put n new.len) r.same.0 ∙ ap (λ (n : ℕ). Put old.name n) r.same.1 in
      let whole : w.front ≡ new.front.items = r.event.front ∙ r.event.history ∙ append-nil s.sequence.history ∙ sym r.front in
      record {
        goes = record {
          more = from.goes.more ++ _;
          steps = steps_both u v w [] [] from.goes.more _ from.goes.steps r.event.steps;
          is_open = subst (λ (d : Deed). IsOpen w d) (named ∙ asks_put shape told u v asked old from) r.is_reserved.is_open;
          calls = r.calls ∙ from.goes.calls;
        };
        reserved = r.is_reserved;
        late = omega (arith, prefix_length u.front v.front from.goes.steps.extends, prefix_length v.front w.front r.event.steps.extends, ap (λ (xs : Log). length xs) whole, r.is_reserved.point);
      };
}

module _ (shape : Shape) (told : Bool) {N : Type 0} (u v w : PassState) (asked : Deed) (res : Reservation N) (from : IsPlacedFrom shape told u asked res v) where
  -- the call ended without its file
  pub ended_unstored : (s t : SequencerState) (what : Act) → Ends shape told s v (Put res.name res.len) what t w → Concludes shape told u asked what [] w
  ended_unstored s t what ends =
      concludes_past shape told u v w asked what [] from.goes
      (subst (λ (d : Deed). Concludes shape told v d what [] w) (asks_put shape told u v asked res from) (concluded shape told s t v w (Put res.name res.len) what ends))

  -- or with it
  pub ended_stored : (s t : CoordState) (content : List ℕ) → Publishes shape told s v res content t w → Concludes shape told u asked (act.Stored res.first res.stripes res.up) content w
  ended_stored s t content p =
      let x : Entry = stored_by v res content in
      record {
        entry = x;
        more = from.goes.more ++ _;
        steps = steps_both u v w [] (x ∷ []) from.goes.more _ from.goes.steps p.event.steps;
        legal = p.event.legal;
        calls = p.calls ∙ from.goes.calls;
        by = from.goes.steps.caller;
        of_call = ap (λ (n : ℕ). call_with (n - 1) (Put res.name res.len)) from.goes.calls ∙ ap (λ (d : Deed). call_with (u.calls - 1) d) (asks_put shape told u v asked res from);
        late = from.late;
        of_part = refl;
        stands = (s.sequence.history, p.event.front ∙ p.event.history ∙ ap (λ (h : ℕ). s.sequence.history ++ item h x ∷ []) from.goes.steps.hand);
        act = refl;
        bytes = refl;
        left = tt;
      }

-- ---- what was done, by the answer

pub published_so : (shape : Shape) (told : Bool) {N : Type 0} (s t : CoordState) (v w : PassState) (res : Reservation N) (content : List ℕ) (rows : List ReceiptState) (result : Published N)
    → IsReserved shape told v res → DidPublish shape told s v res content rows t w result → PutSteps shape told v res content res w (act_published res.up result)
published_so shape told s t v w res content rows (published.Stored first stripes) is did = λ u asked from.
    subst (λ (n : ℕ). Concludes shape told u asked (act.Stored n stripes res.up) content w) (sym did.0)
    (subst (λ (n : ℕ). Concludes shape told u asked (act.Stored res.first n res.up) content w) (sym did.1) (ended_stored shape told u v w asked res from s t content did.2))
published_so shape told s t v w res content rows (published.NameTaken receipts) is did = λ u asked from.
    ended_unstored shape told u v w asked res from s.sequence t.sequence act.NameTaken did.1.event
published_so shape told s t v w res content rows (published.Overtaken at receipts) is did =
    moves_same shape told s.sequence t.sequence v w res did.1.event did.1.calls is

pub stands_so : (shape : Shape) (told : Bool) {N : Type 0} (s t : CoordState) (v w : PassState) (old new : Reservation N) → IsReserved shape told v old → StandsPlaces shape told s v old new t w
    → PutMoves shape told v old new w
stands_so shape told {N} s t v w old new is stands =
    subst (λ (r : Reservation N). PutMoves shape told v old r w) (sym stands.same) (moves_same shape told s.sequence t.sequence v w old stands.event stands.calls is)

pub gave_up_so : (shape : Shape) (told : Bool) {N : Type 0} (s t : CoordState) (v w : PassState) (old new : Reservation N) (what : Act) → GivesUpPlaces shape told s v old new what t w
    → (u : PassState) (asked : Deed) → IsPlacedFrom shape told u asked old v → Concludes shape told u asked what [] w
gave_up_so shape told s t v w old new what gives u asked from = ended_unstored shape told u v w asked old from s.sequence t.sequence what gives.ends

-- ---- several steps

module _ (shape : Shape) (told : Bool) {N : Type 0} where
  pub moves_both : (u v w : PassState) (p q r : Reservation N) → PutMoves shape told u p q v → PutMoves shape told v q r w → PutMoves shape told u p r w
  moves_both u v w p q r a b = record {
    reserved = b.reserved;
    same = b.same ∙ a.same;
    from = λ x asked from. b.from x asked (a.from x asked from);
  }

  pub put_by_past : (u v w : PassState) (p q : Reservation N) (bytes : List ℕ) (what : Act) → PutMoves shape told u p q v → PutBy shape told v q bytes what w → PutBy shape told u p bytes what w
  put_by_past u v w p q bytes what moves by = λ x asked from. by x asked (moves.from x asked from)

  pub stops_here : (u v : PassState) (p q : Reservation N) → PutMoves shape told u p q v → PutStops shape told u p v
  stops_here u v p q moves = λ x asked from.
      let here = moves.from x asked from in
      record { more = here.goes.more; steps = here.goes.steps; calls = here.goes.calls }

  pub none_moved : (u : PassState) (p : Reservation N) → IsReserved shape told u p → PutMoves shape told u p p u
  none_moved u p is = record { reserved = is; same = refl; from = λ x asked from. from }

-- whether it stopped or not
pub stops_either : {N A E : Type 0} (shape : Shape) (told : Bool) (v p w : PassState) (asked : Deed) (res : Reservation N) (result : Result A E) → IsPlacedFrom shape told v asked res p
    → OnErr result (PutStops shape told p res w) → OnErr result (WentOn v w)
stops_either shape told v p w asked res (Ok a) from stops = tt
stops_either shape told v p w asked res (Err e) from stops = stops v asked from
