-- A put gets its places.
use Rattle.std.proofs.Common.{◌≡◌, ℕ, ◌+◌, ◌-◌, ◌*◌, ◌^◌, ◌<◌, ◌≤◌, Bool, true, false, ◌||◌, List, [], ◌∷◌, ◌++◌, length, drop, replicate, set, Option, Some, None, refl, sym, ◌∙◌, ap, subst, arith, append-nil, length-set, get_or-set_same, get_or-set_other}
use Rattle.std.specs.Prelude.{bytes_eq, is_some, slice_index, sum, IsTrue}
use Rattle.std.specs.List.{list_any}
use Rattle.std.specs.Option.{option_map_or}
use Rattle.std.proofs.lemmas.List.Elements.{All-nil}
use Rattle.std.proofs.lemmas.List.Sums.{count_by-le-length, sum_by-set}
use Rattle.std.proofs.lemmas.Slice.Eq.{bytes_eq-Decides}
use Rattle.ecp_shape.specs.declared.limits.TheConstants.{MAX_ATTEMPTS}
use Rattle.ecp_shape.specs.declared.shape.Shape.{Shape}
use Rattle.ecp_book.specs.Logs.{Known, Log, history_log}
use Rattle.ecp_code.specs.Stripes.{stripe_count}
use Rattle.ecp_entry.specs.declared.deed.Deed.{Deed}
use Rattle.ecp_entry.specs.declared.deed.Deed.TheVariants.{Put}
use Rattle.ecp_entry.specs.Entries.{deed_name}
use Rattle.ecp_entry.specs.Told.{history_of, items_by}
use Rattle.ecp_history.specs.Follows.{passes_at}
use Rattle.ecp_history.specs.Fronts.{told_table}
use Rattle.ecp_history.specs.Legal.{TellsLegal}
use Rattle.ecp_catalog.specs.declared.limits.TheConstants.{END_OF_STRIPES}
use Rattle.ecp_catalog.specs.Catalogs.{CatalogState, NodeSeen, files_of, is_entered, spare_of}
use Rattle.ecp_catalog.specs.Catalogs as catalogs
use Rattle.ecp_catalog.specs.Outline.{IsOutline, loss_positions}
use Rattle.ecp_catalog.specs.Stamps.{StampsSeen}
use Rattle.ecp_catalog.proofs.OutlineLaws.{same_parts}
use Rattle.ecp_history.specs.table.Steps.{table_of}
use Rattle.ecp_history.specs.table.Tables.{up_count}
use Rattle.ecp_plan.specs.declared.voids.Voids.{Voids}
use Rattle.ecp_sequencer.specs.declared.limits.TheConstants.{ROOM}
use Rattle.ecp_sequencer.specs.Histories.{notes_at}
use Rattle.ecp_sequencer.specs.Notes.{Call, note}
use Rattle.ecp_sequencer.specs.Facts.{HandFacts, entries_noted, facts_of, room_noted}
use Rattle.ecp_sequencer.specs.Passes.{IsWhole, PassState}
use Rattle.ecp_sequencer.specs.Sequencers.{SequencerState}
use Rattle.ecp_sequencer.specs.Steps.{Event, call_with}
use Rattle.ecp_sequencer.proofs.NoteLaws.{facts-other, room-more}
use Rattle.ecp_sequencer.proofs.StepLaws.{steps_both}
use Rattle.ecp_sequencer.proofs.StepLaws.{steps_whole}
use Rattle.ecp_coord.specs.declared.reservation.Reservation.{Reservation}
use Rattle.ecp_coord.specs.Bookings.{booking, bookings_noted, name_open, reserved, still_due, taken_by}
use Rattle.ecp_coord.specs.Calls.{IsOpen}
use Rattle.ecp_coord.specs.Coords.{AreTags, CoordParts, HasRoom, IsCoord, is_drop, is_losing, losers, parts_of}
use Rattle.ecp_coord.specs.Puts.{ArePlaces, IsPlacedNow, IsReserved, Reserves, hindered, booking_of, booking_says, is_any_loss}
use Rattle.ecp_coord.specs.Voids.{AreVoids, positions_of}
use Rattle.ecp_coord.proofs.BookLaws.{Serves, bookings-more, reserved_name, reserved_open, reserved_taken}
use Rattle.ecp_coord.specs.Numbers.{AreCovered, numbers_by, open_numbers}
use Rattle.ecp_coord.proofs.CoverLaws.{covered_more, open_fresh, open_reserved}
use Rattle.ecp_coord.proofs.FollowLaws.{IsMet}
use Rattle.ecp_coord.proofs.KeepLaws.{idle_kept}
use Rattle.ecp_coord.proofs.PlaceLaws.{are_places, seen, unhindered}
use Rattle.ecp_coord.proofs.RoomLaws.{asks_open, room_kept}
use Rattle.ecp_coord.proofs.StoreLaws.{TakesNumbers, booked_more}

-- ---- the catalog with a name entered

or_true : (b : Bool) → (b || true) ≡ true
or_true true = refl
or_true false = refl

pub reserved_outline : (shape : Shape) (told : Bool) (c d : CatalogState) (items : Log) (name : List ℕ) (hands : ℕ) → IsOutline shape told c (history_of items)
    → catalogs.Reserves (files_of c) (files_of d) name hands → d.nodes ≡ c.nodes → IsOutline shape told d (history_of items)
reserved_outline shape told c d items name hands is reserves nodes =
    same_parts shape told (table_of shape (history_of items)) (λ m. loss_positions m (history_of items)) c d is reserves.shape reserves.files nodes

pub reserved_serves : (c d : CatalogState) (name : List ℕ) (hands : ℕ) → catalogs.Reserves (files_of c) (files_of d) name hands → d.nodes ≡ c.nodes → Serves c d
reserved_serves c d name hands reserves nodes = record {
  nodes = ap (λ (xs : List NodeSeen). length xs) nodes;
  names = λ q there. reserves.entered q ∙ ap (λ (b : Bool). bytes_eq name q || b) there ∙ or_true (bytes_eq name q);
  room = let is = reserves.room in omega (arith, is);
}

pub reserved_room : (nodes : ℕ) (c d : CatalogState) (notes : List Log) → d.nodes ≡ c.nodes → HasRoom nodes c notes → HasRoom nodes d notes
reserved_room nodes c d notes same has = λ m below. subst (λ (xs : List NodeSeen). losers m notes ≤ spare_of xs m) (sym same) (has m below)

-- ---- what the note makes of the hand

-- a note of a reservation leaves the call open
pub still_open : (p q : PassState) (asked : Deed) (point room : ℕ) (says : List ℕ) → IsOpen p asked → q.notes ≡ p.notes ++ note point room (reserved ∷ says) ∷ [] → q.calls ≡ p.calls → 1 ≤ room
    → IsWhole q → IsOpen q asked
still_open p q asked point room says is noted calls some whole =
    let facts = ap (λ (ns : Log). facts_of ns) noted ∙ facts-other p.notes point room (reserved ∷ says) (omega arith) in
    let left : room_noted q.notes ≡ room = ap (λ (f : HandFacts). f.room) facts in
    record {
      whole = whole;
      begun = let was = is.begun in omega (arith, was, calls);
      call = ap (λ (f : HandFacts). f.call) facts ∙ is.call ∙ ap (λ (n : ℕ). Some (call_with (n - 1) asked)) (sym calls);
      room = omega (arith, left, some);
    }

-- a hand whose open call is a put loses no node
pub put_loses_none : (p : PassState) (name : List ℕ) (len node : ℕ) → IsOpen p (Put name len) → is_losing node p.notes ≡ false
put_loses_none p name len node is = ap (asks_open node) is.call

-- ---- the reservation

-- what a reservation has that was made now, by the history, the pass after it and its hand's notes
pub record IsMade (shape : Shape) (told : Bool) {N : Type 0} (s t : SequencerState) (v w : PassState) (res : Reservation N) (room : ℕ) : Type 0 where
  pub was_open : IsOpen v (Put res.name res.len)
  pub event : Event shape told s v [] (note (length s.history) room (booking_of res) ∷ []) t w
  pub calls : w.calls ≡ v.calls
  pub on_history : res.front.log ≡ history_log
  pub front : res.front.items ≡ s.history
  pub point : res.point ≡ length s.history
  pub counted : res.stripes ≡ stripe_count shape.k shape.block res.len
  pub places : ArePlaces shape (told_table shape s.history) res
  pub few : res.voids.len < MAX_ATTEMPTS
  pub voids : AreVoids shape is_any_loss v.hand s.history res.voids
  pub enough : MAX_ATTEMPTS ≤ room + res.voids.len

pub is_reserved : (shape : Shape) (told : Bool) {N : Type 0} (s t : SequencerState) (v w : PassState) (res : Reservation N) (room : ℕ) → IsMade shape told s t v w res room → IsReserved shape told w res
is_reserved shape told s t v w res room made =
    let event = made.event in
    let whole : t.history ≡ s.history = event.history ∙ append-nil s.history in
    let items : w.front ≡ res.front.items = event.front ∙ whole ∙ sym made.front in
    let left : room_noted w.notes ≡ room = ap room_noted event.steps.noted ∙ room-more v.notes (length s.history) room (booking_of res) in
    record {
      is_open = still_open v w (Put res.name res.len) (length s.history) room (booking_says res) made.was_open event.steps.noted made.calls
          (let few = made.few in let enough = made.enough in omega (arith, few, enough))
          (steps_whole v w [] (note (length s.history) room (booking_of res) ∷ []) event.steps made.was_open.whole);
      last = (bookings_noted v.notes, ap (λ (ns : Log). bookings_noted ns) event.steps.noted ∙ bookings-more v.notes (length s.history) room (booking_says res));
      on_history = made.on_history;
      legal = subst (λ (xs : Log). TellsLegal shape told xs) items event.legal;
      point = made.point ∙ ap (λ (xs : Log). length xs) (sym made.front);
      own = subst (λ (xs : Log). items_by w.hand xs ≡ entries_noted w.notes) items event.agrees.known;
      counted = made.counted;
      places = subst (λ (xs : Log). ArePlaces shape (told_table shape xs) res) (sym made.front) made.places;
      few = made.few;
      voids = subst (λ (xs : Log). AreVoids shape is_any_loss w.hand xs res.voids) (sym made.front)
          (subst (λ (h : ℕ). AreVoids shape is_any_loss h s.history res.voids) (sym event.steps.hand) made.voids);
      room = let enough = made.enough in omega (arith, enough, left);
    }

-- a pass whose front was made the whole history, and that noted something then
event_renewed : (shape : Shape) (told : Bool) (s t : SequencerState) (v w : PassState) (more : Log) → Event shape told s v [] [] s (record v { front = s.history })
    → Event shape told s (record v { front = s.history }) [] more t w → Event shape told s v [] more t w
event_renewed shape told s t v w more a b = record {
  history = b.history;
  notes = b.notes;
  steps = steps_both v (record v { front = s.history }) w [] [] [] more a.steps b.steps;
  front = b.front;
  legal = b.legal;
  agrees = b.agrees;
}

-- What calls say of the pass and the sequencer on the way: they met, the front was made the whole history and copied
pub record FrontRenewed (shape : Shape) (told : Bool) (s x y : SequencerState) (v q r u : PassState) : Type 0 where
  pub met_same : x ≡ s
  pub met_pass : q ≡ v
  pub event : Event shape told x q [] [] y r
  pub same : y ≡ x
  pub pass : r ≡ record q { front = x.history }
  pub copied : u ≡ r

-- the pass then
pub renewed_pass : (shape : Shape) (told : Bool) (s x y : SequencerState) (v q r u : PassState) → FrontRenewed shape told s x y v q r u → u ≡ record v { front = s.history }
renewed_pass shape told s x y v q r u by =
    by.copied ∙ by.pass ∙ ap (λ (p : PassState). let o : PassState = record p { front = x.history } in o) by.met_pass
    ∙ ap (λ (z : SequencerState). let o : PassState = record v { front = z.history } in o) by.met_same

-- it did nothing
pub renewed_event : (shape : Shape) (told : Bool) (s x y : SequencerState) (v q r u : PassState) → FrontRenewed shape told s x y v q r u → Event shape told s v [] [] s (record v { front = s.history })
renewed_event shape told s x y v q r u by =
    let now : r ≡ record v { front = s.history } = sym by.copied ∙ renewed_pass shape told s x y v q r u by in
    subst (λ (p : PassState). Event shape told s v [] [] s p) now
    (subst (λ (z : SequencerState). Event shape told s v [] [] z r) (by.same ∙ by.met_same)
    (subst (λ (p : PassState). Event shape told s p [] [] y r) by.met_pass
    (subst (λ (z : SequencerState). Event shape told z q [] [] y r) by.met_same by.event)))

-- what it notes then is what it notes of the event
pub renewed_noted : (shape : Shape) (told : Bool) (s x y t : SequencerState) (v q r u w : PassState) (more : Log) → FrontRenewed shape told s x y v q r u → Event shape told y u [] more t w
    → Event shape told s v [] more t w
renewed_noted shape told s x y t v q r u w more by event =
    event_renewed shape told s t v w more (renewed_event shape told s x y v q r u by)
    (subst (λ (p : PassState). Event shape told s p [] more t w) (renewed_pass shape told s x y v q r u by)
    (subst (λ (z : SequencerState). Event shape told z u [] more t w) (by.same ∙ by.met_same) event))

pub renewed_booked : (shape : Shape) (told : Bool) (s x y t : SequencerState) (v q r u w : PassState) (room : ℕ) (what : List ℕ) → FrontRenewed shape told s x y v q r u
    → Event shape told y u [] (note (length y.history) room what ∷ []) t w → Event shape told s v [] (note (length s.history) room what ∷ []) t w
renewed_booked shape told s x y t v q r u w room what by event =
    renewed_noted shape told s x y t v q r u w (note (length s.history) room what ∷ []) by
    (subst (λ (z : SequencerState). Event shape told y u [] (note (length z.history) room what ∷ []) t w) (by.same ∙ by.met_same) event)

-- the copy of the front is the history
pub renewed_front : (shape : Shape) (told : Bool) (s x y : SequencerState) (v q r u : PassState) → FrontRenewed shape told s x y v q r u → r.front ≡ s.history
renewed_front shape told s x y v q r u by = ap (λ (p : PassState). p.front) by.pass ∙ ap (λ (z : SequencerState). z.history) by.met_same

once : (n : ℕ) → 0 + n ≡ (0 + 1) * n
once n = omega arith

-- a reservation that is made takes its stripes once more
pub made_covered : (shape : Shape) (told : Bool) (callers spares : ℕ) {N : Type 0} (s t : SequencerState) (v w : PassState) (res : Reservation N) (room stripes : ℕ)
    → IsMet shape told callers spares s v → IsMade shape told s t v w res room → open_numbers shape v.notes + res.stripes ≡ (res.voids.len + 1) * res.stripes → AreCovered shape s stripes
    → AreCovered shape t (stripes + res.stripes)
made_covered shape told callers spares s t v w res room stripes met made before covered =
    let event = made.event in
    let x : List ℕ = note (length s.history) room (booking_of res) in
    let within : v.hand < length s.notes = omega (arith, met.in_range, met.kept.hands) in
    let was : open_numbers shape (notes_at s.notes v.hand) ≡ open_numbers shape v.notes = ap (λ (ns : Log). open_numbers shape ns) met.agree.notes in
    let now : open_numbers shape w.notes ≡ (res.voids.len + 1) * res.stripes =
    ap (λ (ns : Log). open_numbers shape ns) event.steps.noted
    ∙ open_reserved shape v.notes (length s.history) room (booking_says res) (call_with (v.calls - 1) (Put res.name res.len)) made.was_open.call
    ∙ ap (λ (n : ℕ). (res.voids.len + 1) * n) (sym made.counted) in
    let same : numbers_by shape (history_of t.history) ≡ numbers_by shape (history_of s.history) = ap (λ (xs : Log). numbers_by shape (history_of xs)) (event.history ∙ append-nil s.history) in
    covered_more shape s t stripes res.stripes v.hand w.notes (x ∷ []) covered within event.notes
    (event.steps.noted ∙ ap (λ (ns : Log). ns ++ x ∷ []) (sym met.agree.notes)) (λ all. omega (arith, before, was, now, same))

-- ---- the coordinator

abbrev pub with_booking : CoordParts → CatalogState → ℕ → List ℕ → CoordParts
with_booking p d stripes promises = parts_of d p.hands p.slice p.tags stripes promises

module _ (shape : Shape) (told : Bool) (callers spares : ℕ) where
  pub reserved_kept : {N : Type 0} (s t : SequencerState) (v w : PassState) (p : CoordParts) (d : CatalogState) (later : List ℕ) (res : Reservation N) (room : ℕ)
      → IsCoord shape told callers spares s p → IsMet shape told callers spares s v → IsMade shape told s t v w res room → IsOutline shape told d (history_of s.history) → Serves p.catalog d
      → HasRoom shape.nodes d s.notes → TakesNumbers s t p.catalog d p.stripes p.promises later v.hand v.notes w.notes (booking_says res)
      → open_numbers shape v.notes + res.stripes ≡ (res.voids.len + 1) * res.stripes → IsCoord shape told callers spares t (with_booking p d (p.stripes + res.stripes) later)
  reserved_kept s t v w p d later res room is met made outline serves has takes before =
      let same : s.history ≡ t.history = sym (made.event.history ∙ append-nil s.history) in
      let now : IsOpen w (Put res.name res.len) = (is_reserved shape told s t v w res room made).is_open in
      record {
        outline = subst (λ (xs : Log). IsOutline shape told d (history_of xs)) same outline;
        range = is.range;
        each_node = serves.nodes ∙ is.each_node;
        most = is.most;
        counted = is.counted;
        sliced = is.sliced;
        tagged = subst (λ (xs : Log). AreTags shape.nodes xs p.tags) same is.tagged;
        room = subst (HasRoom shape.nodes d) (sym made.event.notes)
            (room_kept shape.nodes d s.notes v.hand w.notes has (omega (arith, met.in_range, met.kept.hands)) (λ m. put_loses_none w res.name res.len m now));
        idle = idle_kept spares v.caller s.notes t.notes v.hand w.notes is.idle met.own made.event.notes;
        no_drops = ap (λ (xs : Log). list_any is_drop (history_of xs)) (sym same) ∙ is.no_drops;
        booked = booked_more s t p.catalog d p.stripes p.promises later v.hand v.notes w.notes (booking_says res) is.booked takes;
        covered = made_covered shape told callers spares s t v w res room p.stripes met made before is.covered;
      }

-- a reservation that is made by a catalog, the outline of the history
pub made_is : (shape : Shape) (told : Bool) {N : Type 0} (s t : SequencerState) (v w : PassState) (c : CatalogState) (name : List ℕ) (len first stripes : ℕ) (voids : Voids) (res : Reservation N) (room : ℕ)
    → IsOpen v (Put name len) → IsOutline shape told c (history_of s.history) → IsPlacedNow c name len first stripes (record { log = history_log; items = s.history }) voids res
    → stripes ≡ stripe_count shape.k shape.block len → shape.n ≤ up_count (told_table shape s.history) → voids.len < MAX_ATTEMPTS → AreVoids shape is_any_loss v.hand s.history voids
    → MAX_ATTEMPTS ≤ room + voids.len → Event shape told s v [] (note (length s.history) room (booking_of res) ∷ []) t w → w.calls ≡ v.calls → IsMade shape told s t v w res room
made_is shape told s t v w c name len first stripes voids res room asked outline placed counted enough few tries left event calls =
    let named : name ≡ res.name = sym placed.named.0 in
    let sized : len ≡ res.len = sym placed.named.1 in
    record {
      was_open = subst (λ (n : List ℕ). IsOpen v (Put n res.len)) named (subst (λ (k : ℕ). IsOpen v (Put name k)) sized asked);
      event = event;
      calls = calls;
      on_history = ap (λ (k : Known). k.log) placed.its_front;
      front = ap (λ (k : Known). k.items) placed.its_front;
      point = placed.point;
      counted = placed.numbers.1 ∙ counted ∙ ap (λ (k : ℕ). stripe_count shape.k shape.block k) sized;
      places = are_places shape told c (history_of s.history) res outline placed.nodes placed.incs enough;
      few = subst (λ (x : Voids). x.len < MAX_ATTEMPTS) (sym placed.kept) few;
      voids = subst (λ (x : Voids). AreVoids shape is_any_loss v.hand s.history x) (sym placed.kept) tries;
      enough = subst (λ (x : Voids). MAX_ATTEMPTS ≤ room + x.len) (sym placed.kept) left;
    }

-- no position is kept yet
pub none_kept : (shape : Shape) (hand : ℕ) (front : Log) → AreVoids shape is_any_loss hand front (record { len = 0; at = replicate MAX_ATTEMPTS 0 })
none_kept shape hand front = record {
  rising = λ k within. absurd (omega (arith, within));
  within = All-nil (λ v. v < length front);
  each = All-nil (λ v. IsTrue (passes_at shape (history_of front) is_any_loss v));
  late = All-nil (λ v. items_by hand (drop v front) ≡ []);
  rest = refl;
}

-- a first attempt takes numbers: as many as it has now, and fifteen times as many are kept back
pub first_takes : (shape : Shape) (told : Bool) {N : Type 0} (callers spares : ℕ) (s t : SequencerState) (v w : PassState) (p : CoordParts) (d : CatalogState) (res : Reservation N)
    → IsCoord shape told callers spares s p → IsMet shape told callers spares s v → IsMade shape told s t v w res ROOM
    → catalogs.Reserves (files_of p.catalog) (files_of d) res.name p.hands → d.nodes ≡ p.catalog.nodes → res.first ≡ p.stripes → res.voids.len ≡ 0
    → p.stripes + sum p.promises + res.stripes * MAX_ATTEMPTS ≤ END_OF_STRIPES
    → TakesNumbers s t p.catalog d p.stripes p.promises (set p.promises v.hand (res.stripes * (MAX_ATTEMPTS - 1))) v.hand v.notes w.notes (booking_says res)
first_takes shape told callers spares s t v w p d res is met made reserves nodes first none numbers =
    let noted = made.event.steps.noted in
    let named : bytes_eq res.name res.name ≡ true = (bytes_eq-Decides res.name res.name).1 refl in
    let within : v.hand < length s.notes = omega (arith, met.in_range, met.kept.hands) in
    let in_promises : v.hand < length p.promises = let sized = is.booked.sized in omega (arith, within, sized) in
    let due : ℕ = res.stripes * (MAX_ATTEMPTS - 1) in
    let open_call : (facts_of v.notes).call ≡ Some (call_with (v.calls - 1) (Put res.name res.len)) = made.was_open.call in
    let name : name_open w.notes ≡ res.name =
    ap (λ (ns : Log). name_open ns) noted ∙ reserved_name v.notes (length s.history) ROOM (booking_says res) ∙ ap (λ (o : Option Call). option_map_or (λ c. deed_name c.deed) o []) open_call in
    let set_there : slice_index (set p.promises v.hand due) v.hand ≡ due = get_or-set_same p.promises v.hand due 0 in_promises in
    record {
      within = within;
      before = met.agree.notes;
      after = made.event.notes;
      is_booked = ap (λ (ns : Log). booking ns) noted ∙ reserved_open v.notes (length s.history) ROOM (booking_says res) (call_with (v.calls - 1) (Put res.name res.len)) open_call;
      name = ap (is_entered d.names) name ∙ reserves.entered res.name ∙ ap (λ (b : Bool). b || is_entered p.catalog.names res.name) named;
      taken = ap (λ (ns : Log). taken_by ns) noted ∙ reserved_taken v.notes (length s.history) ROOM (booking_says res);
      history = ap history_of (made.event.history ∙ append-nil s.history);
      first = first;
      names = (reserved_serves p.catalog d res.name p.hands reserves nodes).names;
      room = let most = count_by-le-length (λ (ns : Log). is_some (booking ns)) t.notes in
          let size : length t.notes ≡ length s.notes = ap (λ (ns : List Log). length ns) made.event.notes ∙ length-set s.notes v.hand w.notes in
          let all = met.kept.hands in let count = is.counted in let enough = reserves.room in
          omega (arith, most, size, all, count, enough);
      sized = length-set p.promises v.hand due;
      others = λ h apart. get_or-set_other p.promises v.hand h due 0 apart;
      own = subst (λ (k : ℕ). still_due (booking_says res) ≤ k) (sym set_there)
          (subst (λ (k : ℕ). (MAX_ATTEMPTS - (k + 1)) * res.stripes ≤ due) (sym none) (omega arith));
      numbers = let all = sum_by-set (λ (x : ℕ). x) p.promises v.hand due 0 in_promises in omega (arith, all, numbers);
    }

-- ---- the whole event

-- nothing hinders the put, and this was made of it: a reservation with no position, by a catalog that has the put's name
pub record FirstMade (shape : Shape) (told : Bool) {N : Type 0} (s t : SequencerState) (v w : PassState) (p : CoordParts) (d : CatalogState) (name : List ℕ) (len stripes : ℕ) (res : Reservation N) : Type 0 where
  pub asked : IsOpen v (Put name len)
  pub none : (facts_of v.notes).since ≡ []
  pub free : hindered shape (told_table shape s.history) name ≡ None
  pub reserves : catalogs.Reserves (files_of p.catalog) (files_of d) name p.hands
  pub nodes : d.nodes ≡ p.catalog.nodes
  pub numbers : p.stripes + sum p.promises + stripes * MAX_ATTEMPTS ≤ END_OF_STRIPES
  pub counted : stripes ≡ stripe_count p.catalog.shape.k p.catalog.shape.block len
  pub placed : IsPlacedNow d name len p.stripes stripes (record { log = history_log; items = s.history }) (record { len = 0; at = replicate MAX_ATTEMPTS 0 }) res
  pub event : Event shape told s v [] (note (length s.history) ROOM (booking_of res) ∷ []) t w
  pub calls : w.calls ≡ v.calls

module _ (shape : Shape) (told : Bool) (callers spares : ℕ) {N : Type 0} (s t : SequencerState) (v w : PassState) (p : CoordParts) (d : CatalogState) (name : List ℕ) (len stripes : ℕ) (res : Reservation N)
    (is : IsCoord shape told callers spares s p) (met : IsMet shape told callers spares s v) (first : FirstMade shape told s t v w p d name len stripes res) where
  first_outline : IsOutline shape told d (history_of s.history)
  first_outline = reserved_outline shape told p.catalog d s.history name p.hands is.outline first.reserves first.nodes

  first_made : IsMade shape told s t v w res ROOM
  first_made =
      let free = unhindered shape (told_table shape s.history) name (sym first.free) in
      made_is shape told s t v w d name len p.stripes stripes (record { len = 0; at = replicate MAX_ATTEMPTS 0 }) res ROOM first.asked first_outline first.placed
      (first.counted ∙ ap (λ (x : Shape). stripe_count x.k x.block len) is.outline.sizes) free.enough (omega arith) (none_kept shape v.hand s.history) (omega arith) first.event first.calls

  pub first_coord : IsCoord shape told callers spares t (with_booking p d (p.stripes + stripes) (set p.promises v.hand (stripes * (MAX_ATTEMPTS - 1))))
  first_coord =
      let as_many : res.stripes ≡ stripes = first.placed.numbers.1 in
      let reserves : catalogs.Reserves (files_of p.catalog) (files_of d) res.name p.hands =
      subst (λ (n : List ℕ). catalogs.Reserves (files_of p.catalog) (files_of d) n p.hands) (sym first.placed.named.0) first.reserves in
      let numbers : p.stripes + sum p.promises + res.stripes * MAX_ATTEMPTS ≤ END_OF_STRIPES =
      subst (λ (k : ℕ). p.stripes + sum p.promises + k * MAX_ATTEMPTS ≤ END_OF_STRIPES) (sym as_many) first.numbers in
      let tries : res.voids.len ≡ 0 = ap (λ (x : Voids). x.len) first.placed.kept in
      subst (λ (k : ℕ). IsCoord shape told callers spares t (with_booking p d (p.stripes + k) (set p.promises v.hand (k * (MAX_ATTEMPTS - 1))))) as_many
      (reserved_kept shape told callers spares s t v w p d (set p.promises v.hand (res.stripes * (MAX_ATTEMPTS - 1))) res ROOM is met first_made first_outline
      (reserved_serves p.catalog d name p.hands first.reserves first.nodes) (reserved_room shape.nodes p.catalog d s.notes first.nodes is.room)
      (first_takes shape told callers spares s t v w p d res is met first_made reserves first.nodes first.placed.numbers.0 tries numbers)
      (ap (λ (n : ℕ). n + res.stripes) (open_fresh shape v.notes first.none) ∙ once res.stripes ∙ ap (λ (n : ℕ). (n + 1) * res.stripes) (sym tries)))

  pub first_reserves : (x : StampsSeen) (repairs slice : ℕ) (cyclic : Bool) (nodes : List Log)
      → Reserves shape told (seen s x repairs p.stripes slice cyclic nodes) v res (seen t x repairs (p.stripes + stripes) slice cyclic nodes) w
  first_reserves x repairs slice cyclic nodes = record {
    event = first.event;
    is_reserved = is_reserved shape told s t v w res ROOM first_made;
    front = first_made.front;
    numbered = first.placed.numbers.0;
    tries = ap (λ (y : Voids). positions_of y) first.placed.kept;
    rest = ap (λ (k : ℕ). seen t x repairs (p.stripes + k) slice cyclic nodes) (sym first.placed.numbers.1);
    calls = first.calls;
  }

  -- the numbers fit
  pub first_fits : (stripes * (MAX_ATTEMPTS - 1) < 2 ^ 32) × (p.stripes + stripes < 2 ^ 32) × (v.hand < length p.promises)
  first_fits =
      let most = first.numbers in
      let sized = is.booked.sized in
      (omega (arith, most), omega (arith, most), omega (arith, met.in_range, met.kept.hands, sized))
