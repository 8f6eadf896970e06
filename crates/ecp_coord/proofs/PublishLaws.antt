-- A put stores its file.
use Rattle.std.proofs.Common.{◌≡◌, ℕ, zero, suc, ◌+◌, ◌-◌, ◌*◌, ◌<◌, ◌≤◌, Bool, true, false, cond, List, [], ◌∷◌, ◌++◌, length, map, take, drop, Option, Some, None, refl, sym, ◌∙◌, ap, subst, arith}
use Rattle.std.specs.Prelude.{bytes_eq, find, is_none, is_some, nat_lt, option_and_then, option_map, slice_get}
use Rattle.std.specs.List.{list_any}
use Rattle.std.specs.Option.{option_map_or}
use mathlib.Core.List.{IsPrefix}
use Rattle.std.proofs.lemmas.Bool.{false≢true}
use Rattle.std.proofs.lemmas.List.{drop_at}
use Rattle.std.proofs.Math.Seq.{take-append_seam}
use Rattle.ecp_shape.specs.declared.limits.TheConstants.{MAX_SESSIONS}
use Rattle.ecp_shape.specs.declared.shape.Shape.{Shape}
use Rattle.ecp_book.specs.Logs.{Log}
use Rattle.ecp_book.proofs.Prefixes.{prefix_length}
use Rattle.ecp_code.specs.Stripes.{stripe_count}
use Rattle.ecp_node.specs.Receipts.{ReceiptState}
use Rattle.ecp_entry.specs.declared.act.Act.TheVariants as act
use Rattle.ecp_entry.specs.declared.deed.Deed.TheVariants.{Put}
use Rattle.ecp_entry.specs.declared.part.Part.TheVariants as part
use Rattle.ecp_entry.specs.ReadBack.{line_with, entry_with}
use Rattle.ecp_entry.specs.declared.entry.Entry.{Entry}
use Rattle.ecp_entry.specs.Entries.{deed_name, is_loss}
use Rattle.ecp_entry.specs.Told.{history_of, items_by}
use Rattle.ecp_entry.proofs.ToldLaws.{history_of-append, history_of-more}
use Rattle.ecp_history.specs.Fronts.{told_table}
use Rattle.ecp_history.specs.Legal.{IsLegal, MayFollow}
use Rattle.ecp_history.specs.declared.table.file.File.{File}
use Rattle.ecp_history.specs.declared.table.node.Node.{Node}
use Rattle.ecp_history.specs.table.Steps.{table_at, table_of}
use Rattle.ecp_history.specs.table.Tables.{PlainTable, file_of, is_up, up_count, up_mask}
use Rattle.ecp_history.proofs.tables.StoreLaws.{count_is}
use Rattle.ecp_catalog.specs.Catalogs.{CanStore, CatalogState, NodeSeen, Stores, files_of, first_loss_among, is_entered, plain, spare_of, uncounted}
use Rattle.ecp_catalog.specs.Outline.{AreKept, IsOutline, file_stored}
use Rattle.ecp_catalog.specs.Standing.{FileSeen}
use Rattle.ecp_catalog.proofs.NodeLaws.{length-uncounted}
use Rattle.ecp_catalog.proofs.StoredLaws.{free_numbers, stored_outline}
use Rattle.ecp_sequencer.specs.Notes.{Call, note, entering_of}
use Rattle.ecp_sequencer.specs.Facts.{HandFacts, facts_of, room_noted}
use Rattle.ecp_sequencer.specs.Histories.{notes_at}
use Rattle.ecp_sequencer.specs.Passes.{PassState}
use Rattle.ecp_sequencer.specs.Sequencers.{SequencerState}
use Rattle.ecp_sequencer.specs.Steps.{Event}
use Rattle.ecp_sequencer.proofs.NoteLaws.{facts-entered}
use Rattle.ecp_coord.specs.declared.no_places.NoPlaces.TheVariants as places
use Rattle.ecp_coord.specs.declared.reservation.Reservation.{Reservation}
use Rattle.ecp_coord.specs.Bookings.{CanBeStored, booking, bookings_in, last_of, name_open, taken_by}
use Rattle.ecp_coord.specs.Calls.{ended}
use Rattle.ecp_coord.specs.Coords.{CoordParts, HasRoom, IsCoord, is_drop, losers}
use Rattle.ecp_coord.specs.Puts.{AreReceipts, IsReserved, booking_says, first_overtaking, found_by_publishing, loses_one_of, stored_by}
use Rattle.ecp_coord.proofs.AnyLaws.{any_append_none}
use Rattle.ecp_coord.proofs.BookLaws.{bookers-set, entered_leaves, nothing_booked}
use Rattle.ecp_coord.proofs.CoverLaws.{covered_entered}
use Rattle.ecp_coord.proofs.PutCoverLaws.{open_booking, put_covered}
use Rattle.ecp_coord.proofs.FollowLaws.{IsMet, follows_upto, none_since}
use Rattle.ecp_coord.proofs.KeepLaws.{idle_kept, tags_kept, with_catalog}
use Rattle.ecp_coord.proofs.LoseLaws.{length_told}
use Rattle.ecp_coord.proofs.OvertakeLaws.{first_overtaken, not_lost, position_none}
use Rattle.ecp_coord.proofs.PlaceLaws.{put_refused_told}
use Rattle.ecp_coord.proofs.RoomLaws.{asks_open, room_kept}
use Rattle.ecp_coord.proofs.StoreLaws.{booked_stored, one_where}
use Rattle.ecp_coord.proofs.UpLaws.{kept_later, stays_up}

-- ---- a front that begins the history

pub told_split : (front history : Log) (begins : IsPrefix front history) → history_of history ≡ history_of front ++ history_of begins.0
told_split front history begins = ap history_of (sym begins.1) ∙ history_of-append front begins.0

pub told_take : (front history : Log) → IsPrefix front history → take (length front) (history_of history) ≡ history_of front
told_take front history begins =
    ap (take (length front)) (told_split front history begins)
    ∙ ap (λ (n : ℕ). take n (history_of front ++ history_of begins.0)) (sym (length_told front)) ∙ take-append_seam (history_of front) (history_of begins.0)

pub told_drop : (front history : Log) (begins : IsPrefix front history) → drop (length front) (history_of history) ≡ history_of begins.0
told_drop front history begins =
    ap (drop (length front)) (told_split front history begins)
    ∙ ap (λ (n : ℕ). drop n (history_of front ++ history_of begins.0)) (sym (length_told front)) ∙ drop_at (history_of front) (history_of begins.0) (length (history_of front)) refl

-- ---- a reservation that is open

pub open_name : (shape : Shape) (told : Bool) {N : Type 0} (p : PassState) (res : Reservation N) → IsReserved shape told p res → name_open p.notes ≡ res.name
open_name shape told p res is = ap (λ (o : Option Call). option_map_or (λ c. deed_name c.deed) o []) is.is_open.call

spare-uncounted : (xs : List NodeSeen) (m : ℕ) → spare_of xs m ≡ spare_of (map uncounted xs) m
spare-uncounted [] m = refl
spare-uncounted (x ∷ xs) zero = refl
spare-uncounted (x ∷ xs) (suc m) = spare-uncounted xs m

-- a reservation that may be stored now: its pass met the sequencer, its front begins the history, its name is free, and no node was lost
pub record MayStore (shape : Shape) (told : Bool) (callers spares : ℕ) {N : Type 0} (s : SequencerState) (v : PassState) (p : CoordParts) (res : Reservation N) : Type 0 where
  pub coord : IsCoord shape told callers spares s p
  pub met : IsMet shape told callers spares s v
  pub is_reserved : IsReserved shape told v res
  pub begins : IsPrefix res.front.items s.history
  pub free : file_of (table_of shape (history_of s.history)) res.name ≡ None
  pub steady : list_any (loses_one_of res.up) (drop res.point (history_of s.history)) ≡ false

module _ (shape : Shape) (told : Bool) (callers spares : ℕ) {N : Type 0} (s : SequencerState) (v : PassState) (p : CoordParts) (res : Reservation N) (may : MayStore shape told callers spares s v p res) where
  can_be : CanBeStored (history_of s.history) p.catalog p.stripes (notes_at s.notes v.hand) (booking_says res)
  can_be = may.coord.booked.each v.hand (booking_says res) (ap (λ (ns : Log). booking ns) may.met.agree.notes ∙ open_booking shape told v res may.is_reserved)

  -- the table at the reservation's point is that of its front
  table_then : table_at shape (history_of s.history) res.point ≡ told_table shape res.front.items
  table_then = ap (λ (es : List Entry). table_of shape es) (ap (λ (n : ℕ). take n (history_of s.history)) may.is_reserved.point ∙ told_take res.front.items s.history may.begins)

  none_own : items_by v.hand (drop res.point s.history) ≡ []
  none_own =
      ap (λ (n : ℕ). items_by v.hand (drop n s.history)) may.is_reserved.point
      ∙ none_since v.hand res.front.items s.history may.begins (may.is_reserved.own ∙ sym may.met.agree.entered)

  pub store_follows : (content : List ℕ) → length content ≡ res.len → MayFollow shape told (history_of s.history) (stored_by v res content)
  store_follows content len =
      let e : Entry = stored_by v res content in
      let before : List Entry = history_of s.history in
      record {
        point = record {
          late = follows_upto shape told callers spares s v e res.point may.met may.coord.idle refl none_own;
          early = omega (arith, may.is_reserved.point, prefix_length res.front.items s.history may.begins, length_told s.history);
          own = λ off. absurd (false≢true (sym off));
        };
        agrees = record {
          call = (refl, refl);
          caller = may.met.session;
          name = refl;
          bytes = ap (λ (n : ℕ). Some n) (sym len);
        };
        part = λ off. absurd (false≢true off);
        holds = record {
          free = may.free;
          counted = may.is_reserved.counted ∙ ap (λ (n : ℕ). stripe_count shape.k shape.block n) (sym len) ∙ sym (count_is shape.k shape.block content);
          fresh = can_be.fresh;
          mask = may.is_reserved.places.nodes ∙ ap (λ (t : PlainTable). up_mask t) (sym table_then);
          enough = subst (λ (t : PlainTable). shape.n ≤ up_count t) (sym table_then) may.is_reserved.places.enough;
          steady = λ node up.
              not_lost shape (history_of res.front.items) (drop res.point before) res.up node may.coord.range may.is_reserved.places.nodes
              (subst (λ (t : PlainTable). is_up t node ≡ true) table_then up) may.steady;
        };
      }

  -- the file, with the receipts of its rows
  abbrev pub its_file : List ReceiptState → FileSeen
  its_file rows = record { file = record { name = res.name; len = res.len; first = res.first; stripes = res.stripes }; rows = rows }

  one_room : 1 ≤ p.catalog.room
  one_room =
      let within : v.hand < length s.notes = omega (arith, may.met.in_range, may.met.kept.hands) in
      let own : one_where (booking (notes_at s.notes v.hand)) ≡ 1 = ap one_where (ap (λ (ns : Log). booking ns) may.met.agree.notes ∙ open_booking shape told v res may.is_reserved) in
      let none : one_where (booking []) ≡ 0 = ap one_where nothing_booked in
      omega (arith, may.coord.booked.room, bookers-set s.notes v.hand [] within, own, none)

  -- the catalog can store it
  pub store_can : (rows : List ReceiptState) → length rows ≡ res.stripes * shape.n → CanStore (files_of p.catalog) (its_file rows)
  store_can rows full =
      let sizes = may.coord.outline.sizes in
      record {
        entered = ap (is_entered p.catalog.names) (sym (ap (λ (ns : Log). name_open ns) may.met.agree.notes ∙ open_name shape told v res may.is_reserved)) ∙ can_be.entered;
        free = ap (λ (fs : List File). find (λ f. bytes_eq f.name res.name) fs) may.coord.outline.files ∙ may.free;
        room = one_room;
        counted = may.is_reserved.counted ∙ ap (λ (x : Shape). stripe_count x.k x.block res.len) (sym sizes);
        below = let low : res.first + res.stripes ≤ p.stripes = can_be.below in omega (arith, low, may.coord.booked.numbers);
        fresh = λ k from to. free_numbers shape told p.catalog (history_of s.history) res.first res.stripes k may.met.kept.legal.legal may.coord.outline can_be.fresh from to;
        full = full ∙ ap (λ (x : Shape). res.stripes * x.n) (sym sizes);
      }

  -- a node that was up at the point stands as it did
  stays : (m : ℕ) (y : Node) → y.up ≡ true → slice_get (told_table shape res.front.items).nodes m ≡ Some y → slice_get (table_of shape (history_of s.history)).nodes m ≡ Some y
  stays m y up at =
      let front : List Entry = history_of res.front.items in
      let rest : List Entry = history_of may.begins.0 in
      let split : history_of s.history ≡ front ++ rest = told_split res.front.items s.history may.begins in
      let since : drop res.point (history_of s.history) ≡ rest =
      ap (λ (n : ℕ). drop n (history_of s.history)) may.is_reserved.point ∙ told_drop res.front.items s.history may.begins in
      let is : is_up (table_of shape front) m ≡ true = ap (λ (o : Option Node). option_map_or (λ x. x.up) o false) at ∙ up in
      let none : list_any (is_loss m) rest ≡ false =
      not_lost shape front rest res.up m may.coord.range may.is_reserved.places.nodes is (ap (list_any (loses_one_of res.up)) (sym since) ∙ may.steady) in
      subst (λ (es : List Entry). slice_get (table_of shape es).nodes m ≡ Some y) (sym split)
      (stays_up shape told front rest m y (subst (IsLegal shape told) split may.met.kept.legal.legal) none up at)

  -- the coordinator, once its catalog stored the file
  pub published_kept : (t : SequencerState) (w : PassState) (d : CatalogState) (content : List ℕ) (rows : List ReceiptState) → AreReceipts shape told res content rows
      → Event shape told s v (stored_by v res content ∷ []) (note (length s.history) (room_noted v.notes - 1) (entering_of v.hand (stored_by v res content)) ∷ []) t w
      → Stores p.catalog d (its_file rows) → IsCoord shape told callers spares t (with_catalog p d)
  published_kept t w d content rows receipts event stores =
      let e : Entry = stored_by v res content in
      let c : CatalogState = p.catalog in
      let before : List Entry = history_of s.history in
      let grown : history_of t.history ≡ before ++ e ∷ [] = ap history_of event.history ∙ history_of-more s.history v.hand e in
      let within : v.hand < length s.notes = omega (arith, may.met.in_range, may.met.kept.hands) in
      let facts = ap (λ (ns : Log). facts_of ns) event.steps.noted ∙ facts-entered v.notes (length s.history) (room_noted v.notes - 1) v.hand e in
      let nodes : length d.nodes ≡ length c.nodes = length-uncounted d.nodes ∙ ap (λ (xs : List NodeSeen). length xs) stores.counts.same ∙ sym (length-uncounted c.nodes) in
      let taken : Stores c d (record { file = file_stored e res.first res.stripes; rows = rows }) =
      subst (λ (n : ℕ). Stores c d (record { file = record { name = res.name; len = n; first = res.first; stripes = res.stripes }; rows = rows })) (sym receipts.len) stores in
      let kept : AreKept shape told (table_of shape before) res.first res.up content rows =
      kept_later shape told (told_table shape res.front.items) (table_of shape before) res.first res.up content rows stays receipts.kept in
      let spares_same : (m : ℕ) → spare_of d.nodes m ≡ spare_of c.nodes m =
      λ m. spare-uncounted d.nodes m ∙ ap (λ (xs : List NodeSeen). spare_of xs m) stores.counts.same ∙ sym (spare-uncounted c.nodes m) in
      let has : HasRoom shape.nodes d s.notes = λ m low. subst (λ (k : ℕ). losers m s.notes ≤ k) (sym (spares_same m)) (may.coord.room m low) in
      record {
        outline = subst (IsOutline shape told d) (sym grown)
            (stored_outline shape told c d before e res.first res.stripes res.up rows may.met.kept.legal.legal may.coord.outline (store_follows content receipts.len) refl kept receipts.full taken);
        range = may.coord.range;
        each_node = nodes ∙ may.coord.each_node;
        most = may.coord.most;
        counted = may.coord.counted;
        sliced = may.coord.sliced;
        tagged = tags_kept shape.nodes s.history t.history p.tags v.hand e may.coord.tagged event.history (λ m. refl);
        room = subst (HasRoom shape.nodes d) (sym event.notes)
            (room_kept shape.nodes d s.notes v.hand w.notes has within (λ m. ap (λ (f : HandFacts). asks_open m f.call) facts));
        idle = idle_kept spares v.caller s.notes t.notes v.hand w.notes may.coord.idle may.met.own event.notes;
        no_drops = ap (list_any is_drop) grown ∙ any_append_none is_drop before (e ∷ []) may.coord.no_drops refl;
        covered = covered_entered shape s t v w p.stripes (note (length s.history) (room_noted v.notes - 1) (entering_of v.hand e) ∷ []) may.coord.covered may.met.agree.notes within event.notes event.steps.noted e grown
            (put_covered shape told v res may.is_reserved callers spares s may.met may.coord.idle may.begins e refl refl may.is_reserved.is_open.call);
        booked = booked_stored s t c d p.stripes p.promises v.hand w.notes (booking_says res) e res.up may.coord.booked (record {
          within = within;
          is_open = ap (λ (ns : Log). booking ns) may.met.agree.notes ∙ open_booking shape told v res may.is_reserved;
          after = event.notes;
          closed = ap (λ (f : HandFacts). option_and_then (λ (x : Call). last_of (bookings_in f.since)) f.call) facts;
          taken = ap (λ (ns : Log). taken_by ns) event.steps.noted ∙ (entered_leaves v.notes (length s.history) (room_noted v.notes - 1) v.hand e).taken
              ∙ ap (λ (ns : Log). taken_by ns) (sym may.met.agree.notes);
          grown = grown;
          says = refl;
          names = stores.file.names;
          room = stores.file.room;
        });
      }

-- ---- what is found

some_of : {X : Type 0} (o : Option X) → is_none o ≡ false → is_some o ≡ true
some_of None is = absurd (cc)
some_of (Some x) is = refl

none_of : {X : Type 0} (o : Option X) → is_none o ≡ true → o ≡ None
none_of None is = refl
none_of (Some x) is = absurd (cc)

-- the test that the catalog makes of a name is one of the table
name_tested : (shape : Shape) (told : Bool) (c : CatalogState) (history : List Entry) (name : List ℕ) → IsOutline shape told c history
    → file_of (plain c) name ≡ file_of (table_of shape history) name
name_tested shape told c history name is = ap (λ (fs : List File). find (λ f. bytes_eq f.name name) fs) is.files

pub named_taken : (shape : Shape) (told : Bool) (c : CatalogState) (history : List Entry) (name : List ℕ) → IsOutline shape told c history → is_none (file_of (plain c) name) ≡ false
    → is_some (file_of (table_of shape history) name) ≡ true
named_taken shape told c history name is taken =
    some_of (file_of (table_of shape history) name) (ap (λ (o : Option File). is_none o) (sym (name_tested shape told c history name is)) ∙ taken)

pub named_free : (shape : Shape) (told : Bool) (c : CatalogState) (history : List Entry) (name : List ℕ) → IsOutline shape told c history → is_none (file_of (plain c) name) ≡ true
    → file_of (table_of shape history) name ≡ None
named_free shape told c history name is free =
    none_of (file_of (table_of shape history) name) (ap (λ (o : Option File). is_none o) (sym (name_tested shape told c history name is)) ∙ free)

-- the entry that says that a file has the name may come next
pub taken_follows : (shape : Shape) (told : Bool) (items : Log) (p : PassState) (name : List ℕ) (len : ℕ) → p.caller < MAX_SESSIONS → is_some (file_of (table_of shape (history_of items)) name) ≡ true
    → MayFollow shape told (history_of items) (ended p (Put name len) (length items) act.NameTaken)
taken_follows shape told items p name len session taken =
    put_refused_told shape told items p name len places.NameTaken session
    (ap (λ (b : Bool). cond b (Some places.NameTaken) (cond (nat_lt (up_count (table_of shape (history_of items))) shape.n) (Some (places.TooFewNodes (up_count (table_of shape (history_of items))))) None)) taken)

module _ (shape : Shape) (told : Bool) (callers spares : ℕ) {N : Type 0} (s : SequencerState) (v : PassState) (p : CoordParts) (res : Reservation N) (coord : IsCoord shape told callers spares s p)
    (is : IsReserved shape told v res) where
  -- the first loss that the catalog finds is that of the history
  pub loss_is : first_loss_among p.catalog.nodes res.up res.point ≡ first_overtaking res (history_of s.history)
  loss_is = first_overtaken shape told p.catalog (history_of s.history) (history_of res.front.items) res.up res.point coord.outline coord.each_node coord.range is.places.nodes

  pub found_taken : is_none (file_of (plain p.catalog) res.name) ≡ false → found_by_publishing shape (history_of s.history) res ≡ Some None
  found_taken taken =
      ap (λ (b : Bool). cond b (Some None) (option_map (λ at. Some at) (first_overtaking res (history_of s.history)))) (named_taken shape told p.catalog (history_of s.history) res.name coord.outline taken)

  found_free : is_none (file_of (plain p.catalog) res.name) ≡ true → found_by_publishing shape (history_of s.history) res ≡ option_map (λ at. Some at) (first_overtaking res (history_of s.history))
  found_free free =
      ap (λ (o : Option File). cond (is_some o) (Some None) (option_map (λ at. Some at) (first_overtaking res (history_of s.history)))) (named_free shape told p.catalog (history_of s.history) res.name coord.outline free)

  pub found_over : (at : ℕ) → is_none (file_of (plain p.catalog) res.name) ≡ true → first_loss_among p.catalog.nodes res.up res.point ≡ Some at
      → found_by_publishing shape (history_of s.history) res ≡ Some (Some at)
  found_over at free loss = found_free free ∙ ap (λ (o : Option ℕ). option_map (λ n. Some n) o) (sym loss_is ∙ loss)

  pub found_nothing : is_none (file_of (plain p.catalog) res.name) ≡ true → first_loss_among p.catalog.nodes res.up res.point ≡ None
      → found_by_publishing shape (history_of s.history) res ≡ None
  found_nothing free loss = found_free free ∙ ap (λ (o : Option ℕ). option_map (λ n. Some n) o) (sym loss_is ∙ loss)

  -- where nothing is found the reservation may be stored
  pub may_store : IsMet shape told callers spares s v → IsPrefix res.front.items s.history → found_by_publishing shape (history_of s.history) res ≡ None → MayStore shape told callers spares s v p res
  may_store met begins nothing =
      let both = nothing_found (file_of (table_of shape (history_of s.history)) res.name) (first_overtaking res (history_of s.history)) nothing in
      record {
        coord = coord;
        met = met;
        is_reserved = is;
        begins = begins;
        free = both.0;
        steady = position_none (loses_one_of res.up) res.point (drop res.point (history_of s.history)) both.1;
      }
    where
      nothing_found : (o : Option File) (q : Option ℕ) → cond (is_some o) (Some None) (option_map (λ (n : ℕ). Some n) q) ≡ None → (o ≡ None) × (q ≡ None)
      nothing_found None None is = (refl, refl)
      nothing_found None (Some n) is = absurd (cc)
      nothing_found (Some f) q is = absurd (cc)

-- the entry as it is made is the one that stores the reservation
pub same_stored : {N : Type 0} (v : PassState) (res : Reservation N) (content : List ℕ) (caller calls : ℕ) → caller ≡ v.caller → calls ≡ v.calls
    → stored_by v res content ≡ entry_with (line_with caller (calls - 1) res.point part.End (act.Stored res.first res.stripes res.up)) (Some (Put res.name res.len)) res.name content
same_stored v res content caller calls by number =
    ap (λ (k : ℕ). entry_with (line_with k (v.calls - 1) res.point part.End (act.Stored res.first res.stripes res.up)) (Some (Put res.name res.len)) res.name content) (sym by)
    ∙ ap (λ (n : ℕ). entry_with (line_with caller (n - 1) res.point part.End (act.Stored res.first res.stripes res.up)) (Some (Put res.name res.len)) res.name content) (sym number)
