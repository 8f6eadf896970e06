-- What a reservation of a pass is, and how it is made, made anew and ended.
use Rattle.std.specs.Prelude.{◌≡◌, ℕ, ◌+◌, ◌-◌, ◌*◌, ◌<◌, ◌≤◌, ◌==◌, nat_lt, Bool, if◌then◌else◌, List, [], ◌∷◌, ◌++◌, length, drop, flat_map, slice_index, is_some, is_none, option_map, Option, Some, None, Result, Ok, Err}
use Rattle.std.specs.List.{list_any, position_from}
use Rattle.ecp_shape.specs.declared.limits.TheConstants.{MAX_ATTEMPTS, MAX_NODES}
use Rattle.ecp_shape.specs.declared.shape.Shape.{Shape}
use Rattle.ecp_book.specs.Logs.{Known, history_log}
use Rattle.ecp_code.specs.Stripes.{stripe_count}
use Rattle.ecp_node.specs.Receipts.{ReceiptState}
use Rattle.ecp_entry.specs.declared.act.Act.{Act}
use Rattle.ecp_entry.specs.declared.act.Act.TheVariants as act
use Rattle.ecp_entry.specs.declared.deed.Deed.TheVariants.{Put}
use Rattle.ecp_entry.specs.declared.entry.Entry.{Entry}
use Rattle.ecp_entry.specs.declared.part.Part.TheVariants as part
use Rattle.ecp_entry.specs.Entries.{is_loss, loss_of}
use Rattle.ecp_entry.specs.Items.{sized}
use Rattle.ecp_entry.specs.ReadBack.{line_with, entry_with}
use Rattle.ecp_entry.specs.Told.{history_of, items_by}
use Rattle.ecp_history.specs.Fronts.{told_table}
use Rattle.ecp_history.specs.Legal.{TellsLegal}
use Rattle.ecp_history.specs.table.Placement.{nodes_in}
use Rattle.ecp_history.specs.table.Steps.{table_of}
use Rattle.ecp_history.specs.table.Tables.{PlainTable, file_of, inc_of, up_count, up_mask}
use Rattle.ecp_plan.specs.declared.voids.Voids.{Voids}
use Rattle.ecp_catalog.specs.Catalogs.{CatalogState, plain}
use Rattle.ecp_catalog.specs.Outline.{AreKept}
use Rattle.ecp_sequencer.specs.declared.limits.TheConstants.{ROOM}
use Rattle.ecp_sequencer.specs.Notes.{note, entering_of}
use Rattle.ecp_sequencer.specs.Facts.{entries_noted, room_noted}
use Rattle.ecp_sequencer.specs.Passes.{PassState}
use Rattle.ecp_sequencer.specs.Steps.{EndsWith, Event}
use Rattle.ecp_coord.specs.declared.no_places.NoPlaces.{NoPlaces}
use Rattle.ecp_coord.specs.declared.no_places.NoPlaces.TheVariants.{NameTaken, TooFewNodes, NoMemory}
use Rattle.ecp_coord.specs.declared.published.Published.{Published}
use Rattle.ecp_coord.specs.declared.published.Published.TheVariants as published
use Rattle.ecp_coord.specs.declared.renewed.Renewed.{Renewed}
use Rattle.ecp_coord.specs.declared.renewed.Renewed.TheVariants as renewed
use Rattle.ecp_coord.specs.declared.reservation.Reservation.{Reservation}
use Rattle.ecp_coord.specs.Bookings.{bookings_noted, reserved}
use Rattle.ecp_coord.specs.Calls.{Ends, IsOpen}
use Rattle.ecp_coord.specs.Coords.{CoordState}
use Rattle.ecp_coord.specs.Refusals.{Refuses}
use Rattle.ecp_coord.specs.Voids.{AreVoids, positions_of, with_void}

-- what the note of a reservation says: the first stripe, how many there are, which attempt it is, and the rest of what it has, but for its
-- front, which is the history at its point
abbrev pub booking_says : {N : Type 0} → Reservation N → List ℕ
booking_says res = res.first ∷ res.stripes ∷ (res.voids.len + 1) ∷ res.point ∷ res.len ∷ res.up ∷ flat_map sized (res.name ∷ res.incs ∷ positions_of res.voids ∷ [])

abbrev pub booking_of : {N : Type 0} → Reservation N → List ℕ
booking_of res = reserved ∷ booking_says res

-- whether an entry is a loss of a node
abbrev pub is_any_loss : PlainTable → Entry → Bool
is_any_loss t x = is_some (loss_of x)

-- The places of a reservation are those of a table: its nodes are those that are up, each in its incarnation, and they are at least n
pub record ArePlaces (shape : Shape) (t : PlainTable) {N : Type 0} (res : Reservation N) : Type 0 where
  pub nodes : res.up ≡ up_mask t
  pub enough : shape.n ≤ up_count t
  pub incs : (m : ℕ) → m < MAX_NODES → slice_index res.incs m ≡ inc_of t m

-- The reservation is the last one that the pass's hand noted, in its open call, which asks for its put. Its places are those at its point;
-- all entries of the hand stand before that. Each attempt before this one came to nothing by a loss at a position that it has. There is room
-- for the attempts that are left and for the entry that ends the call
pub record IsReserved (shape : Shape) (told : Bool) {N : Type 0} (p : PassState) (res : Reservation N) : Type 0 where
  pub is_open : IsOpen p (Put res.name res.len)
  pub last : EndsWith (bookings_noted p.notes) (booking_says res)
  pub on_history : res.front.log ≡ history_log
  pub legal : TellsLegal shape told res.front.items
  pub point : res.point ≡ length res.front.items
  pub own : items_by p.hand res.front.items ≡ entries_noted p.notes
  pub counted : res.stripes ≡ stripe_count shape.k shape.block res.len
  pub places : ArePlaces shape (told_table shape res.front.items) res
  pub few : res.voids.len < MAX_ATTEMPTS
  pub voids : AreVoids shape is_any_loss p.hand res.front.items res.voids
  pub room : MAX_ATTEMPTS ≤ room_noted p.notes + res.voids.len

-- A reservation is made now: it has the nodes of a catalog, each in its incarnation, and this front, and is made at its length
pub record IsPlacedNow (c : CatalogState) (name : List ℕ) (len first stripes : ℕ) (front : Known) (voids : Voids) {N : Type 0} (res : Reservation N) : Type 0 where
  pub named : (res.name ≡ name) × (res.len ≡ len)
  pub numbers : (res.first ≡ first) × (res.stripes ≡ stripes)
  pub nodes : res.up ≡ up_mask (plain c)
  pub incs : (m : ℕ) → m < MAX_NODES → slice_index res.incs m ≡ inc_of (plain c) m
  pub point : res.point ≡ length front.items
  pub its_front : res.front ≡ front
  pub kept : res.voids ≡ voids

-- the act that says in the history why a put stores nothing. Want of memory says nothing
abbrev pub refusal_of : NoPlaces → Option Act
refusal_of NameTaken = Some act.NameTaken
refusal_of (TooFewNodes up) = Some (act.TooFewNodes up)
refusal_of NoMemory = None

-- by a table: why no file of this name can be stored, if it cannot
abbrev pub hindered : Shape → PlainTable → List ℕ → Option NoPlaces
hindered shape t name =
    if is_some (file_of t name) then Some NameTaken
    else if nat_lt (up_count t) shape.n then Some (TooFewNodes (up_count t))
    else None

-- why there are no places is what was found. Want of memory comes only where nothing was found
abbrev pub IsWhy : Option NoPlaces → NoPlaces → Type 0
IsWhy found NoMemory = found ≡ None
IsWhy found why = found ≡ Some why

-- the answer is what was found
abbrev pub AnswersPlaces : {N : Type 0} → Option NoPlaces → Result (Reservation N) NoPlaces → Type 0
AnswersPlaces found (Ok res) = found ≡ None
AnswersPlaces found (Err why) = IsWhy found why

-- whether an entry is a loss of a node of a mask
abbrev pub loses_one_of : ℕ → Entry → Bool
loses_one_of mask e = list_any (λ m. is_loss m e) (nodes_in mask)

-- the position of the first loss of one of its nodes since the reservation's point
abbrev pub first_overtaking : {N : Type 0} → Reservation N → List Entry → Option ℕ
first_overtaking res history = position_from (loses_one_of res.up) res.point (drop res.point history)

-- A put has its places: attempt 1, with fresh stripe numbers behind those of all reservations so far
pub record Reserves (shape : Shape) (told : Bool) (s : CoordState) (v : PassState) {N : Type 0} (res : Reservation N) (t : CoordState) (w : PassState) : Type 0 where
  pub event : Event shape told s.sequence v [] (note (length s.sequence.history) ROOM (booking_of res) ∷ []) t.sequence w
  pub is_reserved : IsReserved shape told w res
  pub front : res.front.items ≡ s.sequence.history
  pub numbered : res.first ≡ s.stripes
  pub tries : positions_of res.voids ≡ []
  pub rest : t ≡ record s { sequence = t.sequence; stripes = s.stripes + res.stripes }
  pub calls : w.calls ≡ v.calls

-- what is found where a reservation was overtaken: the name has a file; too few nodes are up; too many attempts came to nothing; else there is
-- another attempt
abbrev pub found_anew : {N : Type 0} → Shape → PlainTable → Reservation N → Renewed
found_anew shape t res =
    if is_some (file_of t res.name) then renewed.NameTaken
    else if nat_lt (up_count t) shape.n then renewed.TooFewNodes (up_count t)
    else if res.voids.len + 1 == MAX_ATTEMPTS then renewed.Unsteady
    else renewed.Again

-- what is found by asking whether a reservation still stands: none of its nodes was lost since its point; else as above
abbrev pub found_by_renewing : {N : Type 0} → Shape → List Entry → Reservation N → Renewed
found_by_renewing shape history res = if is_none (first_overtaking res history) then renewed.StillGood else found_anew shape (table_of shape history) res

-- the act that says in the history why a reservation is not made anew, where that ends the call
abbrev pub end_of : Voids → Renewed → Option Act
end_of voids renewed.NameTaken = Some act.NameTaken
end_of voids (renewed.TooFewNodes up) = Some (act.TooFewNodes up)
end_of voids renewed.Unsteady = Some (act.Unsteady voids.at)
end_of voids _ = None

-- a reservation was overtaken: these are its positions, and behind them that of the first loss since its point
pub record IsOvertaken {N : Type 0} (history : List Entry) (res : Reservation N) (voids : Voids) : Type 0 where
  pub at : ℕ
  pub first : first_overtaking res history ≡ Some at
  pub kept : voids ≡ with_void res.voids at

-- the reservation has one position more, of the first loss since its point
pub record MovesPlaces {N : Type 0} (history : List Entry) (old new : Reservation N) : Type 0 where
  pub at : ℕ
  pub first : first_overtaking old history ≡ Some at
  pub kept : positions_of new.voids ≡ positions_of old.voids ++ at ∷ []

-- the next attempt of a put: the places of now, with fresh numbers
pub record Renews (shape : Shape) (told : Bool) (s : CoordState) (v : PassState) {N : Type 0} (old new : Reservation N) (t : CoordState) (w : PassState) : Type 0 where
  pub event : Event shape told s.sequence v [] (note (length s.sequence.history) (room_noted v.notes - 1) (booking_of new) ∷ []) t.sequence w
  pub is_reserved : IsReserved shape told w new
  pub front : new.front.items ≡ s.sequence.history
  pub numbered : new.first ≡ s.stripes
  pub moves : MovesPlaces (history_of s.sequence.history) old new
  pub same : (new.name ≡ old.name) × (new.len ≡ old.len)
  pub rest : t ≡ record s { sequence = t.sequence; stripes = s.stripes + new.stripes }
  pub calls : w.calls ≡ v.calls

-- there is no further attempt: the call ends with the reason
pub record GivesUpPlaces (shape : Shape) (told : Bool) (s : CoordState) (v : PassState) {N : Type 0} (old new : Reservation N) (what : Act) (t : CoordState) (w : PassState) : Type 0 where
  pub ends : Ends shape told s.sequence v (Put old.name old.len) what t.sequence w
  pub moves : MovesPlaces (history_of s.sequence.history) old new
  pub same : new ≡ record old { voids = new.voids }
  pub rest : t ≡ record s { sequence = t.sequence }

-- the reservation stands: nothing is noted
pub record StandsPlaces (shape : Shape) (told : Bool) (s : CoordState) (v : PassState) {N : Type 0} (old new : Reservation N) (t : CoordState) (w : PassState) : Type 0 where
  pub event : Event shape told s.sequence v [] [] t.sequence w
  pub same : new ≡ old
  pub rest : t ≡ record s { sequence = t.sequence }
  pub calls : w.calls ≡ v.calls

-- what was done, by the answer
abbrev pub DidRenew : {N : Type 0} → Shape → Bool → CoordState → PassState → Reservation N → Reservation N → CoordState → PassState → Renewed → Type 0
DidRenew shape told s v old new t w renewed.Again = Renews shape told s v old new t w
DidRenew shape told s v old new t w renewed.StillGood = StandsPlaces shape told s v old new t w
DidRenew shape told s v old new t w renewed.NameTaken = GivesUpPlaces shape told s v old new act.NameTaken t w
DidRenew shape told s v old new t w (renewed.TooFewNodes up) = GivesUpPlaces shape told s v old new (act.TooFewNodes up) t w
DidRenew shape told s v old new t w renewed.Unsteady = GivesUpPlaces shape told s v old new (act.Unsteady new.voids.at) t w

-- ---- the file is there

-- what is found by publishing: the name has a file; a node of the reservation was lost since its point, first at this position; else it is stored
abbrev pub found_by_publishing : {N : Type 0} → Shape → List Entry → Reservation N → Option (Option ℕ)
found_by_publishing shape history res =
    if is_some (file_of (table_of shape history) res.name) then Some None
    else option_map (λ at. Some at) (first_overtaking res history)

-- the receipts are those of the rows of the content, on their places in the incarnations of the reservation, and there is one for each row
pub record AreReceipts (shape : Shape) (told : Bool) {N : Type 0} (res : Reservation N) (content : List ℕ) (rows : List ReceiptState) : Type 0 where
  pub len : length content ≡ res.len
  pub full : length rows ≡ res.stripes * shape.n
  pub kept : AreKept shape told (told_table shape res.front.items) res.first res.up content rows

-- the entry that stores a file
abbrev pub stored_by : {N : Type 0} → PassState → Reservation N → List ℕ → Entry
stored_by p res content =
    entry_with (line_with p.caller (p.calls - 1) res.point part.End (act.Stored res.first res.stripes res.up)) (Some (Put res.name res.len)) res.name content

-- the open call of a pass ends with its file stored, as of the reservation's point
pub record Publishes (shape : Shape) (told : Bool) (s : CoordState) (v : PassState) {N : Type 0} (res : Reservation N) (content : List ℕ) (t : CoordState) (w : PassState) : Type 0 where
  pub event : Event shape told s.sequence v (stored_by v res content ∷ [])
      (note (length s.sequence.history) (room_noted v.notes - 1) (entering_of v.hand (stored_by v res content)) ∷ []) t.sequence w
  pub rest : t ≡ record s { sequence = t.sequence }
  pub calls : w.calls ≡ v.calls

-- what was done, by the answer. Where nothing is stored, all receipts come back
abbrev pub DidPublish : {N : Type 0} → Shape → Bool → CoordState → PassState → Reservation N → List ℕ → List ReceiptState → CoordState → PassState → Published N → Type 0
DidPublish shape told s v res content rows t w (published.Stored first stripes) =
    (first ≡ res.first) × (stripes ≡ res.stripes) × Publishes shape told s v res content t w
DidPublish shape told s v res content rows t w (published.NameTaken receipts) =
    (receipts.items ≡ rows) × Refuses shape told s v (Put res.name res.len) (Some act.NameTaken) t w
DidPublish shape told s v res content rows t w (published.Overtaken at receipts) =
    (receipts.items ≡ rows) × Refuses shape told s v (Put res.name res.len) None t w

-- the answer is what was found
abbrev pub SaysPublished : {N : Type 0} → Option (Option ℕ) → Published N → Type 0
SaysPublished found (published.Stored first stripes) = found ≡ None
SaysPublished found (published.NameTaken receipts) = found ≡ Some None
SaysPublished found (published.Overtaken at receipts) = found ≡ Some (Some at)
