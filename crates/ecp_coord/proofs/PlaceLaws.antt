-- Why a put gets no places, the places of a table, and the coordinator after a call that ends or is left as it is.
use Rattle.std.proofs.Common.{◌≡◌, ℕ, ◌-◌, ◌<◌, ◌≤◌, Bool, true, false, cond, List, [], length, map, set, Option, Some, None, refl, sym, ◌∙◌, ap, subst, arith, append-nil}
use Rattle.std.specs.Prelude.{is_some, nat_lt, slice_get, slice_index, MatchOption, ⊤}
use Rattle.std.specs.Option.{option_map_or}
use Rattle.std.proofs.lemmas.Bool.{false≢true}
use Rattle.std.proofs.lemmas.Bool.Decides.{nat_tests}
use Rattle.std.proofs.lemmas.List.{set-get_or}
use Rattle.ecp_shape.specs.declared.limits.TheConstants.{MAX_NODES, MAX_SESSIONS}
use Rattle.ecp_shape.specs.declared.shape.Shape.{Shape}
use Rattle.ecp_book.specs.Logs.{Log}
use Rattle.ecp_entry.specs.declared.act.Act.{Act}
use Rattle.ecp_entry.specs.declared.act.Act.TheVariants as act
use Rattle.ecp_entry.specs.declared.deed.Deed.{Deed}
use Rattle.ecp_entry.specs.declared.deed.Deed.TheVariants.{Put}
use Rattle.ecp_entry.specs.declared.entry.Entry.{Entry}
use Rattle.ecp_entry.specs.Told.{history_of}
use Rattle.ecp_history.specs.Legal.{MayFollow}
use Rattle.ecp_history.specs.table.Steps.{table_of}
use Rattle.ecp_history.specs.declared.table.file.File.{File}
use Rattle.ecp_history.specs.declared.table.node.Node.{Node}
use Rattle.ecp_history.specs.table.Placement.{mask_of}
use Rattle.ecp_history.specs.table.Tables.{PlainTable, file_of, inc_of, up_count, up_mask}
use Rattle.ecp_catalog.specs.Catalogs.{CatalogState, plain}
use Rattle.ecp_catalog.specs.Outline.{IsOutline, changes}
use Rattle.ecp_catalog.specs.Stamps.{StampsSeen}
use Rattle.ecp_catalog.proofs.OutlineLaws.{unchanged}
use Rattle.ecp_sequencer.specs.Facts.{HandFacts, room_noted}
use Rattle.ecp_sequencer.specs.Passes.{PassState}
use Rattle.ecp_sequencer.specs.Sequencers.{SequencerState}
use Rattle.ecp_sequencer.specs.Steps.{Event}
use Rattle.ecp_sequencer.proofs.NoteLaws.{facts-entered}
use Rattle.ecp_coord.specs.declared.no_places.NoPlaces.{NoPlaces}
use Rattle.ecp_coord.specs.declared.no_places.NoPlaces.TheVariants as places
use Rattle.ecp_coord.specs.declared.reservation.Reservation.{Reservation}
use Rattle.ecp_coord.specs.Calls.{Ends, ended}
use Rattle.ecp_coord.specs.Coords.{CoordParts, CoordState, HasRoom, IsCoord, is_losing}
use Rattle.ecp_coord.specs.Puts.{ArePlaces, IsWhy, hindered, refusal_of}
use Rattle.ecp_coord.specs.Refusals.{EndsWhere, Refuses, SaysWhy}
use Rattle.ecp_coord.proofs.BookLaws.{Serves, none_leaves, serves_same}
use Rattle.ecp_coord.proofs.EndLaws.{may_end}
use Rattle.ecp_coord.specs.Numbers.{IsCovered}
use Rattle.ecp_coord.proofs.CoverLaws.{same_owes}
use Rattle.ecp_coord.proofs.FollowLaws.{IsMet}
use Rattle.ecp_coord.proofs.KeepLaws.{IsPlain, entered_kept, noted_kept, with_catalog}
use Rattle.ecp_coord.proofs.LoseLaws.{length_told}
use Rattle.ecp_coord.proofs.RoomLaws.{asks_open, room_kept}

-- ---- why no file can be stored

pub no_file : (o : Option File) → is_some o ≡ false → o ≡ None
no_file None is = refl
no_file (Some f) is = absurd (false≢true (sym is))

why_one : (a b : NoPlaces) → Some a ≡ Some b → a ≡ b
why_one a b same = ap (λ (o : Option NoPlaces). option_map_or (λ (x : NoPlaces). x) o a) same

none_some : {X : Type 0} (x : X) → None ≡ Some x → ⊥
none_some x is = false≢true (ap is_some is)

-- the entry that says why, if there is one, may come next
abbrev Follows : Shape → Bool → List Entry → PassState → List ℕ → ℕ → NoPlaces → Type 0
Follows shape told before p name len why = MatchOption (refusal_of why) ⊤ (λ a. MayFollow shape told before (ended p (Put name len) (length before) a))

-- where it is found in a table, with this many nodes up
by_count : (shape : Shape) (told : Bool) (before : List Entry) (p : PassState) (name : List ℕ) (len : ℕ) (why : NoPlaces) (few : Bool) → p.caller < MAX_SESSIONS
    → nat_lt (up_count (table_of shape before)) shape.n ≡ few → is_some (file_of (table_of shape before) name) ≡ false
    → cond few (Some (places.TooFewNodes (up_count (table_of shape before)))) None ≡ Some why → Follows shape told before p name len why
by_count shape told before p name len why false session enough free found = absurd (none_some why found)
by_count shape told before p name len why true session few free found =
    subst (Follows shape told before p name len) (why_one (places.TooFewNodes (up_count (table_of shape before))) why found)
    (may_end shape told before p (Put name len) (act.TooFewNodes (up_count (table_of shape before))) session (refl, refl) refl (λ off. absurd (false≢true off))
    (record { free = no_file (file_of (table_of shape before) name) free; counted = refl; few = (let less : up_count (table_of shape before) < shape.n = grind (arith, nat_tests) in less) }))

put_refused : (shape : Shape) (told : Bool) (before : List Entry) (p : PassState) (name : List ℕ) (len : ℕ) (why : NoPlaces) → p.caller < MAX_SESSIONS
    → hindered shape (table_of shape before) name ≡ Some why
    → MatchOption (refusal_of why) ⊤ (λ a. MayFollow shape told before (ended p (Put name len) (length before) a))
put_refused shape told before p name len why session is = by_file (is_some (file_of (table_of shape before) name)) refl is where
  by_file : (there : Bool) → is_some (file_of (table_of shape before) name) ≡ there
      → cond there (Some places.NameTaken) (cond (nat_lt (up_count (table_of shape before)) shape.n) (Some (places.TooFewNodes (up_count (table_of shape before)))) None) ≡ Some why
      → Follows shape told before p name len why
  by_file true there found =
      subst (Follows shape told before p name len) (why_one places.NameTaken why found)
      (may_end shape told before p (Put name len) act.NameTaken session (refl, refl) refl (λ off. absurd (false≢true off)) there)
  by_file false free found = by_count shape told before p name len why (nat_lt (up_count (table_of shape before)) shape.n) session refl free found

-- by the items that tell the history
pub put_refused_told : (shape : Shape) (told : Bool) (items : Log) (p : PassState) (name : List ℕ) (len : ℕ) (why : NoPlaces) → p.caller < MAX_SESSIONS
    → hindered shape (table_of shape (history_of items)) name ≡ Some why
    → MatchOption (refusal_of why) ⊤ (λ a. MayFollow shape told (history_of items) (ended p (Put name len) (length items) a))
put_refused_told shape told items p name len why session is =
    subst (λ (n : ℕ). MatchOption (refusal_of why) ⊤ (λ a. MayFollow shape told (history_of items) (ended p (Put name len) n a))) (length_told items)
    (put_refused shape told (history_of items) p name len why session is)

-- where nothing hinders it, the name is free and enough nodes are up
pub record Unhindered (shape : Shape) (t : PlainTable) (name : List ℕ) : Type 0 where
  pub free : file_of t name ≡ None
  pub enough : shape.n ≤ up_count t

pub unhindered : (shape : Shape) (t : PlainTable) (name : List ℕ) → None ≡ hindered shape t name → Unhindered shape t name
unhindered shape t name is = by_file (is_some (file_of t name)) refl is where
  by_nodes : (few : Bool) → nat_lt (up_count t) shape.n ≡ few → is_some (file_of t name) ≡ false → None ≡ cond few (Some (places.TooFewNodes (up_count t))) None → Unhindered shape t name
  by_nodes true few free found = absurd (none_some (places.TooFewNodes (up_count t)) found)
  by_nodes false enough free found = record {
    free = no_file (file_of t name) free;
    enough = let le : shape.n ≤ up_count t = grind (arith, nat_tests) in le;
  }

  by_file : (there : Bool) → is_some (file_of t name) ≡ there → None ≡ cond there (Some places.NameTaken) (cond (nat_lt (up_count t) shape.n) (Some (places.TooFewNodes (up_count t))) None)
      → Unhindered shape t name
  by_file true there found = absurd (none_some places.NameTaken found)
  by_file false free found = by_nodes (nat_lt (up_count t) shape.n) refl free found

-- ---- the places of a table

-- what a catalog says of the nodes is what the table says of which it is the outline
pub are_places : (shape : Shape) (told : Bool) (c : CatalogState) (history : List Entry) {N : Type 0} (res : Reservation N) → IsOutline shape told c history → res.up ≡ up_mask (plain c)
    → ((m : ℕ) → m < MAX_NODES → slice_index res.incs m ≡ inc_of (plain c) m) → shape.n ≤ up_count (table_of shape history) → ArePlaces shape (table_of shape history) res
are_places shape told c history res is up incs enough = record {
  nodes = up ∙ ap (λ (ns : List Node). mask_of (map (λ x. x.up) ns)) is.nodes;
  enough = enough;
  incs = λ m low. incs m low ∙ ap (λ (ns : List Node). option_map_or (λ x. x.inc) (slice_get ns m) 0) is.nodes;
}

-- ---- an act that says why nothing is stored

pub why_plain : (p : PassState) (asked : Deed) (position : ℕ) (a : Act) → SaysWhy a → IsPlain (ended p asked position a)
why_plain p asked position act.NameTaken why = record { stores = refl; drops = refl; spends = λ m. refl }
why_plain p asked position (act.TooFewNodes up) why = record { stores = refl; drops = refl; spends = λ m. refl }
why_plain p asked position (act.Unsteady at) why = record { stores = refl; drops = refl; spends = λ m. refl }
why_plain p asked position _ why = absurd why

pub why_still : (a : Act) → SaysWhy a → changes a ≡ false
why_still act.NameTaken why = refl
why_still (act.TooFewNodes up) why = refl
why_still (act.Unsteady at) why = refl
why_still _ why = absurd why

pub refusal_says : (why : NoPlaces) → MatchOption (refusal_of why) ⊤ SaysWhy
refusal_says places.NameTaken = tt
refusal_says (places.TooFewNodes up) = tt
refusal_says places.NoMemory = tt

-- want of memory is never found
found_other : (shape : Shape) (t : PlainTable) (name : List ℕ) → hindered shape t name ≡ Some places.NoMemory → ⊥
found_other shape t name found = by_file (is_some (file_of t name)) found where
  by_nodes : (few : Bool) → cond few (Some (places.TooFewNodes (up_count t))) None ≡ Some places.NoMemory → ⊥
  by_nodes true is = absurd (cc)
  by_nodes false is = absurd (cc)

  by_file : (there : Bool) → cond there (Some places.NameTaken) (cond (nat_lt (up_count t) shape.n) (Some (places.TooFewNodes (up_count t))) None) ≡ Some places.NoMemory → ⊥
  by_file true is = absurd (cc)
  by_file false is = by_nodes (nat_lt (up_count t) shape.n) is

-- the answer that says so
pub why_answers : (shape : Shape) (t : PlainTable) (name : List ℕ) (why : NoPlaces) → hindered shape t name ≡ Some why → IsWhy (hindered shape t name) why
why_answers shape t name places.NameTaken is = is
why_answers shape t name (places.TooFewNodes up) is = is
why_answers shape t name places.NoMemory is = absurd (found_other shape t name is)

-- ---- the coordinator after it

-- a coordinator with these parts
abbrev pub seen : SequencerState → StampsSeen → ℕ → ℕ → ℕ → Bool → List Log → CoordState
seen s stamps repairs stripes slice cyclic nodes = record { sequence = s; stamps = stamps; repairs = repairs; stripes = stripes; slice = slice; cyclic = cyclic; nodes = nodes }

pub refuses_by : (shape : Shape) (told : Bool) (s t : SequencerState) (v w : PassState) (x : StampsSeen) (repairs stripes slice : ℕ) (cyclic : Bool) (nodes : List Log) (asked : Deed) (said : Option Act)
    → EndsWhere shape told s v asked said t w → w.calls ≡ v.calls → Refuses shape told (seen s x repairs stripes slice cyclic nodes) v asked said (seen t x repairs stripes slice cyclic nodes) w
refuses_by shape told s t v w x repairs stripes slice cyclic nodes asked said event calls = record { event = event; rest = refl; calls = calls }

module _ (shape : Shape) (told : Bool) (callers spares : ℕ) where
  -- an event that notes nothing
  pub stood_kept : (s t : SequencerState) (v w : PassState) (p : CoordParts) (d : CatalogState) → IsCoord shape told callers spares s p → IsMet shape told callers spares s v
      → Event shape told s v [] [] t w → IsOutline shape told d (history_of s.history) → Serves p.catalog d → HasRoom shape.nodes d s.notes → IsCoord shape told callers spares t (with_catalog p d)
  stood_kept s t v w p d is met event outline serves has =
      let noted : w.notes ≡ v.notes = event.steps.noted ∙ append-nil v.notes in
      let same : set s.notes v.hand w.notes ≡ s.notes = ap (set s.notes v.hand) (noted ∙ sym met.agree.notes) ∙ set-get_or s.notes v.hand [] in
      noted_kept shape told callers spares s t v w p d [] is met event (none_leaves v.notes w.notes noted) (same_owes shape v.notes w.notes noted) outline serves (subst (HasRoom shape.nodes d) (sym (event.notes ∙ same)) has)

  -- the hand has no open call any more
  none_losing : (s t : SequencerState) (v w : PassState) (asked : Deed) (a : Act) → Ends shape told s v asked a t w → (node : ℕ) → is_losing node w.notes ≡ false
  none_losing s t v w asked a ends node =
      let e : Entry = ended v asked (length s.history) a in
      ap (is_losing node) ends.event.steps.noted ∙ ap (λ (f : HandFacts). asks_open node f.call) (facts-entered v.notes (length s.history) (room_noted v.notes - 1) v.hand e)

  -- a call ends with an act that changes nothing
  pub ended_kept : (s t : SequencerState) (v w : PassState) (p : CoordParts) (asked : Deed) (a : Act) → IsCoord shape told callers spares s p → IsMet shape told callers spares s v
      → SaysWhy a → IsCovered shape s v (ended v asked (length s.history) a) → Ends shape told s v asked a t w → IsCoord shape told callers spares t (with_catalog p p.catalog)
  ended_kept s t v w p asked a is met why owes ends =
      let e : Entry = ended v asked (length s.history) a in
      let within : v.hand < length s.notes = omega (arith, met.in_range, met.kept.hands) in
      entered_kept shape told callers spares s t v w p p.catalog e (room_noted v.notes - 1) is met ends.event (why_plain v asked (length s.history) a why) owes
      (unchanged shape told p.catalog (history_of s.history) e is.outline (why_still a why)) (serves_same p.catalog)
      (subst (HasRoom shape.nodes p.catalog) (sym ends.event.notes)
      (room_kept shape.nodes p.catalog s.notes v.hand w.notes is.room within (none_losing s t v w asked a ends)))
