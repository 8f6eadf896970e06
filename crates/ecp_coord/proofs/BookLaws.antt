-- What is kept of all reservations, as one hand notes more and stores nothing.
use Rattle.std.proofs.Common.{◌≡◌, ◌≢◌, ℕ, ◌+◌, ◌-◌, ◌<◌, ◌≤◌, ◌==◌, ◌⊎◌, Bool, true, false, cond, List, [], ◌∷◌, ◌++◌, length, map, set, Option, Some, None, refl, sym, ◌∙◌, ap, subst, arith, inl, inr, append-nil, length-set, length-append, get_or-set_same, get_or-set_other}
use Rattle.std.proofs.lemmas.List.{map-append}
use Rattle.std.specs.Prelude.{All, filter, is_some, slice_get, slice_index, sum_by, option_and_then}
use Rattle.std.specs.List.{list_any}
use Rattle.std.specs.Option.{option_map_or}
use mathlib.Core.Logic.{dite}
use native.Mathlib.Decide.{ℕ_discrete}
use Rattle.std.proofs.lemmas.Bool.{false≢true}
use Rattle.std.proofs.lemmas.List.Elements.{All-nil, All-cons, All-append, filter-append}
use Rattle.std.proofs.lemmas.List.Sums.{sum_by-set, sum_by_push}
use Rattle.ecp_book.specs.Logs.{Log}
use Rattle.ecp_entry.specs.declared.act.Act.{Act}
use Rattle.ecp_entry.specs.declared.act.Act.TheVariants as act
use Rattle.ecp_entry.specs.declared.entry.Entry.{Entry}
use Rattle.ecp_entry.specs.Entries.{deed_name}
use Rattle.ecp_entry.specs.Told.{history_of}
use Rattle.ecp_history.specs.Acts.{AreFresh, has_stripe}
use Rattle.ecp_history.specs.Files.{StripesBelow, is_stored}
use Rattle.ecp_history.proofs.LegalLaws.{get_last}
use Rattle.ecp_catalog.specs.Catalogs.{CatalogState, is_entered}
use Rattle.ecp_sequencer.specs.Notes.{Call, note, says_of, beginning_of, entering_of}
use Rattle.ecp_sequencer.specs.Facts.{HandFacts, facts_of, is_end}
use Rattle.ecp_sequencer.specs.Histories.{notes_at}
use Rattle.ecp_sequencer.specs.Sequencers.{SequencerState}
use Rattle.ecp_sequencer.proofs.NoteLaws.{facts_of-none, facts-began, facts-entered, facts-other}
use Rattle.ecp_coord.specs.Bookings.{AreBooked, CanBeStored, bookers, booked_count, booking, bookings_in, bookings_noted, is_reserved, last_of, name_open, promised, reserved, still_due, taken_at, taken_by}
use Rattle.ecp_coord.proofs.AnyLaws.{or_none, any_append_none, any_weaker}

-- what a hand noted more leaves the reservation that it had open, or leaves it none, and takes no number
pub record LeavesBooking (was now : Log) : Type 0 where
  pub taken : taken_by now ≡ taken_by was
  pub still : (b : List ℕ) → booking now ≡ Some b → (booking was ≡ Some b) × (name_open now ≡ name_open was)

-- a catalog has at least the nodes, the names and the room of another
pub record Serves (c d : CatalogState) : Type 0 where
  pub nodes : length d.nodes ≡ length c.nodes
  pub names : (q : List ℕ) → is_entered c.names q ≡ true → is_entered d.names q ≡ true
  pub room : c.room ≤ d.room

pub serves_same : (c : CatalogState) → Serves c c
serves_same c = record { nodes = refl; names = λ q is. is; room = omega arith }

-- whether an entry stores a file
abbrev pub is_storing : Entry → Bool
is_storing e = is_stored e.line.act

-- ---- entries that store nothing

not_below : (n : ℕ) (a : Act) → is_stored a ≡ false → StripesBelow n a
not_below n (act.Stored first stripes up) none = absurd (false≢true (sym none))
not_below n _ none = tt

pub each_below : (n : ℕ) (more : List Entry) → list_any is_storing more ≡ false → All (λ e. StripesBelow n e.line.act) more
each_below n [] none = All-nil (λ (e : Entry). StripesBelow n e.line.act)
each_below n (e ∷ more) none =
    let h = or_none (is_storing e) (list_any is_storing more) none in
    All-cons (λ (x : Entry). StripesBelow n x.line.act) e more (not_below n e.line.act h.0) (each_below n more h.1)

not_numbered : (s : ℕ) (a : Act) → is_stored a ≡ false → has_stripe s a ≡ false
not_numbered s (act.Stored first stripes up) none = absurd (false≢true (sym none))
not_numbered s _ none = refl

pub fresh_more : (before more : List Entry) (first count : ℕ) → AreFresh before first count → list_any is_storing more ≡ false → AreFresh (before ++ more) first count
fresh_more before more first count fresh none = λ s from to.
    any_append_none (λ (x : Entry). has_stripe s x.line.act) before more (fresh s from to)
    (any_weaker (λ (x : Entry). has_stripe s x.line.act) is_storing (λ x. not_numbered s x.line.act) more none)

-- ---- an option that is another's, or none

le_self : (n : ℕ) → n ≤ n
le_self n = omega arith

some_less : (o p : Option (List ℕ)) → ((b : List ℕ) → o ≡ Some b → p ≡ Some b) → cond (is_some o) 1 0 ≤ cond (is_some p) 1 0
some_less None p is = omega arith
some_less (Some b) p is = subst (λ (q : Option (List ℕ)). 1 ≤ cond (is_some q) 1 0) (sym (is b refl)) (le_self 1)

due_less : (o p : Option (List ℕ)) → ((b : List ℕ) → o ≡ Some b → p ≡ Some b) → option_map_or still_due o 0 ≤ option_map_or still_due p 0
due_less None p is = omega arith
due_less (Some b) p is = subst (λ (q : Option (List ℕ)). still_due b ≤ option_map_or still_due q 0) (sym (is b refl)) (le_self (still_due b))

-- ---- one hand notes more

pub bookers-set : (notes : List Log) (hand : ℕ) (now : Log) → hand < length notes
    → bookers (set notes hand now) + cond (is_some (booking (notes_at notes hand))) 1 0 ≡ bookers notes + cond (is_some (booking now)) 1 0
bookers-set notes hand now within = sum_by-set (λ (x : Log). cond (is_some (booking x)) 1 0) notes hand now [] within

pub taken-set : (notes : List Log) (hand : ℕ) (now : Log) → hand < length notes
    → sum_by taken_by (set notes hand now) + taken_by (notes_at notes hand) ≡ sum_by taken_by notes + taken_by now
taken-set notes hand now within = sum_by-set taken_by notes hand now [] within

pub notes_set_same : (notes later : List Log) (hand : ℕ) (now : Log) → later ≡ set notes hand now → hand < length notes → notes_at later hand ≡ now
notes_set_same notes later hand now is within = ap (λ (ns : List Log). notes_at ns hand) is ∙ get_or-set_same notes hand now [] within

pub notes_set_other : (notes later : List Log) (hand : ℕ) (now : Log) → later ≡ set notes hand now → (h : ℕ) → h ≢ hand → notes_at later h ≡ notes_at notes h
notes_set_other notes later hand now is h apart = ap (λ (ns : List Log). notes_at ns h) is ∙ get_or-set_other notes hand h now [] apart

was_open : (notes later : List Log) (hand : ℕ) (now : Log) → later ≡ set notes hand now → hand < length notes → LeavesBooking (notes_at notes hand) now → (h : ℕ) (b : List ℕ)
    → booking (notes_at later h) ≡ Some b → (booking (notes_at notes h) ≡ Some b) × (name_open (notes_at later h) ≡ name_open (notes_at notes h))
was_open notes later hand now is within leaves h b was_so = dite (ℕ_discrete h hand)
    (λ (same : h ≡ hand).
    let here : notes_at later h ≡ now = ap (notes_at later) same ∙ notes_set_same notes later hand now is within in
    let back : notes_at notes hand ≡ notes_at notes h = ap (notes_at notes) (sym same) in
    let old = leaves.still b (ap (λ (ns : Log). booking ns) (sym here) ∙ was_so) in
    (ap (λ (ns : Log). booking ns) (sym back) ∙ old.0, ap (λ (ns : Log). name_open ns) here ∙ old.1 ∙ ap (λ (ns : Log). name_open ns) back))
    (λ (apart : h ≢ hand).
    let there : notes_at later h ≡ notes_at notes h = notes_set_other notes later hand now is h apart in
    (ap (λ (ns : Log). booking ns) (sym there) ∙ was_so, ap (λ (ns : Log). name_open ns) there))

-- a reservation can still be stored, when the history and the catalog grew
pub stored_later : (before more : List Entry) (c d : CatalogState) (stripes : ℕ) (was now : Log) (b : List ℕ) → CanBeStored before c stripes was b → list_any is_storing more ≡ false
    → Serves c d → name_open now ≡ name_open was → CanBeStored (before ++ more) d stripes now b
stored_later before more c d stripes was now b can none serves name = record {
  below = can.below;
  fresh = fresh_more before more _ _ can.fresh none;
  entered = serves.names (name_open now) (ap (is_entered c.names) name ∙ can.entered);
}

pub booked_kept : (s t : SequencerState) (c d : CatalogState) (stripes : ℕ) (promises : List ℕ) (hand : ℕ) (now : Log) (more : List Entry) → AreBooked s c stripes promises
    → hand < length s.notes → t.notes ≡ set s.notes hand now → LeavesBooking (notes_at s.notes hand) now → history_of t.history ≡ history_of s.history ++ more
    → list_any is_storing more ≡ false → Serves c d → AreBooked t d stripes promises
booked_kept s t c d stripes promises hand now more booked within is leaves grown none serves =
    let was_so : (h : ℕ) (b : List ℕ) → booking (notes_at t.notes h) ≡ Some b → (booking (notes_at s.notes h) ≡ Some b) × (name_open (notes_at t.notes h) ≡ name_open (notes_at s.notes h)) =
    was_open s.notes t.notes hand now is within leaves in
    let fewer : cond (is_some (booking now)) 1 0 ≤ cond (is_some (booking (notes_at s.notes hand))) 1 0 =
    some_less (booking now) (booking (notes_at s.notes hand)) (λ b at. (leaves.still b at).0) in
    record {
      counted = let all : sum_by taken_by t.notes ≡ sum_by taken_by (set s.notes hand now) = ap (λ (ns : List Log). sum_by taken_by ns) is in
          omega (arith, booked.counted, taken-set s.notes hand now within, leaves.taken, all);
      stored = subst (All (λ e. StripesBelow stripes e.line.act)) (sym grown)
          (All-append (λ (e : Entry). StripesBelow stripes e.line.act) (history_of s.history) more booked.stored (each_below stripes more none));
      each = λ h b at. subst (λ (es : List Entry). CanBeStored es d stripes (notes_at t.notes h) b) (sym grown)
          (stored_later (history_of s.history) more c d stripes (notes_at s.notes h) (notes_at t.notes h) b (booked.each h b (was_so h b at).0) none serves (was_so h b at).1);
      apart = λ g h a b ne at_g at_h. booked.apart g h a b ne (was_so g a at_g).0 (was_so h b at_h).0;
      room = let all : bookers t.notes ≡ bookers (set s.notes hand now) = ap (λ (ns : List Log). bookers ns) is in
          omega (arith, booked.room, bookers-set s.notes hand now within, fewer, all, serves.room);
      due = λ h. let less : promised (notes_at t.notes h) ≤ promised (notes_at s.notes h) =
          due_less (booking (notes_at t.notes h)) (booking (notes_at s.notes h)) (λ b at. (was_so h b at).0) in
          omega (arith, less, booked.due h);
      numbers = booked.numbers;
      sized = booked.sized ∙ sym (ap (λ (ns : List Log). length ns) is ∙ length-set s.notes hand now);
    }

-- ---- what notes make of a reservation

pub taken-more : (notes : Log) (x : List ℕ) → taken_by (notes ++ x ∷ []) ≡ taken_by notes + taken_at x
taken-more notes x = sum_by_push taken_at notes x

taken-other : (notes : Log) (x : List ℕ) → is_reserved x ≡ false → taken_by (notes ++ x ∷ []) ≡ taken_by notes
taken-other notes x off =
    let none : taken_at x ≡ 0 = ap (λ (b : Bool). cond b (booked_count (says_of x)) 0) off in
    omega (arith, taken-more notes x, none)

pub bookings-other : (since : Log) (x : List ℕ) → is_reserved x ≡ false → bookings_in (since ++ x ∷ []) ≡ bookings_in since
bookings-other since x off =
    ap (λ (xs : Log). map says_of xs)
    (filter-append is_reserved since (x ∷ []) ∙ ap (λ (b : Bool). filter is_reserved since ++ cond b (x ∷ []) []) off ∙ append-nil (filter is_reserved since))

-- the reservation in what is known of a hand
abbrev booking_in : Log → Option Call → Option (List ℕ)
booking_in since call = option_and_then (λ c. last_of (bookings_in since)) call

-- the name in an open call
abbrev name_in : Option Call → List ℕ
name_in call = option_map_or (λ c. deed_name c.deed) call []

pub none_some : (b : List ℕ) → None ≡ Some b → ⊥
none_some b is = false≢true (ap (λ (o : Option (List ℕ)). is_some o) is)

-- a note of another kind leaves it, or ends the call
leaves_by : (was now : Log) (x : List ℕ) → now ≡ was ++ x ∷ [] → is_reserved x ≡ false → (facts_of now).since ≡ (facts_of was).since ++ x ∷ []
    → ((facts_of now).call ≡ (facts_of was).call) ⊎ ((facts_of now).call ≡ None) → LeavesBooking was now
leaves_by was now x is off since call = record {
  taken = ap (λ (ns : Log). taken_by ns) is ∙ taken-other was x off;
  still = λ b at. elim call [
    | inl same ↦
        let kept : booking now ≡ booking was =
        ap (λ (xs : Log). booking_in xs (facts_of now).call) since
        ∙ ap (λ (bs : List (List ℕ)). option_and_then (λ (c : Call). last_of bs) (facts_of now).call) (bookings-other (facts_of was).since x off)
        ∙ ap (λ (o : Option Call). booking_in (facts_of was).since o) same in
        (sym kept ∙ at, ap (λ (o : Option Call). name_in o) same)
    | inr ended ↦ absurd (none_some b (sym (ap (λ (o : Option Call). booking_in (facts_of now).since o) ended) ∙ at))
  ];
}

pub other_leaves : (was : Log) (point room : ℕ) (what : List ℕ) → 3 ≤ slice_index what 0 → slice_index what 0 == reserved ≡ false → LeavesBooking was (was ++ note point room what ∷ [])
other_leaves was point room what kind off =
    let facts = facts-other was point room what kind in
    leaves_by was (was ++ note point room what ∷ []) (note point room what) refl off (ap (λ (f : HandFacts). f.since) facts) (inl (ap (λ (f : HandFacts). f.call) facts))

pub entered_leaves : (was : Log) (point room hand : ℕ) (e : Entry) → LeavesBooking was (was ++ note point room (entering_of hand e) ∷ [])
entered_leaves was point room hand e =
    let x : List ℕ = note point room (entering_of hand e) in
    let facts = facts-entered was point room hand e in
    leaves_by was (was ++ x ∷ []) x refl refl (ap (λ (f : HandFacts). f.since) facts) (either (is_end e.line.part) (ap (λ (f : HandFacts). f.call) facts))
  where
    either : (b : Bool) {o : Option Call} → o ≡ cond b None (facts_of was).call → (o ≡ (facts_of was).call) ⊎ (o ≡ None)
    either true is = inr is
    either false is = inl is

pub began_leaves : (was : Log) (point room : ℕ) (c : Call) → LeavesBooking was (was ++ note point room (beginning_of c) ∷ [])
began_leaves was point room c = record {
  taken = taken-other was (note point room (beginning_of c)) refl;
  still = λ b at. absurd (none_some b (sym (ap (λ (f : HandFacts). booking_in f.since f.call) (facts-began was point room c)) ∙ at));
}

pub none_leaves : (was now : Log) → now ≡ was → LeavesBooking was now
none_leaves was now same = record {
  taken = ap (λ (ns : Log). taken_by ns) same;
  still = λ b at. (sym (ap (λ (ns : Log). booking ns) same) ∙ at, ap (λ (ns : Log). name_open ns) same);
}

-- a hand that noted nothing has none
pub nothing_booked : booking [] ≡ None
nothing_booked = ap (λ (f : HandFacts). booking_in f.since f.call) facts_of-none

-- ---- a note of a reservation

pub last_push : (xs : List (List ℕ)) (y : List ℕ) → last_of (xs ++ y ∷ []) ≡ Some y
last_push xs y =
    ap (slice_get (xs ++ y ∷ [])) (let at : length (xs ++ y ∷ []) - 1 ≡ length xs = omega (arith, length-append xs (y ∷ [])) in at) ∙ get_last xs y

-- what is noted of reservations since the call began, with one more
pub bookings-more : (was : Log) (point room : ℕ) (says : List ℕ) → bookings_noted (was ++ note point room (reserved ∷ says) ∷ []) ≡ bookings_noted was ++ says ∷ []
bookings-more was point room says =
    let x : List ℕ = note point room (reserved ∷ says) in
    ap (λ (f : HandFacts). bookings_in f.since) (facts-other was point room (reserved ∷ says) (omega arith))
    ∙ ap (λ (xs : Log). map says_of xs) (filter-append is_reserved (facts_of was).since (x ∷ []))
    ∙ map-append says_of (filter is_reserved (facts_of was).since) (x ∷ [])

-- in an open call it is the one that is open
pub reserved_open : (was : Log) (point room : ℕ) (says : List ℕ) (c : Call) → (facts_of was).call ≡ Some c → booking (was ++ note point room (reserved ∷ says) ∷ []) ≡ Some says
reserved_open was point room says c was_so =
    let now : Log = was ++ note point room (reserved ∷ says) ∷ [] in
    let call : (facts_of now).call ≡ Some c = ap (λ (f : HandFacts). f.call) (facts-other was point room (reserved ∷ says) (omega arith)) ∙ was_so in
    ap (λ (o : Option Call). option_and_then (λ (d : Call). last_of (bookings_noted now)) o) call
    ∙ ap (λ (bs : List (List ℕ)). last_of bs) (bookings-more was point room says) ∙ last_push (bookings_noted was) says

pub reserved_name : (was : Log) (point room : ℕ) (says : List ℕ) → name_open (was ++ note point room (reserved ∷ says) ∷ []) ≡ name_open was
reserved_name was point room says = ap (λ (f : HandFacts). name_in f.call) (facts-other was point room (reserved ∷ says) (omega arith))

pub reserved_taken : (was : Log) (point room : ℕ) (says : List ℕ) → taken_by (was ++ note point room (reserved ∷ says) ∷ []) ≡ taken_by was + booked_count says
reserved_taken was point room says = taken-more was (note point room (reserved ∷ says))
