-- A put whose reservation was overtaken.
use Rattle.std.proofs.Common.{◌≡◌, ◌≢◌, ℕ, suc, ◌+◌, ◌-◌, ◌*◌, ◌^◌, ◌<◌, ◌≤◌, ◌==◌, Bool, true, false, cond, List, [], ◌∷◌, ◌++◌, length, set, drop, get_or, Option, Some, None, refl, sym, ◌∙◌, ap, subst, arith, inl, inr, append-nil, length-set, get_or-set_same, get_or-set_other, suc-mul}
use Rattle.std.specs.Prelude.{All, is_none, is_some, nat_lt, slice_get, slice_index, sum, IsTrue}
use Rattle.std.specs.List.{list_any}
use Rattle.std.specs.List.Sorted.{IsStrictlyIncreasing}
use Rattle.std.specs.Option.{option_map_or}
use mathlib.Core.List.{IsPrefix}
use Rattle.std.proofs.lemmas.Bool.{cases_lt, eq-eqb, eqb-true, false≢true}
use Rattle.std.proofs.lemmas.Bool.Decides.{nat_tests}
use Rattle.std.proofs.lemmas.Option.{same_Some, slice_get_within}
use Rattle.std.proofs.lemmas.List.{drop-append-le, drop-drop, drop-set-lt, get_or_append_left, get_or_push, length-drop, length-replicate, length_push, drop_at, take_all, take_more_set}
use Rattle.std.proofs.lemmas.List.Elements.{All-push}
use Rattle.std.proofs.lemmas.List.Sums.{sum_by-set}
use Rattle.ecp_shape.specs.declared.limits.TheConstants.{MAX_ATTEMPTS}
use Rattle.ecp_shape.specs.declared.shape.Shape.{Shape}
use Rattle.ecp_book.specs.Logs.{Log, history_log}
use Rattle.ecp_book.proofs.Prefixes.{prefix_length}
use Rattle.ecp_entry.specs.declared.act.Act.{Act}
use Rattle.ecp_entry.specs.declared.act.Act.TheVariants as act
use Rattle.ecp_entry.specs.declared.deed.Deed.{Deed}
use Rattle.ecp_entry.specs.declared.deed.Deed.TheVariants.{Put}
use Rattle.ecp_entry.specs.declared.entry.Entry.{Entry}
use Rattle.ecp_entry.specs.Entries.{is_loss, is_number, loss_of}
use Rattle.ecp_entry.specs.Told.{history_of, items_by}
use Rattle.ecp_entry.proofs.ToldLaws.{items_by-append}
use Rattle.ecp_history.specs.Follows.{follows, passes_at}
use Rattle.ecp_history.specs.Legal.{MayFollow}
use Rattle.ecp_history.specs.table.Placement.{nodes_in}
use Rattle.ecp_history.specs.table.Steps.{table_of}
use Rattle.ecp_history.specs.table.Tables.{PlainTable, file_of, up_count}
use Rattle.ecp_history.proofs.LegalLaws.{get_before}
use Rattle.ecp_plan.specs.declared.voids.Voids.{Voids}
use Rattle.ecp_plan.proofs.ChosenRows.{rest_more}
use Rattle.ecp_catalog.specs.Catalogs.{is_entered}
use Rattle.ecp_catalog.specs.Stamps.{StampsSeen}
use Rattle.ecp_catalog.specs.declared.limits.TheConstants.{END_OF_STRIPES}
use Rattle.ecp_sequencer.specs.Facts.{facts_of, room_noted}
use Rattle.ecp_sequencer.specs.Notes.{note}
use Rattle.ecp_sequencer.specs.Histories.{notes_at}
use Rattle.ecp_sequencer.specs.Passes.{PassState}
use Rattle.ecp_sequencer.specs.Sequencers.{SequencerState}
use Rattle.ecp_sequencer.specs.Steps.{Event, call_with}
use Rattle.ecp_coord.specs.declared.no_places.NoPlaces.TheVariants as places
use Rattle.ecp_coord.specs.declared.renewed.Renewed.{Renewed}
use Rattle.ecp_coord.specs.declared.renewed.Renewed.TheVariants as renewed
use Rattle.ecp_coord.specs.declared.reservation.Reservation.{Reservation}
use Rattle.ecp_coord.specs.Bookings.{bookers, booked_count, booking, name_open, still_due, taken_by}
use Rattle.ecp_coord.specs.Calls.{Ends, ended}
use Rattle.ecp_coord.specs.Coords.{AreIdle, CoordParts, CoordState, IsCoord}
use Rattle.ecp_coord.specs.Puts.{DidRenew, GivesUpPlaces, IsOvertaken, IsPlacedNow, IsReserved, Renews, booking_of, MovesPlaces, booking_says, end_of, first_overtaking, found_anew, found_by_renewing, is_any_loss, loses_one_of}
use Rattle.ecp_coord.specs.Refusals.{Refuses, SaysWhy}
use Rattle.ecp_coord.specs.Voids.{AreVoids, positions_of, with_void}
use Rattle.ecp_coord.proofs.BookLaws.{bookers-set, serves_same, reserved_name, reserved_open, reserved_taken}
use Rattle.ecp_coord.proofs.EndLaws.{may_end}
use Rattle.ecp_coord.proofs.FollowLaws.{IsMet, follows_upto, items_by-drop, none_since}
use Rattle.ecp_coord.proofs.LoseLaws.{length_told}
use Rattle.ecp_coord.proofs.OvertakeLaws.{IsAtPosition, position_some}
use Rattle.ecp_coord.proofs.PlaceLaws.{no_file, put_refused_told, seen}
use Rattle.ecp_coord.proofs.PublishLaws.{told_drop, told_split}
use Rattle.ecp_coord.specs.Numbers.{open_numbers}
use Rattle.ecp_coord.proofs.PutCoverLaws.{open_booking, reserved_numbers}
use Rattle.ecp_coord.proofs.ReserveLaws.{IsMade, is_reserved, made_is, reserved_kept, with_booking}
use Rattle.ecp_coord.proofs.StoreLaws.{TakesNumbers, one_where}

-- ---- lists

get_past : {X : Type 0} (xs ys : List X) (i n : ℕ) → n ≡ length xs + i → slice_get (xs ++ ys) n ≡ slice_get ys i
get_past [] ys i n is = ap (slice_get ys) (let same : n ≡ i = omega (arith, is) in same)
get_past (x ∷ xs) ys i n is =
    ap (slice_get (x ∷ xs ++ ys)) (let next : n ≡ suc (n - 1) = omega (arith, is) in next) ∙ get_past xs ys i (n - 1) (omega (arith, is))

rising_push : (xs : List ℕ) (from r : ℕ) → All (λ n. n < from) xs → from ≤ r → IsStrictlyIncreasing xs → IsStrictlyIncreasing (xs ++ r ∷ [])
rising_push xs from r under above up k within = elim (cases_lt (k + 1) (length xs)) [
  | inl inside ↦
      subst (λ (n : ℕ). n < get_or (xs ++ r ∷ []) (k + 1) 0) (sym (get_or_append_left xs (r ∷ []) 0 k (omega arith)))
      (subst (λ (n : ℕ). get_or xs k 0 < n) (sym (get_or_append_left xs (r ∷ []) 0 (k + 1) inside)) (up k inside))
  | inr last ↦
      let end : length xs ≡ k + 1 = omega (arith, length_push xs r) in
      let here : get_or xs k 0 < from = under k 0 (omega arith) in
      subst (λ (n : ℕ). n < get_or (xs ++ r ∷ []) (k + 1) 0) (sym (get_or_append_left xs (r ∷ []) 0 k (omega arith)))
      (subst (λ (n : ℕ). get_or xs k 0 < n) (sym (get_or_push xs r 0 (k + 1) end)) (omega arith))
]

-- an entry that loses one of some nodes is a loss
one_is_loss : (e : Entry) (ms : List ℕ) → list_any (λ m. is_loss m e) ms ≡ true → is_some (loss_of e) ≡ true
one_is_loss e ms passes = either (loss_of e) passes where
  none_of : (ks : List ℕ) → list_any (λ m. is_number None m) ks ≡ true → false ≡ true
  none_of [] is = is
  none_of (k ∷ ks) is = none_of ks is

  either : (o : Option ℕ) → list_any (λ m. is_number o m) ms ≡ true → is_some o ≡ true
  either None is = none_of ms is
  either (Some m) is = refl

-- a loss in the beginning of a history is one in the history
passes_more : (o p : Option Entry) → ((e : Entry) → o ≡ Some e → p ≡ Some e) → option_map_or (λ (x : Entry). is_some (loss_of x)) o false ≡ true
    → option_map_or (λ (x : Entry). is_some (loss_of x)) p false ≡ true
passes_more None p is passes = absurd (false≢true passes)
passes_more (Some e) p is passes = ap (λ (q : Option Entry). option_map_or (λ (x : Entry). is_some (loss_of x)) q false) (is e refl) ∙ passes

module _ (shape : Shape) (told : Bool) (callers spares : ℕ) {N : Type 0} (s : SequencerState) (v : PassState) (res : Reservation N) (at : ℕ) (met : IsMet shape told callers spares s v)
    (is : IsReserved shape told v res) (begins : IsPrefix res.front.items s.history) (first : first_overtaking res (history_of s.history) ≡ Some at) where
  abbrev pub found : IsAtPosition (loses_one_of res.up) res.point (drop res.point (history_of s.history)) at
  found = position_some (loses_one_of res.up) res.point at (drop res.point (history_of s.history)) first

  behind : drop res.point (history_of s.history) ≡ history_of begins.0
  behind = ap (λ (n : ℕ). drop n (history_of s.history)) is.point ∙ told_drop res.front.items s.history begins

  pub loss_there : slice_get (history_of s.history) at ≡ Some found.element
  loss_there =
      ap (λ (es : List Entry). slice_get es at) (told_split res.front.items s.history begins)
      ∙ get_past (history_of res.front.items) (history_of begins.0) (at - res.point) at (let le = found.from in omega (arith, le, is.point, length_told res.front.items))
      ∙ ap (λ (es : List Entry). slice_get es (at - res.point)) (sym behind) ∙ found.here

  pub loss_within : at < length s.history
  loss_within = omega (arith, slice_get_within (history_of s.history) at found.element loss_there, length_told s.history)

  none_since_point : items_by v.hand (drop res.point s.history) ≡ []
  none_since_point =
      ap (λ (n : ℕ). items_by v.hand (drop n s.history)) is.point ∙ none_since v.hand res.front.items s.history begins (is.own ∙ sym met.agree.entered)

  sixteen : length res.voids.at ≡ MAX_ATTEMPTS
  sixteen =
      let left : length res.voids.at - res.voids.len ≡ MAX_ATTEMPTS - res.voids.len =
      sym (length-drop res.voids.len res.voids.at) ∙ ap (λ (xs : List ℕ). length xs) is.voids.rest ∙ length-replicate (MAX_ATTEMPTS - res.voids.len) 0 in
      omega (arith, left, is.few)

  pub positions_more : positions_of (with_void res.voids at) ≡ positions_of res.voids ++ at ∷ []
  positions_more = take_more_set res.voids.at res.voids.len at (omega (arith, sixteen, is.few))

  -- past an earlier position there is no entry of the hand either
  late_still : (k : ℕ) → k < length res.front.items → items_by v.hand (drop k res.front.items) ≡ [] → items_by v.hand (drop k s.history) ≡ []
  late_still k within none =
      let rest : items_by v.hand begins.0 ≡ [] =
      ap (λ (xs : Log). items_by v.hand xs) (sym (ap (λ (n : ℕ). drop n s.history) is.point ∙ ap (drop (length res.front.items)) (sym begins.1) ∙ drop_at res.front.items begins.0 (length res.front.items) refl))
      ∙ none_since_point in
      ap (λ (xs : Log). items_by v.hand (drop k xs)) (sym begins.1)
      ∙ ap (items_by v.hand) (drop-append-le k res.front.items begins.0 (let le : k ≤ length res.front.items = omega (arith, within) in le))
      ∙ items_by-append v.hand (drop k res.front.items) begins.0
      ∙ ap (λ (xs : Log). xs ++ items_by v.hand begins.0) none ∙ rest

  late_there : items_by v.hand (drop at s.history) ≡ []
  late_there =
      let on : res.point + (at - res.point) ≡ at = (let le = found.from in omega (arith, le)) in
      ap (λ (n : ℕ). items_by v.hand (drop n s.history)) (sym on)
      ∙ ap (items_by v.hand) (sym (drop-drop (at - res.point) res.point s.history)) ∙ items_by-drop v.hand (drop res.point s.history) (at - res.point) none_since_point

  pub voids_more : AreVoids shape is_any_loss v.hand s.history (with_void res.voids at)
  voids_more =
      let old : List ℕ = positions_of res.voids in
      let longer : length res.front.items ≤ length s.history = prefix_length res.front.items s.history begins in
      let from : length res.front.items ≤ at = (let le = found.from in omega (arith, le, is.point)) in
      record {
        rising = subst IsStrictlyIncreasing (sym positions_more) (rising_push old (length res.front.items) at is.voids.within from is.voids.rising);
        within = subst (All (λ n. n < length s.history)) (sym positions_more)
            (All-push (λ (n : ℕ). n < length s.history) old at (λ k d lt. let low = is.voids.within k d lt in omega (arith, low, longer)) loss_within);
        each = subst (All (λ n. IsTrue (passes_at shape (history_of s.history) is_any_loss n))) (sym positions_more)
            (All-push (λ (n : ℕ). IsTrue (passes_at shape (history_of s.history) is_any_loss n)) old at
            (λ k d lt. passes_more (slice_get (history_of res.front.items) (get_or old k d)) (slice_get (history_of s.history) (get_or old k d))
            (λ e here. ap (λ (es : List Entry). slice_get es (get_or old k d)) (told_split res.front.items s.history begins) ∙ get_before (history_of res.front.items) (history_of begins.0) (get_or old k d) e here)
            (is.voids.each k d lt))
            (ap (λ (o : Option Entry). option_map_or (λ (x : Entry). is_some (loss_of x)) o false) loss_there ∙ one_is_loss found.element (nodes_in res.up) found.passes));
        late = subst (All (λ n. items_by v.hand (drop n s.history) ≡ [])) (sym positions_more)
            (All-push (λ (n : ℕ). items_by v.hand (drop n s.history) ≡ []) old at (λ k d lt. late_still (get_or old k d) (is.voids.within k d lt) (is.voids.late k d lt)) late_there);
        rest = drop-set-lt (res.voids.len + 1) res.voids.at res.voids.len at (omega arith) ∙ rest_more res.voids.at MAX_ATTEMPTS res.voids.len is.voids.rest;
      }

  -- where it was the last attempt, the entry that says so may come next
  pub unsteady_follows : (idle : AreIdle spares s.notes) → res.voids.len + 1 ≡ MAX_ATTEMPTS → file_of (table_of shape (history_of s.history)) res.name ≡ None
      → shape.n ≤ up_count (table_of shape (history_of s.history))
      → MayFollow shape told (history_of s.history) (ended v (Put res.name res.len) (length s.history) (act.Unsteady (with_void res.voids at).at))
  unsteady_follows idle last free enough =
      let e : Entry = ended v (Put res.name res.len) (length s.history) (act.Unsteady (with_void res.voids at).at) in
      let voids : AreVoids shape is_any_loss v.hand s.history (with_void res.voids at) = voids_more in
      let size : length (with_void res.voids at).at ≡ MAX_ATTEMPTS = length-set res.voids.at res.voids.len at ∙ sixteen in
      let all : positions_of (with_void res.voids at) ≡ (with_void res.voids at).at = take_all (res.voids.len + 1) (with_void res.voids at).at (omega (arith, size, last)) in
      subst (λ (n : ℕ). MayFollow shape told (history_of s.history) (ended v (Put res.name res.len) n (act.Unsteady (with_void res.voids at).at))) (length_told s.history)
      (may_end shape told (history_of s.history) v (Put res.name res.len) (act.Unsteady (with_void res.voids at).at) met.session (inr (refl, refl)) refl (λ off. absurd (false≢true off))
      (record {
        free = free;
        enough = enough;
        losses = record {
          for_each = size;
          rising = subst IsStrictlyIncreasing all voids.rising;
          within = subst (All (λ n. (follows (history_of s.history) (ended v (Put res.name res.len) (length (history_of s.history)) (act.Unsteady (with_void res.voids at).at)) ≤ n) × (n < length (history_of s.history)))) all
              (λ k d lt. (
                follows_upto shape told callers spares s v (ended v (Put res.name res.len) (length (history_of s.history)) (act.Unsteady (with_void res.voids at).at)) (get_or (positions_of (with_void res.voids at)) k d) met idle refl (voids.late k d lt),
                let low = voids.within k d lt in omega (arith, low, length_told s.history),
              ));
          each = subst (All (λ n. IsTrue (passes_at shape (history_of s.history) is_any_loss n))) all voids.each;
        };
      }))

-- ---- what is found

pub overtaken_found : {N : Type 0} (shape : Shape) (history : List Entry) (res : Reservation N) (at : ℕ) → first_overtaking res history ≡ Some at
    → found_by_renewing shape history res ≡ found_anew shape (table_of shape history) res
overtaken_found shape history res at first = ap (λ (o : Option ℕ). cond (is_none o) renewed.StillGood (found_anew shape (table_of shape history) res)) first

-- and it stands where there is none
pub stood_found : {N : Type 0} (shape : Shape) (history : List Entry) (res : Reservation N) → first_overtaking res history ≡ None → renewed.StillGood ≡ found_by_renewing shape history res
stood_found shape history res none = sym (ap (λ (o : Option ℕ). cond (is_none o) renewed.StillGood (found_anew shape (table_of shape history) res)) none)

-- there is another attempt where the name is free, enough nodes are up, and not too many attempts came to nothing
pub record GoesOn {N : Type 0} (shape : Shape) (t : PlainTable) (res : Reservation N) : Type 0 where
  pub free : file_of t res.name ≡ None
  pub enough : shape.n ≤ up_count t
  pub few : res.voids.len + 1 ≢ MAX_ATTEMPTS

pub goes_on : {N : Type 0} (shape : Shape) (t : PlainTable) (res : Reservation N) → found_anew shape t res ≡ renewed.Again → GoesOn shape t res
goes_on shape t res is = by_file (is_some (file_of t res.name)) refl is where
  by_tries : (last : Bool) → res.voids.len + 1 == MAX_ATTEMPTS ≡ last → is_some (file_of t res.name) ≡ false → nat_lt (up_count t) shape.n ≡ false
      → cond last renewed.Unsteady renewed.Again ≡ renewed.Again → GoesOn shape t res
  by_tries true last free enough found = absurd (cc)
  by_tries false more free enough found = record {
    free = no_file (file_of t res.name) free;
    enough = let le : shape.n ≤ up_count t = grind (arith, nat_tests) in le;
    few = λ same. false≢true (sym more ∙ eq-eqb (res.voids.len + 1) MAX_ATTEMPTS same);
  }

  by_nodes : (low : Bool) → nat_lt (up_count t) shape.n ≡ low → is_some (file_of t res.name) ≡ false
      → cond low (renewed.TooFewNodes (up_count t)) (cond (res.voids.len + 1 == MAX_ATTEMPTS) renewed.Unsteady renewed.Again) ≡ renewed.Again → GoesOn shape t res
  by_nodes true low free found = absurd (cc)
  by_nodes false enough free found = by_tries (res.voids.len + 1 == MAX_ATTEMPTS) refl free enough found

  by_file : (there : Bool) → is_some (file_of t res.name) ≡ there
      → cond there renewed.NameTaken (cond (nat_lt (up_count t) shape.n) (renewed.TooFewNodes (up_count t)) (cond (res.voids.len + 1 == MAX_ATTEMPTS) renewed.Unsteady renewed.Again)) ≡ renewed.Again
      → GoesOn shape t res
  by_file true there found = absurd (cc)
  by_file false free found = by_nodes (nat_lt (up_count t) shape.n) refl free found

-- where no act ends the call there is another attempt
pub none_ends : {N : Type 0} (shape : Shape) (t : PlainTable) (res : Reservation N) (voids : Voids) → end_of voids (found_anew shape t res) ≡ None → found_anew shape t res ≡ renewed.Again
none_ends shape t res voids none = by_file (is_some (file_of t res.name)) none where
  by_tries : (last : Bool) → end_of voids (cond last renewed.Unsteady renewed.Again) ≡ None → cond last renewed.Unsteady renewed.Again ≡ renewed.Again
  by_tries true none = absurd (cc)
  by_tries false none = refl

  by_nodes : (low : Bool) → end_of voids (cond low (renewed.TooFewNodes (up_count t)) (cond (res.voids.len + 1 == MAX_ATTEMPTS) renewed.Unsteady renewed.Again)) ≡ None
      → cond low (renewed.TooFewNodes (up_count t)) (cond (res.voids.len + 1 == MAX_ATTEMPTS) renewed.Unsteady renewed.Again) ≡ renewed.Again
  by_nodes true none = absurd (cc)
  by_nodes false none = by_tries (res.voids.len + 1 == MAX_ATTEMPTS) none

  by_file : (there : Bool)
      → end_of voids (cond there renewed.NameTaken (cond (nat_lt (up_count t) shape.n) (renewed.TooFewNodes (up_count t)) (cond (res.voids.len + 1 == MAX_ATTEMPTS) renewed.Unsteady renewed.Again))) ≡ None
      → cond there renewed.NameTaken (cond (nat_lt (up_count t) shape.n) (renewed.TooFewNodes (up_count t)) (cond (res.voids.len + 1 == MAX_ATTEMPTS) renewed.Unsteady renewed.Again)) ≡ renewed.Again
  by_file true none = absurd (cc)
  by_file false none = by_nodes (nat_lt (up_count t) shape.n) none

-- the act that ends the call says why
pub end_says : (voids : Voids) (found : Renewed) (what : Act) → end_of voids found ≡ Some what → SaysWhy what
end_says voids renewed.NameTaken what is = subst SaysWhy (same_Some act.NameTaken what is) tt
end_says voids (renewed.TooFewNodes up) what is = subst SaysWhy (same_Some (act.TooFewNodes up) what is) tt
end_says voids renewed.Unsteady what is = subst SaysWhy (same_Some (act.Unsteady voids.at) what is) tt
end_says voids renewed.Again what is = absurd (cc)
end_says voids renewed.StillGood what is = absurd (cc)

-- ---- the call ends

module _ (shape : Shape) (told : Bool) (callers spares : ℕ) {N : Type 0} (s : SequencerState) (v : PassState) (res : Reservation N) (at : ℕ) (voids : Voids) (met : IsMet shape told callers spares s v)
    (is : IsReserved shape told v res) (begins : IsPrefix res.front.items s.history) (first : first_overtaking res (history_of s.history) ≡ Some at) (kept : voids ≡ with_void res.voids at)
    (idle : AreIdle spares s.notes) where
  -- the act that ends it may come next
  end_follows : (what : Act) → end_of voids (found_anew shape (table_of shape (history_of s.history)) res) ≡ Some what
      → MayFollow shape told (history_of s.history) (ended v (Put res.name res.len) (length s.history) what)
  end_follows what says = by_file (is_some (file_of t res.name)) refl says where
    t : PlainTable
    t = table_of shape (history_of s.history)

    by_tries : (last : Bool) → res.voids.len + 1 == MAX_ATTEMPTS ≡ last → is_some (file_of t res.name) ≡ false → nat_lt (up_count t) shape.n ≡ false
        → end_of voids (cond last renewed.Unsteady renewed.Again) ≡ Some what → MayFollow shape told (history_of s.history) (ended v (Put res.name res.len) (length s.history) what)
    by_tries true last free enough found =
        subst (λ (a : Act). MayFollow shape told (history_of s.history) (ended v (Put res.name res.len) (length s.history) a))
        (ap (λ (x : Voids). act.Unsteady x.at) (sym kept) ∙ same_Some (act.Unsteady voids.at) what found)
        (unsteady_follows shape told callers spares s v res at met is begins first idle (eqb-true (res.voids.len + 1) MAX_ATTEMPTS last) (no_file (file_of t res.name) free)
        (let le : shape.n ≤ up_count t = grind (arith, nat_tests) in le))
    by_tries false more free enough found = absurd (cc)

    by_nodes : (low : Bool) → nat_lt (up_count t) shape.n ≡ low → is_some (file_of t res.name) ≡ false
        → end_of voids (cond low (renewed.TooFewNodes (up_count t)) (cond (res.voids.len + 1 == MAX_ATTEMPTS) renewed.Unsteady renewed.Again)) ≡ Some what
        → MayFollow shape told (history_of s.history) (ended v (Put res.name res.len) (length s.history) what)
    by_nodes true low free found =
        subst (λ (a : Act). MayFollow shape told (history_of s.history) (ended v (Put res.name res.len) (length s.history) a)) (same_Some (act.TooFewNodes (up_count t)) what found)
        (put_refused_told shape told s.history v res.name res.len (places.TooFewNodes (up_count t)) met.session
        (ap (λ (b : Bool). cond b (Some places.NameTaken) (cond (nat_lt (up_count t) shape.n) (Some (places.TooFewNodes (up_count t))) None)) free
        ∙ ap (λ (b : Bool). cond b (Some (places.TooFewNodes (up_count t))) None) low))
    by_nodes false enough free found = by_tries (res.voids.len + 1 == MAX_ATTEMPTS) refl free enough found

    by_file : (there : Bool) → is_some (file_of t res.name) ≡ there
        → end_of voids (cond there renewed.NameTaken (cond (nat_lt (up_count t) shape.n) (renewed.TooFewNodes (up_count t)) (cond (res.voids.len + 1 == MAX_ATTEMPTS) renewed.Unsteady renewed.Again))) ≡ Some what
        → MayFollow shape told (history_of s.history) (ended v (Put res.name res.len) (length s.history) what)
    by_file true there found =
        subst (λ (a : Act). MayFollow shape told (history_of s.history) (ended v (Put res.name res.len) (length s.history) a)) (same_Some act.NameTaken what found)
        (put_refused_told shape told s.history v res.name res.len places.NameTaken met.session
        (ap (λ (b : Bool). cond b (Some places.NameTaken) (cond (nat_lt (up_count t) shape.n) (Some (places.TooFewNodes (up_count t))) None)) there))
    by_file false free found = by_nodes (nat_lt (up_count t) shape.n) refl free found

  pub give_up_follows : (what : Act) → end_of voids (found_by_renewing shape (history_of s.history) res) ≡ Some what
      → MayFollow shape told (history_of s.history) (ended v (Put res.name res.len) (length s.history) what)
  give_up_follows what says = end_follows what (ap (end_of voids) (sym (overtaken_found shape (history_of s.history) res at first)) ∙ says)

  -- what the reservation keeps
  pub moved : (new : Reservation N) → new.voids ≡ voids → MovesPlaces (history_of s.history) res new
  moved new same = record {
    at = at;
    first = first;
    kept = ap (λ (x : Voids). positions_of x) (same ∙ kept) ∙ positions_more shape told callers spares s v res at met is begins first;
  }

  pub gives_up : (t : SequencerState) (w : PassState) (x : StampsSeen) (repairs stripes slice : ℕ) (cyclic : Bool) (nodes : List Log) (what : Act) → Ends shape told s v (Put res.name res.len) what t w
      → GivesUpPlaces shape told (seen s x repairs stripes slice cyclic nodes) v res (record res { voids = voids }) what (seen t x repairs stripes slice cyclic nodes) w
  gives_up t w x repairs stripes slice cyclic nodes what ends = record {
    ends = ends;
    moves = moved (record res { voids = voids }) refl;
    same = refl;
    rest = refl;
  }

-- ---- the next attempt

one_more : (a n : ℕ) → (a + 1) * n ≡ a * n + n
one_more a n = ap (λ (m : ℕ). m * n) (let is : a + 1 ≡ suc a = omega arith in is) ∙ suc-mul a n

-- a later attempt takes as many numbers as the one before it, of those that were kept back for it
pub next_takes : (shape : Shape) (told : Bool) {N : Type 0} (callers spares : ℕ) (s t : SequencerState) (v w : PassState) (p : CoordParts) (old new : Reservation N) (room : ℕ)
    → IsCoord shape told callers spares s p → IsMet shape told callers spares s v → IsReserved shape told v old → IsMade shape told s t v w new room → new.stripes ≡ old.stripes → new.first ≡ p.stripes
    → new.voids.len ≡ old.voids.len + 1 → new.voids.len < MAX_ATTEMPTS
    → (new.stripes ≤ slice_index p.promises v.hand) × TakesNumbers s t p.catalog p.catalog p.stripes p.promises (set p.promises v.hand (slice_index p.promises v.hand - new.stripes)) v.hand v.notes w.notes (booking_says new)
next_takes shape told callers spares s t v w p old new room is met was made as_many first next few =
    let noted = made.event.steps.noted in
    let within : v.hand < length s.notes = omega (arith, met.in_range, met.kept.hands) in
    let in_promises : v.hand < length p.promises = let sized = is.booked.sized in omega (arith, within, sized) in
    let open_call : (facts_of v.notes).call ≡ Some (call_with (v.calls - 1) (Put new.name new.len)) = made.was_open.call in
    let mine : booking (notes_at s.notes v.hand) ≡ Some (booking_says old) = ap (λ (ns : Log). booking ns) met.agree.notes ∙ open_booking shape told v old was in
    let due : still_due (booking_says old) ≤ slice_index p.promises v.hand =
    subst (λ (k : ℕ). k ≤ slice_index p.promises v.hand) (ap (λ (o : Option (List ℕ)). option_map_or still_due o 0) mine) (is.booked.due v.hand) in
    let left : ℕ = MAX_ATTEMPTS - (new.voids.len + 1) in
    let split : still_due (booking_says old) ≡ left * new.stripes + new.stripes =
    ap (λ (k : ℕ). (MAX_ATTEMPTS - (old.voids.len + 1)) * k) (sym as_many)
    ∙ ap (λ (m : ℕ). m * new.stripes) (let is_left : MAX_ATTEMPTS - (old.voids.len + 1) ≡ left + 1 = omega (arith, next, few) in is_left) ∙ one_more left new.stripes in
    let enough : new.stripes ≤ slice_index p.promises v.hand = omega (arith, due, split) in
    let rest : ℕ = slice_index p.promises v.hand - new.stripes in
    let name : name_open w.notes ≡ name_open v.notes = ap (λ (ns : Log). name_open ns) noted ∙ reserved_name v.notes (length s.history) room (booking_says new) in
    let is_booked : booking w.notes ≡ Some (booking_says new) =
    ap (λ (ns : Log). booking ns) noted ∙ reserved_open v.notes (length s.history) room (booking_says new) (call_with (v.calls - 1) (Put new.name new.len)) open_call in
    let set_there : slice_index (set p.promises v.hand rest) v.hand ≡ rest = get_or-set_same p.promises v.hand rest 0 in_promises in (
      enough,
      record {
        within = within;
        before = met.agree.notes;
        after = made.event.notes;
        is_booked = is_booked;
        name = ap (is_entered p.catalog.names) (name ∙ ap (λ (ns : Log). name_open ns) (sym met.agree.notes)) ∙ (is.booked.each v.hand (booking_says old) mine).entered;
        taken = ap (λ (ns : Log). taken_by ns) noted ∙ reserved_taken v.notes (length s.history) room (booking_says new);
        history = ap history_of (made.event.history ∙ append-nil s.history);
        first = first;
        names = λ q there. there;
        room = let all : bookers t.notes ≡ bookers (set s.notes v.hand w.notes) = ap (λ (ns : List Log). bookers ns) made.event.notes in
            let one : one_where (booking (notes_at s.notes v.hand)) ≡ 1 = ap one_where mine in
            let other : one_where (booking w.notes) ≡ 1 = ap one_where is_booked in
            let fits = is.booked.room in
            omega (arith, all, one, other, fits, bookers-set s.notes v.hand w.notes within);
        sized = length-set p.promises v.hand rest;
        others = λ h apart. get_or-set_other p.promises v.hand h rest 0 apart;
        own = subst (λ (k : ℕ). still_due (booking_says new) ≤ k) (sym set_there) (omega (arith, due, split));
        numbers = let all = sum_by-set (λ (x : ℕ). x) p.promises v.hand rest 0 in_promises in let most = is.booked.numbers in omega (arith, all, most, enough);
      },
    )

-- ---- what was done, by the answer

pub stands_by : {N : Type 0} (shape : Shape) (told : Bool) (s t : CoordState) (v w : PassState) (asked : Deed) (res : Reservation N) → Refuses shape told s v asked None t w
    → DidRenew shape told s v res res t w renewed.StillGood
stands_by shape told s t v w asked res by = record { event = by.event; same = refl; rest = by.rest; calls = by.calls }

pub gave_up : {N : Type 0} (shape : Shape) (told : Bool) (s t : CoordState) (v w : PassState) (old new : Reservation N) (voids : Voids) (found : Renewed) (what : Act) → end_of voids found ≡ Some what
    → GivesUpPlaces shape told s v old new what t w → new.voids ≡ voids → DidRenew shape told s v old new t w found
gave_up shape told s t v w old new voids renewed.Again what says done same = absurd (cc)
gave_up shape told s t v w old new voids renewed.StillGood what says done same = absurd (cc)
gave_up shape told s t v w old new voids renewed.NameTaken what says done same =
    subst (λ (a : Act). GivesUpPlaces shape told s v old new a t w) (sym (same_Some act.NameTaken what says)) done
gave_up shape told s t v w old new voids (renewed.TooFewNodes up) what says done same =
    subst (λ (a : Act). GivesUpPlaces shape told s v old new a t w) (sym (same_Some (act.TooFewNodes up) what says)) done
gave_up shape told s t v w old new voids renewed.Unsteady what says done same =
    subst (λ (a : Act). GivesUpPlaces shape told s v old new a t w) (sym (ap (λ (x : Voids). act.Unsteady x.at) same ∙ same_Some (act.Unsteady voids.at) what says)) done

-- ---- the whole event

-- a reservation was overtaken, and this was made of it by the coordinator's catalog
pub record NextMade (shape : Shape) (told : Bool) {N : Type 0} (s t : SequencerState) (v w : PassState) (p : CoordParts) (old : Reservation N) (voids : Voids) (new : Reservation N) : Type 0 where
  pub reserved : IsReserved shape told v old
  pub begins : IsPrefix old.front.items s.history
  pub overtaken : IsOvertaken (history_of s.history) old voids
  pub found : found_by_renewing shape (history_of s.history) old ≡ renewed.Again
  pub placed : IsPlacedNow p.catalog old.name old.len p.stripes old.stripes (record { log = history_log; items = s.history }) voids new
  pub event : Event shape told s v [] (note (length s.history) (room_noted v.notes - 1) (booking_of new) ∷ []) t w
  pub calls : w.calls ≡ v.calls

module _ (shape : Shape) (told : Bool) (callers spares : ℕ) {N : Type 0} (s t : SequencerState) (v w : PassState) (p : CoordParts) (old : Reservation N) (voids : Voids) (new : Reservation N)
    (is : IsCoord shape told callers spares s p) (met : IsMet shape told callers spares s v) (next : NextMade shape told s t v w p old voids new) where
  next_goes : GoesOn shape (table_of shape (history_of s.history)) old
  next_goes =
      goes_on shape (table_of shape (history_of s.history)) old
      (sym (overtaken_found shape (history_of s.history) old next.overtaken.at next.overtaken.first) ∙ next.found)

  one_void : voids.len ≡ old.voids.len + 1
  one_void = ap (λ (x : Voids). x.len) next.overtaken.kept

  few_voids : voids.len < MAX_ATTEMPTS
  few_voids =
      let low : old.voids.len < MAX_ATTEMPTS = next.reserved.few in
      let apart : old.voids.len + 1 ≢ MAX_ATTEMPTS = next_goes.few in
      omega (arith, low, apart, one_void)

  next_made : IsMade shape told s t v w new (room_noted v.notes - 1)
  next_made =
      let left : MAX_ATTEMPTS ≤ room_noted v.notes + old.voids.len = next.reserved.room in
      let low : old.voids.len < MAX_ATTEMPTS = next.reserved.few in
      made_is shape told s t v w p.catalog old.name old.len p.stripes old.stripes voids new (room_noted v.notes - 1) next.reserved.is_open is.outline next.placed next.reserved.counted next_goes.enough few_voids
      (subst (λ (x : Voids). AreVoids shape is_any_loss v.hand s.history x) (sym next.overtaken.kept)
      (voids_more shape told callers spares s v old next.overtaken.at met next.reserved next.begins next.overtaken.first))
      (omega (arith, left, low, one_void)) next.event next.calls

  takes : (new.stripes ≤ slice_index p.promises v.hand) × TakesNumbers s t p.catalog p.catalog p.stripes p.promises (set p.promises v.hand (slice_index p.promises v.hand - new.stripes)) v.hand v.notes w.notes (booking_says new)
  takes =
      let len : new.voids.len ≡ voids.len = ap (λ (x : Voids). x.len) next.placed.kept in
      next_takes shape told callers spares s t v w p old new (room_noted v.notes - 1) is met next.reserved next_made next.placed.numbers.1 next.placed.numbers.0 (omega (arith, len, one_void)) (omega (arith, len, few_voids))

  pub next_coord : IsCoord shape told callers spares t (with_booking p p.catalog (p.stripes + new.stripes) (set p.promises v.hand (slice_index p.promises v.hand - new.stripes)))
  next_coord =
      reserved_kept shape told callers spares s t v w p p.catalog (set p.promises v.hand (slice_index p.promises v.hand - new.stripes)) new (room_noted v.notes - 1) is met next_made is.outline (serves_same p.catalog) is.room takes.1 took
    where
      took : open_numbers shape v.notes + new.stripes ≡ (new.voids.len + 1) * new.stripes
      took =
          let as_many : new.stripes ≡ old.stripes = next.placed.numbers.1 in
          let len : new.voids.len ≡ old.voids.len + 1 = ap (λ (x : Voids). x.len) next.placed.kept ∙ one_void in
          ap (λ (n : ℕ). n + new.stripes) (reserved_numbers shape told v old next.reserved ∙ ap (λ (n : ℕ). (old.voids.len + 1) * n) (sym as_many))
          ∙ sym (one_more (old.voids.len + 1) new.stripes) ∙ ap (λ (n : ℕ). (n + 1) * new.stripes) (sym len)

  pub next_renews : (x : StampsSeen) (repairs slice : ℕ) (cyclic : Bool) (nodes : List Log)
      → Renews shape told (seen s x repairs p.stripes slice cyclic nodes) v old new (seen t x repairs (p.stripes + new.stripes) slice cyclic nodes) w
  next_renews x repairs slice cyclic nodes = record {
    event = next.event;
    is_reserved = is_reserved shape told s t v w new (room_noted v.notes - 1) next_made;
    front = next_made.front;
    numbered = next.placed.numbers.0;
    moves = moved shape told callers spares s v old next.overtaken.at voids met next.reserved next.begins next.overtaken.first next.overtaken.kept is.idle new next.placed.kept;
    same = next.placed.named;
    rest = refl;
    calls = next.calls;
  }

  -- the numbers fit
  pub next_fits : (new.stripes ≤ slice_index p.promises v.hand) × (p.stripes + new.stripes < 2 ^ 32) × (v.hand < length p.promises)
  next_fits =
      let sized = is.booked.sized in
      let most : p.stripes + booked_count (booking_says new) + sum (set p.promises v.hand (slice_index p.promises v.hand - new.stripes)) ≤ END_OF_STRIPES = takes.1.numbers in
      (takes.0, omega (arith, most), omega (arith, met.in_range, met.kept.hands, sized))
