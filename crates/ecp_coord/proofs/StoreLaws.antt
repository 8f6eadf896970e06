-- What is kept of all reservations, as a hand notes one more, and as one is stored.
use Rattle.std.proofs.Common.{◌≡◌, ◌≢◌, ℕ, ◌+◌, ◌<◌, ◌≤◌, ◌⊎◌, true, false, cond, List, [], ◌∷◌, ◌++◌, length, set, Option, Some, None, refl, sym, ◌∙◌, ap, subst, arith, inl, inr, length-set}
use Rattle.std.specs.Prelude.{All, is_some, slice_index, sum, sum_by}
use Rattle.std.specs.List.{list_any}
use Rattle.std.specs.Option.{option_map_or}
use mathlib.Core.Logic.{dite}
use native.Mathlib.Decide.{ℕ_discrete}
use Rattle.std.proofs.lemmas.Bool.Decides.{nat_tests}
use Rattle.std.proofs.lemmas.List.Elements.{All-head, All-tail, All-push}
use Rattle.ecp_book.specs.Logs.{Log}
use Rattle.ecp_entry.specs.declared.act.Act.{Act}
use Rattle.ecp_entry.specs.declared.act.Act.TheVariants as act
use Rattle.ecp_entry.specs.declared.entry.Entry.{Entry}
use Rattle.ecp_entry.specs.Told.{history_of}
use Rattle.ecp_history.specs.Acts.{AreFresh, has_stripe}
use Rattle.ecp_history.specs.Files.{StripesBelow}
use Rattle.ecp_catalog.specs.declared.limits.TheConstants.{END_OF_STRIPES}
use Rattle.ecp_catalog.specs.Catalogs.{CatalogState, is_entered}
use Rattle.ecp_sequencer.specs.Histories.{notes_at}
use Rattle.ecp_sequencer.specs.Sequencers.{SequencerState}
use Rattle.ecp_coord.specs.Bookings.{AreApart, AreBooked, CanBeStored, bookers, booked_count, booked_first, booking, name_open, promised, still_due, taken_by}
use Rattle.ecp_coord.proofs.AnyLaws.{any_append_none, both_none}
use Rattle.ecp_coord.proofs.BookLaws.{bookers-set, none_some, notes_set_other, notes_set_same, taken-set}

-- ---- numbers behind those of all files are fresh

not_numbered : (n s : ℕ) (a : Act) → StripesBelow n a → n ≤ s → has_stripe s a ≡ false
not_numbered n s (act.Stored first stripes up) below past = grind (arith, nat_tests)
not_numbered n s _ below past = refl

pub fresh_behind : (n count : ℕ) (history : List Entry) → All (λ e. StripesBelow n e.line.act) history → AreFresh history n count
fresh_behind n count history below s from to = none history below where
  none : (es : List Entry) → All (λ e. StripesBelow n e.line.act) es → list_any (λ x. has_stripe s x.line.act) es ≡ false
  none [] all = refl
  none (e ∷ es) all =
      both_none (has_stripe s e.line.act) (list_any (λ x. has_stripe s x.line.act) es)
      (not_numbered n s e.line.act (All-head (λ x. StripesBelow n x.line.act) e es all) from)
      (none es (All-tail (λ x. StripesBelow n x.line.act) e es all))

more_below : (n m : ℕ) → n ≤ m → (a : Act) → StripesBelow n a → StripesBelow m a
more_below n m le (act.Stored first stripes up) below = omega (arith, below, le)
more_below n m le _ below = tt

-- ---- one more reservation

some_one : (a b : List ℕ) → Some a ≡ Some b → a ≡ b
some_one a b same = ap (λ (o : Option (List ℕ)). option_map_or (λ (x : List ℕ). x) o []) same

-- what a hand notes when it takes numbers: its notes before, its open call, what its note says, and the promises from then on
pub record TakesNumbers (s t : SequencerState) (c d : CatalogState) (stripes : ℕ) (promises later : List ℕ) (hand : ℕ) (was now : Log) (says : List ℕ) : Type 0 where
  pub within : hand < length s.notes
  pub before : notes_at s.notes hand ≡ was
  pub after : t.notes ≡ set s.notes hand now
  pub is_booked : booking now ≡ Some says
  pub name : is_entered d.names (name_open now) ≡ true
  pub taken : taken_by now ≡ taken_by was + booked_count says
  pub history : history_of t.history ≡ history_of s.history
  pub first : booked_first says ≡ stripes
  pub names : (q : List ℕ) → is_entered c.names q ≡ true → is_entered d.names q ≡ true
  pub room : bookers t.notes ≤ d.room
  pub sized : length later ≡ length promises
  pub others : (h : ℕ) → h ≢ hand → slice_index later h ≡ slice_index promises h
  pub own : still_due says ≤ slice_index later hand
  pub numbers : stripes + booked_count says + sum later ≤ END_OF_STRIPES

stored_still : (history : List Entry) (c d : CatalogState) (n m : ℕ) (was now : Log) (b : List ℕ) → CanBeStored history c n was b → n ≤ m → name_open now ≡ name_open was
    → ((q : List ℕ) → is_entered c.names q ≡ true → is_entered d.names q ≡ true) → CanBeStored history d m now b
stored_still history c d n m was now b can le name names = record {
  below = let is = can.below in omega (arith, is, le);
  fresh = can.fresh;
  entered = names (name_open now) (ap (is_entered c.names) name ∙ can.entered);
}

pub booked_more : (s t : SequencerState) (c d : CatalogState) (stripes : ℕ) (promises later : List ℕ) (hand : ℕ) (was now : Log) (says : List ℕ) → AreBooked s c stripes promises
    → TakesNumbers s t c d stripes promises later hand was now says → AreBooked t d (stripes + booked_count says) later
booked_more s t c d stripes promises later hand was now says booked takes =
    let n : ℕ = stripes + booked_count says in
    let own : notes_at t.notes hand ≡ now = notes_set_same s.notes t.notes hand now takes.after takes.within in
    let other : (h : ℕ) → h ≢ hand → notes_at t.notes h ≡ notes_at s.notes h = notes_set_other s.notes t.notes hand now takes.after in
    let mine : (h : ℕ) (b : List ℕ) → h ≡ hand → booking (notes_at t.notes h) ≡ Some b → says ≡ b =
    λ h b same at. some_one says b (sym (ap (λ (ns : Log). booking ns) (ap (notes_at t.notes) same ∙ own) ∙ takes.is_booked) ∙ at) in
    let old : (h : ℕ) (b : List ℕ) → h ≢ hand → booking (notes_at t.notes h) ≡ Some b → booking (notes_at s.notes h) ≡ Some b =
    λ h b apart at. ap (λ (ns : Log). booking ns) (sym (other h apart)) ∙ at in
    let below : (h : ℕ) (b : List ℕ) → h ≢ hand → booking (notes_at t.notes h) ≡ Some b → booked_first b + booked_count b ≤ booked_first says =
    λ h b apart at. subst (λ (k : ℕ). booked_first b + booked_count b ≤ k) (sym takes.first) (booked.each h b (old h b apart at)).below in
    let new_fresh : AreFresh (history_of s.history) (booked_first says) (booked_count says) =
    subst (λ (k : ℕ). AreFresh (history_of s.history) k (booked_count says)) (sym takes.first) (fresh_behind stripes (booked_count says) (history_of s.history) booked.stored) in
    record {
      counted = let all : sum_by taken_by t.notes ≡ sum_by taken_by (set s.notes hand now) = ap (λ (ns : List Log). sum_by taken_by ns) takes.after in
          let old_taken : taken_by (notes_at s.notes hand) ≡ taken_by was = ap (λ (ns : Log). taken_by ns) takes.before in
          omega (arith, booked.counted, taken-set s.notes hand now takes.within, takes.taken, old_taken, all);
      stored = subst (All (λ e. StripesBelow n e.line.act)) (sym takes.history)
          (λ k e low. more_below stripes n (let le : stripes ≤ n = omega arith in le) _ (booked.stored k e low));
      each = λ h b at. subst (λ (es : List Entry). CanBeStored es d n (notes_at t.notes h) b) (sym takes.history) (dite (ℕ_discrete h hand)
          (λ (same : h ≡ hand). subst (λ (x : List ℕ). CanBeStored (history_of s.history) d n (notes_at t.notes h) x) (mine h b same at) (record {
            below = subst (λ (k : ℕ). k + booked_count says ≤ n) (sym takes.first) (let le : n ≤ n = omega arith in le);
            fresh = new_fresh;
            entered = ap (λ (ns : Log). is_entered d.names (name_open ns)) (ap (notes_at t.notes) same ∙ own) ∙ takes.name;
          }))
          (λ (apart : h ≢ hand). stored_still (history_of s.history) c d stripes n (notes_at s.notes h) (notes_at t.notes h) b (booked.each h b (old h b apart at))
          (let le : stripes ≤ n = omega arith in le) (ap (λ (ns : Log). name_open ns) (other h apart)) takes.names));
      apart = λ g h a b ne at_g at_h. dite (ℕ_discrete g hand)
          (λ (same : g ≡ hand).
          let off : h ≢ hand = λ is. ne (same ∙ sym is) in
          subst (λ (x : List ℕ). AreApart x b) (mine g a same at_g) (inr (below h b off at_h)))
          (λ (off_g : g ≢ hand). dite (ℕ_discrete h hand)
          (λ (same : h ≡ hand). subst (λ (x : List ℕ). AreApart a x) (mine h b same at_h) (inl (below g a off_g at_g)))
          (λ (off_h : h ≢ hand). booked.apart g h a b ne (old g a off_g at_g) (old h b off_h at_h)));
      room = takes.room;
      due = λ h. dite (ℕ_discrete h hand)
          (λ (same : h ≡ hand).
          let is : promised (notes_at t.notes h) ≡ still_due says =
          ap (λ (ns : Log). promised ns) (ap (notes_at t.notes) same ∙ own) ∙ ap (λ (o : Option (List ℕ)). option_map_or still_due o 0) takes.is_booked in
          subst (λ (k : ℕ). promised (notes_at t.notes h) ≤ slice_index later k) (sym same) (subst (λ (k : ℕ). k ≤ slice_index later hand) (sym is) takes.own))
          (λ (apart : h ≢ hand).
          subst (λ (k : ℕ). promised (notes_at t.notes h) ≤ k) (sym (takes.others h apart))
          (subst (λ (ns : Log). promised ns ≤ slice_index promises h) (sym (other h apart)) (booked.due h)));
      numbers = takes.numbers;
      sized = takes.sized ∙ booked.sized ∙ sym (ap (λ (ns : List Log). length ns) takes.after ∙ length-set s.notes hand now);
    }

-- ---- one reservation is stored

-- one where there is one, else none
abbrev pub one_where : Option (List ℕ) → ℕ
one_where o = cond (is_some o) 1 0

-- a hand stores what it had open, by an entry with these numbers, in a place of the catalog's room
pub record StoresBooking (s t : SequencerState) (c d : CatalogState) (hand : ℕ) (now : Log) (b : List ℕ) (e : Entry) (up : ℕ) : Type 0 where
  pub within : hand < length s.notes
  pub is_open : booking (notes_at s.notes hand) ≡ Some b
  pub after : t.notes ≡ set s.notes hand now
  pub closed : booking now ≡ None
  pub taken : taken_by now ≡ taken_by (notes_at s.notes hand)
  pub grown : history_of t.history ≡ history_of s.history ++ e ∷ []
  pub says : e.line.act ≡ act.Stored (booked_first b) (booked_count b) up
  pub names : d.names ≡ c.names
  pub room : d.room + 1 ≡ c.room

apart_number : (s first count : ℕ) (b : List ℕ) (up : ℕ) → (first + count ≤ booked_first b) ⊎ (booked_first b + booked_count b ≤ first) → first ≤ s → s < first + count
    → has_stripe s (act.Stored (booked_first b) (booked_count b) up) ≡ false
apart_number s first count b up (inl before) from to = grind (arith, nat_tests)
apart_number s first count b up (inr behind) from to = grind (arith, nat_tests)

pub booked_stored : (s t : SequencerState) (c d : CatalogState) (stripes : ℕ) (promises : List ℕ) (hand : ℕ) (now : Log) (b : List ℕ) (e : Entry) (up : ℕ) → AreBooked s c stripes promises
    → StoresBooking s t c d hand now b e up → AreBooked t d stripes promises
booked_stored s t c d stripes promises hand now b e up booked stores =
    let own : notes_at t.notes hand ≡ now = notes_set_same s.notes t.notes hand now stores.after stores.within in
    let other : (h : ℕ) → h ≢ hand → notes_at t.notes h ≡ notes_at s.notes h = notes_set_other s.notes t.notes hand now stores.after in
    let not_own : (h : ℕ) (x : List ℕ) → booking (notes_at t.notes h) ≡ Some x → h ≢ hand =
    λ h x at same. none_some x (sym (ap (λ (ns : Log). booking ns) (ap (notes_at t.notes) same ∙ own) ∙ stores.closed) ∙ at) in
    let old : (h : ℕ) (x : List ℕ) → booking (notes_at t.notes h) ≡ Some x → booking (notes_at s.notes h) ≡ Some x =
    λ h x at. ap (λ (ns : Log). booking ns) (sym (other h (not_own h x at))) ∙ at in
    let mine : CanBeStored (history_of s.history) c stripes (notes_at s.notes hand) b = booked.each hand b stores.is_open in
    let fresh : (h : ℕ) (x : List ℕ) → booking (notes_at t.notes h) ≡ Some x → AreFresh (history_of s.history ++ e ∷ []) (booked_first x) (booked_count x) =
    λ h x at k from to.
    any_append_none (λ (y : Entry). has_stripe k y.line.act) (history_of s.history) (e ∷ []) ((booked.each h x (old h x at)).fresh k from to)
    (both_none (has_stripe k e.line.act) false
    (ap (has_stripe k) stores.says ∙ apart_number k (booked_first x) (booked_count x) b up (booked.apart h hand x b (not_own h x at) (old h x at) stores.is_open) from to) refl) in
    record {
      counted = let all : sum_by taken_by t.notes ≡ sum_by taken_by (set s.notes hand now) = ap (λ (ns : List Log). sum_by taken_by ns) stores.after in
          omega (arith, booked.counted, taken-set s.notes hand now stores.within, stores.taken, all);
      stored = subst (All (λ x. StripesBelow stripes x.line.act)) (sym stores.grown)
          (All-push (λ (x : Entry). StripesBelow stripes x.line.act) (history_of s.history) e booked.stored (subst (StripesBelow stripes) (sym stores.says) mine.below));
      each = λ h x at. subst (λ (es : List Entry). CanBeStored es d stripes (notes_at t.notes h) x) (sym stores.grown) (
          let was = booked.each h x (old h x at) in
          record {
            below = was.below;
            fresh = fresh h x at;
            entered = ap (λ (ns : Log). is_entered d.names (name_open ns)) (other h (not_own h x at)) ∙ ap (λ (ns : List (List ℕ)). is_entered ns (name_open (notes_at s.notes h))) stores.names ∙ was.entered;
          });
      apart = λ g h a x ne at_g at_h. booked.apart g h a x ne (old g a at_g) (old h x at_h);
      room = let all : bookers t.notes ≡ bookers (set s.notes hand now) = ap (λ (ns : List Log). bookers ns) stores.after in
          let was : one_where (booking (notes_at s.notes hand)) ≡ 1 = ap one_where stores.is_open in
          let is : one_where (booking now) ≡ 0 = ap one_where stores.closed in
          omega (arith, booked.room, bookers-set s.notes hand now stores.within, was, is, all, stores.room);
      due = λ h. dite (ℕ_discrete h hand)
          (λ (same : h ≡ hand).
          let none : promised (notes_at t.notes h) ≡ 0 =
          ap (λ (ns : Log). promised ns) (ap (notes_at t.notes) same ∙ own) ∙ ap (λ (o : Option (List ℕ)). option_map_or still_due o 0) stores.closed in
          omega (arith, none))
          (λ (apart : h ≢ hand). subst (λ (ns : Log). promised ns ≤ slice_index promises h) (sym (other h apart)) (booked.due h));
      numbers = booked.numbers;
      sized = booked.sized ∙ sym (ap (λ (ns : List Log). length ns) stores.after ∙ length-set s.notes hand now);
    }
