-- Steps of a pass, one behind another.
use Rattle.std.proofs.Common.{◌≡◌, ℕ, zero, suc, ◌+◌, ◌≤◌, List, [], ◌∷◌, ◌++◌, map, take, drop, Some, refl, sym, ◌∙◌, ap, subst, arith, add-one, append-nil, append_assoc}
use Rattle.std.specs.Prelude.{All, slice_get}
use mathlib.Core.List.{IsPrefix}
use Rattle.std.proofs.lemmas.List.{map-append, map-id, take-append-drop}
use Rattle.std.proofs.lemmas.List.FromFn.{map-range_with_len_more}
use Rattle.std.specs.List.{range_with_len}
use Rattle.std.proofs.lemmas.List.Elements.{All-weaker}
use Rattle.ecp_book.specs.Logs.{Log, history_log}
use Rattle.ecp_book.proofs.Prefixes.{prefix_self, prefix_trans, prefix_both}
use Rattle.ecp_entry.specs.declared.entry.Entry.{Entry}
use Rattle.ecp_entry.specs.Items.{item}
use Rattle.ecp_entry.specs.Told.{history_of, items_by, by_hand}
use Rattle.ecp_entry.proofs.ToldLaws.{history_of-append, history_of-item, items_by-append}
use Rattle.ecp_sequencer.specs.Hands.{IsHandOf, own_hand}
use Rattle.ecp_sequencer.specs.Histories.{Stands}
use Rattle.ecp_sequencer.specs.Notes.{point_of}
use Rattle.ecp_sequencer.specs.Facts.{facts_of, entries_noted}
use Rattle.ecp_sequencer.specs.Passes.{HandNotes, PassState, IsHeld, IsPass, IsWhole, first_pass, new_hands, pass_seen}
use Rattle.ecp_sequencer.specs.Steps.{Steps}
use Rattle.ecp_sequencer.proofs.KeptLaws.{items_by-prefix}

-- a pass that does nothing
pub steps_none : (v : PassState) → items_by v.hand v.front ≡ entries_noted v.notes → Steps v [] [] v
steps_none v known = record {
  caller = refl;
  hand = refl;
  places = refl;
  spare = refl;
  extends = prefix_self v.front;
  known = known;
  entered = sym (append-nil (items_by v.hand v.front));
  noted = sym (append-nil v.notes);
  settled = known;
}

pub steps_both : (u v w : PassState) (mine theirs : List Entry) (more others : Log) → Steps u mine more v → Steps v theirs others w
    → Steps u (mine ++ theirs) (more ++ others) w
steps_both u v w mine theirs more others a b =
    let of_v : (front : Log) → items_by v.hand front ≡ items_by u.hand front = λ front. ap (λ (h : ℕ). items_by h front) a.hand in
    record {
      caller = b.caller ∙ a.caller;
      hand = b.hand ∙ a.hand;
      places = b.places ∙ a.places;
      spare = b.spare ∙ a.spare;
      extends = prefix_trans u.front v.front w.front a.extends b.extends;
      known = a.known;
      entered = sym (of_v w.front) ∙ b.entered ∙ ap (λ (xs : Log). xs ++ map (item v.hand) theirs) (of_v v.front ∙ a.entered)
          ∙ ap (λ (h : ℕ). (items_by u.hand u.front ++ map (item u.hand) mine) ++ map (item h) theirs) a.hand
          ∙ append_assoc (items_by u.hand u.front) (map (item u.hand) mine) (map (item u.hand) theirs)
          ∙ ap (λ (xs : Log). items_by u.hand u.front ++ xs) (sym (map-append (item u.hand) mine theirs));
      noted = b.noted ∙ ap (λ (xs : Log). xs ++ others) a.noted ∙ append_assoc u.notes more others;
      settled = sym (of_v w.front) ∙ b.settled;
    }

-- what a raised pass does, the pass did before it was raised
pub steps_raised : (u v w : PassState) (mine : List Entry) (more : Log) → v.caller ≡ u.caller → v.hand ≡ u.hand → v.places ≡ u.places → v.spare ≡ u.spare → v.notes ≡ u.notes
    → IsPrefix u.front v.front → IsPrefix (entries_noted u.notes) (items_by u.hand u.front) → Steps v mine more w → Steps u mine more w
steps_raised u v w mine more caller hand places spare notes longer noted s =
    let of_v : (front : Log) → items_by v.hand front ≡ items_by u.hand front = λ front. ap (λ (h : ℕ). items_by h front) hand in
    let whole : items_by u.hand v.front ≡ entries_noted u.notes = sym (of_v v.front) ∙ s.known ∙ ap entries_noted notes in
    let within : IsPrefix (items_by u.hand u.front) (entries_noted u.notes) = subst (IsPrefix (items_by u.hand u.front)) whole (items_by-prefix u.hand u.front v.front longer) in
    let known : items_by u.hand u.front ≡ entries_noted u.notes = prefix_both (items_by u.hand u.front) (entries_noted u.notes) within noted in
    record {
      caller = s.caller ∙ caller;
      hand = s.hand ∙ hand;
      places = s.places ∙ places;
      spare = s.spare ∙ spare;
      extends = prefix_trans u.front v.front w.front longer s.extends;
      known = known;
      entered = sym (of_v w.front) ∙ s.entered ∙ ap (λ (xs : Log). xs ++ map (item v.hand) mine) (of_v v.front ∙ whole ∙ sym known)
          ∙ ap (λ (h : ℕ). items_by u.hand u.front ++ map (item h) mine) hand;
      noted = s.noted ∙ ap (λ (xs : Log). xs ++ more) notes;
      settled = sym (of_v w.front) ∙ s.settled;
    }

-- ---- passes that have all their hands

hands_new : (from n : ℕ) → map (λ (h : HandNotes). h.hand) (new_hands from n) ≡ map (λ (k : ℕ). k) (range_with_len from n)
hands_new from zero = refl
hands_new from (suc n) =
    map-append (λ (h : HandNotes). h.hand) (new_hands from n) (record { hand = from + n; notes = [] } ∷ [])
    ∙ ap (λ (ks : List ℕ). ks ++ (from + n) ∷ []) (hands_new from n)
    ∙ sym (map-range_with_len_more (λ (k : ℕ). k) from n (from + n) refl) ∙ ap (λ (k : ℕ). map (λ (j : ℕ). j) (range_with_len from k)) (add-one n)

pub first_whole : (spares caller : ℕ) → IsWhole (first_pass spares caller)
first_whole spares caller = record {
  own = refl;
  all = hands_new (own_hand spares caller + 1) spares ∙ map-id (range_with_len (own_hand spares caller + 1) spares);
}

-- a pass is whole by its caller, its places and its hands alone
pub whole_by : (v w : PassState) → w.caller ≡ v.caller → w.hand ≡ v.hand → w.places ≡ v.places → w.spare ≡ v.spare → IsWhole v → IsWhole w
whole_by v w caller hand places spare is = record {
  own = hand ∙ is.own ∙ ap (own_hand v.places) (sym caller) ∙ ap (λ (n : ℕ). own_hand n w.caller) (sym places);
  all = ap (map (λ (h : HandNotes). h.hand)) spare ∙ is.all ∙ ap (λ (c : ℕ). range_with_len (own_hand v.places c + 1) v.places) (sym caller)
      ∙ ap (λ (n : ℕ). range_with_len (own_hand n w.caller + 1) n) (sym places);
}

-- what a pass does leaves it whole
pub steps_whole : (v w : PassState) (mine : List Entry) (more : Log) → Steps v mine more w → IsWhole v → IsWhole w
steps_whole v w mine more s is = whole_by v w s.caller s.hand s.places s.spare is

-- ---- what holds of every pass

module _ (callers spares : ℕ) where
  -- a longer front has all that the hands noted
  pub held_longer : (caller calls later : ℕ) (front longer : Log) (hands : List HandNotes) → IsPrefix front longer → calls ≤ later
      → All (IsHeld callers spares caller calls front) hands → All (IsHeld callers spares caller later longer) hands
  held_longer caller calls later front longer hands p le held =
      All-weaker (IsHeld callers spares caller calls front) (IsHeld callers spares caller later longer) (λ h is. record {
        own = is.own;
        spare = is.spare;
        in_range = is.in_range;
        noted = prefix_trans (entries_noted h.notes) (items_by h.hand front) (items_by h.hand longer) is.noted (items_by-prefix h.hand front longer p);
        numbered = omega (arith, is.numbered, le);
      }) hands held

  -- a pass with a longer front, and more notes and calls
  pub pass_next : (log new caller calls later : ℕ) (front longer : Log) (own noted : HandNotes) (spare : List HandNotes)
      → IsPass callers spares log (pass_seen spares caller calls front own spare) → new ≡ history_log → noted.hand ≡ own.hand → IsPrefix front longer → calls ≤ later
      → IsPrefix (entries_noted noted.notes) (items_by own.hand longer) → (facts_of noted.notes).calls ≤ later
      → IsPass callers spares new (pass_seen spares caller later longer noted spare)
  pass_next log new caller calls later front longer own noted spare is on same p le entries numbered = record {
    on_history = on;
    places = refl;
    own = subst (IsHandOf spares caller) (sym same) is.own;
    session = is.session;
    in_range = omega (arith, is.in_range, same);
    noted = subst (λ (h : ℕ). IsPrefix (entries_noted noted.notes) (items_by h longer)) (sym same) entries;
    numbered = numbered;
    held = held_longer caller calls later front longer spare p le is.held;
  }

  -- the same with no more notes
  pub pass_longer : (log new caller calls later : ℕ) (front longer : Log) (own : HandNotes) (spare : List HandNotes)
      → IsPass callers spares log (pass_seen spares caller calls front own spare) → new ≡ history_log → IsPrefix front longer → calls ≤ later
      → IsPass callers spares new (pass_seen spares caller later longer own spare)
  pass_longer log new caller calls later front longer own spare is on p le =
      pass_next log new caller calls later front longer own own spare is on refl p le
      (prefix_trans (entries_noted own.notes) (items_by own.hand front) (items_by own.hand longer) is.noted (items_by-prefix own.hand front longer p))
      (omega (arith, is.numbered, le))

  -- a pass that counts more calls
  pub pass_counts : (log caller calls later : ℕ) (front : Log) (own : HandNotes) (spare : List HandNotes)
      → IsPass callers spares log (pass_seen spares caller calls front own spare) → calls ≤ later → IsPass callers spares log (pass_seen spares caller later front own spare)
  pass_counts log caller calls later front own spare is le = pass_longer log log caller calls later front front own spare is is.on_history (prefix_self front) le

-- ---- what steps say of entries

pub history-items : (hand : ℕ) (mine : List Entry) → history_of (map (item hand) mine) ≡ mine
history-items hand [] = refl
history-items hand (e ∷ mine) =
    history_of-append (item hand e ∷ []) (map (item hand) mine) ∙ ap (λ (es : List Entry). es ++ history_of (map (item hand) mine)) (history_of-item hand e)
    ∙ ap (λ (es : List Entry). e ∷ es) (history-items hand mine)

pub steps_by_hand : (v w : PassState) (mine : List Entry) (more : Log) → Steps v mine more w → by_hand v.hand w.front ≡ by_hand v.hand v.front ++ mine
steps_by_hand v w mine more s =
    ap history_of s.entered ∙ history_of-append (items_by v.hand v.front) (map (item v.hand) mine)
    ∙ ap (λ (es : List Entry). by_hand v.hand v.front ++ es) (history-items v.hand mine)

-- the entries from a note on stand at its point or behind it
pub entries_past : (history notes : Log) (hand i : ℕ) (x : List ℕ) → Stands history hand notes → slice_get notes i ≡ Some x
    → entries_noted notes ≡ entries_noted (take i notes) ++ items_by hand (drop (point_of x) history)
entries_past history notes hand i x stands here =
    let p : ℕ = point_of x in
    sym stands.entries ∙ ap (items_by hand) (sym (take-append-drop p history)) ∙ items_by-append hand (take p history) (drop p history)
    ∙ ap (λ (xs : Log). xs ++ items_by hand (drop p history)) (stands.fit i x here).stamped
