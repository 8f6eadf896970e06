-- What holds of every coordinator, as its history and what is noted grow: one law for all events that book nothing.
use Rattle.std.proofs.Common.{◌≡◌, ◌≢◌, ℕ, ◌+◌, ◌<◌, ◌≤◌, Bool, false, cond, List, [], ◌∷◌, ◌++◌, length, set, refl, sym, ◌∙◌, ap, subst, arith, inl, inr, append-nil, get_or-set_other}
use Rattle.std.specs.List.{list_any}
use Rattle.std.proofs.lemmas.Bool.{cases_lt}
use Rattle.ecp_shape.specs.declared.shape.Shape.{Shape}
use Rattle.ecp_book.specs.Logs.{Known, Log}
use Rattle.ecp_entry.specs.declared.entry.Entry.{Entry}
use Rattle.ecp_entry.specs.Items.{item}
use Rattle.ecp_entry.specs.Told.{history_of}
use Rattle.ecp_entry.proofs.ToldLaws.{history_of-more}
use Rattle.ecp_history.specs.Counted.{faults_spent, spends_fault}
use Rattle.ecp_history.proofs.CountLaws.{faults_spent-more}
use Rattle.ecp_catalog.specs.Catalogs.{CatalogState}
use Rattle.ecp_catalog.specs.Outline.{IsOutline}
use Rattle.ecp_sequencer.specs.Hands.{IsHandOf, own_hand}
use Rattle.ecp_sequencer.specs.Histories.{notes_at}
use Rattle.ecp_sequencer.specs.Notes.{note, entering_of}
use Rattle.ecp_sequencer.specs.Passes.{PassState}
use Rattle.ecp_sequencer.specs.Sequencers.{SequencerState}
use Rattle.ecp_sequencer.specs.Steps.{Event}
use Rattle.ecp_sequencer.proofs.StartLaws.{hands_fit}
use Rattle.ecp_coord.specs.Coords.{AreIdle, AreTags, CoordParts, HasRoom, IsCoord, is_drop}
use Rattle.ecp_coord.proofs.AnyLaws.{any_append_none, both_none}
use Rattle.ecp_coord.proofs.BookLaws.{LeavesBooking, Serves, booked_kept, entered_leaves, is_storing}
use Rattle.ecp_coord.specs.Numbers.{IsCovered, EachEnded, open_numbers}
use Rattle.ecp_coord.proofs.FollowLaws.{IsMet}
use Rattle.ecp_coord.proofs.CoverLaws.{covered_entered, covered_noted}

-- an entry that spends no fault leaves what the tags have to cover
pub tags_kept : (nodes : ℕ) (history after : Log) (tags : List Known) (hand : ℕ) (e : Entry) → AreTags nodes history tags → after ≡ history ++ item hand e ∷ []
    → ((m : ℕ) → spends_fault m e ≡ false) → AreTags nodes after tags
tags_kept nodes history after tags hand e are grown none = record {
  each = are.each;
  on_logs = are.on_logs;
  paid = λ m t below.
      let told : history_of after ≡ history_of history ++ e ∷ [] = ap history_of grown ∙ history_of-more history hand e in
      let same : faults_spent m (history_of after) ≡ faults_spent m (history_of history) + cond false 1 0 =
      ap (faults_spent m) told ∙ faults_spent-more m (history_of history) e ∙ ap (λ (b : Bool). faults_spent m (history_of history) + cond b 1 0) (none m) in
      omega (arith, are.paid m t below, same);
}

-- an own hand is one caller's alone
pub own_of_one : (spares caller k : ℕ) → IsHandOf spares k (own_hand spares caller) → k ≡ caller
own_of_one spares caller k its = elim (cases_lt k caller) [
  | inl below ↦ absurd (let far = hands_fit caller spares k below in omega (arith, far, its.within))
  | inr from ↦ elim (cases_lt caller k) [
    | inl above ↦ absurd (let far = hands_fit k spares caller above in omega (arith, far, its.from))
    | inr at ↦ omega (arith, from, at)
  ]
]

-- the hands that are not a caller's own noted nothing, when one noted that is
pub idle_kept : (spares caller : ℕ) (notes later : List Log) (hand : ℕ) (now : Log) → AreIdle spares notes → hand ≡ own_hand spares caller → later ≡ set notes hand now → AreIdle spares later
idle_kept spares caller notes later hand now idle own is = λ k h its off.
    let apart : h ≢ hand = λ same.
    let one : k ≡ caller = own_of_one spares caller k (subst (IsHandOf spares k) (same ∙ own) its) in
    off (same ∙ own ∙ ap (own_hand spares) (sym one)) in
    ap (λ (ns : List Log). notes_at ns h) is ∙ get_or-set_other notes hand h now [] apart ∙ idle k h its off

-- a coordinator's parts, with this catalog
abbrev pub with_catalog : CoordParts → CatalogState → CoordParts
with_catalog p d = record p { catalog = d }

-- an entry stores nothing, gives up nothing and spends no fault
pub record IsPlain (e : Entry) : Type 0 where
  pub stores : is_storing e ≡ false
  pub drops : is_drop e ≡ false
  pub spends : (m : ℕ) → spends_fault m e ≡ false

module _ (shape : Shape) (told : Bool) (callers spares : ℕ) where
  hand_within : (s : SequencerState) (v : PassState) → IsMet shape told callers spares s v → v.hand < length s.notes
  hand_within s v met = omega (arith, met.in_range, met.kept.hands)

  -- the hand of the pass is known by its notes
  leaves_at : (s : SequencerState) (v : PassState) (now : Log) → IsMet shape told callers spares s v → LeavesBooking v.notes now → LeavesBooking (notes_at s.notes v.hand) now
  leaves_at s v now met leaves = subst (λ (ns : Log). LeavesBooking ns now) (sym met.agree.notes) leaves

  -- one plain entry more, where the catalog is the outline of the longer history
  pub entered_kept : (s t : SequencerState) (v w : PassState) (p : CoordParts) (d : CatalogState) (e : Entry) (room : ℕ) → IsCoord shape told callers spares s p
      → IsMet shape told callers spares s v → Event shape told s v (e ∷ []) (note (length s.history) room (entering_of v.hand e) ∷ []) t w → IsPlain e
      → IsCovered shape s v e → IsOutline shape told d (history_of s.history ++ e ∷ []) → Serves p.catalog d → HasRoom shape.nodes d t.notes → IsCoord shape told callers spares t (with_catalog p d)
  entered_kept s t v w p d e room is met event plain owes outline serves has =
      let grown : history_of t.history ≡ history_of s.history ++ e ∷ [] = ap history_of event.history ∙ history_of-more s.history v.hand e in
      let leaves : LeavesBooking v.notes w.notes = subst (LeavesBooking v.notes) (sym event.steps.noted) (entered_leaves v.notes (length s.history) room v.hand e) in
      record {
        outline = subst (IsOutline shape told d) (sym grown) outline;
        range = is.range;
        each_node = serves.nodes ∙ is.each_node;
        most = is.most;
        counted = is.counted;
        sliced = is.sliced;
        tagged = tags_kept shape.nodes s.history t.history p.tags v.hand e is.tagged event.history plain.spends;
        room = has;
        idle = idle_kept spares v.caller s.notes t.notes v.hand w.notes is.idle met.own event.notes;
        no_drops = ap (list_any is_drop) grown ∙ any_append_none is_drop (history_of s.history) (e ∷ []) is.no_drops (both_none (is_drop e) false plain.drops refl);
        booked = booked_kept s t p.catalog d p.stripes p.promises v.hand w.notes (e ∷ []) is.booked (hand_within s v met) event.notes (leaves_at s v w.notes met leaves) grown
            (both_none (is_storing e) false plain.stores refl) serves;
        covered = covered_entered shape s t v w p.stripes (note (length s.history) room (entering_of v.hand e) ∷ []) is.covered met.agree.notes (hand_within s v met) event.notes event.steps.noted e grown owes;
      }

  -- no entry more, and notes that book nothing
  pub noted_kept : (s t : SequencerState) (v w : PassState) (p : CoordParts) (d : CatalogState) (more : Log) → IsCoord shape told callers spares s p
      → IsMet shape told callers spares s v → Event shape told s v [] more t w → LeavesBooking v.notes w.notes → (EachEnded w.notes → open_numbers shape v.notes ≤ open_numbers shape w.notes)
      → IsOutline shape told d (history_of s.history) → Serves p.catalog d
      → HasRoom shape.nodes d t.notes → IsCoord shape told callers spares t (with_catalog p d)
  noted_kept s t v w p d more is met event leaves owes outline serves has =
      let same : s.history ≡ t.history = sym (event.history ∙ append-nil s.history) in
      record {
        outline = subst (λ (xs : Log). IsOutline shape told d (history_of xs)) same outline;
        range = is.range;
        each_node = serves.nodes ∙ is.each_node;
        most = is.most;
        counted = is.counted;
        sliced = is.sliced;
        tagged = subst (λ (xs : Log). AreTags shape.nodes xs p.tags) same is.tagged;
        room = has;
        idle = idle_kept spares v.caller s.notes t.notes v.hand w.notes is.idle met.own event.notes;
        no_drops = ap (λ (xs : Log). list_any is_drop (history_of xs)) (sym same) ∙ is.no_drops;
        booked = booked_kept s t p.catalog d p.stripes p.promises v.hand w.notes [] is.booked (hand_within s v met) event.notes (leaves_at s v w.notes met leaves)
            (ap history_of (sym same) ∙ sym (append-nil (history_of s.history))) refl serves;
        covered = covered_noted shape s t v w p.stripes more is.covered met.agree.notes (hand_within s v met) event.notes event.steps.noted same owes;
      }
