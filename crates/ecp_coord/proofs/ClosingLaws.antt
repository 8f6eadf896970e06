-- The parts of a call that stand in the pass's front stand in the history, and so the entry that ends the call by them may follow.
use Rattle.std.proofs.Common.{◌≡◌, ℕ, suc, ◌-◌, ◌<◌, ◌≤◌, ◌==◌, Bool, true, false, not, ◌&&◌, ◌||◌, List, [], ◌∷◌, ◌++◌, length, Some, refl, sym, ◌∙◌, ap, subst, arith}
use Rattle.std.specs.Prelude.{IsTrue}
use Rattle.std.specs.List.{list_any}
use Rattle.std.proofs.lemmas.Bool.{eq-eqb, false≢true}
use Rattle.std.proofs.lemmas.List.Folds.{list_any-append}
use Rattle.ecp_shape.specs.declared.limits.TheConstants.{MAX_SESSIONS}
use Rattle.ecp_shape.specs.declared.shape.Shape.{Shape}
use Rattle.ecp_book.specs.Logs.{Log}
use Rattle.ecp_entry.specs.declared.act.Act.{Act}
use Rattle.ecp_entry.specs.declared.act.Act.TheVariants as act
use Rattle.ecp_entry.specs.declared.deed.Deed.{Deed}
use Rattle.ecp_entry.specs.declared.deed.Deed.TheVariants as deed
use Rattle.ecp_entry.specs.declared.entry.Entry.{Entry}
use Rattle.ecp_entry.specs.Entries.{is_part_of}
use Rattle.ecp_entry.specs.Told.{history_of}
use Rattle.ecp_entry.proofs.ToldLaws.{history_of-append, history_of-more}
use Rattle.ecp_history.specs.Acts.{HasDataBelow}
use Rattle.ecp_history.specs.Calls.{AtEnd, FitsCall, ToCat, kind_of}
use Rattle.ecp_history.specs.Files.{is_stored}
use Rattle.ecp_history.specs.Legal.{MayFollow}
use Rattle.ecp_history.specs.Parts.{HasPart, is_data, opens}
use Rattle.ecp_sequencer.specs.declared.limits.TheConstants.{ROOM}
use Rattle.ecp_sequencer.specs.Facts.{room_noted}
use Rattle.ecp_sequencer.specs.Notes.{beginning_of}
use Rattle.ecp_sequencer.specs.Passes.{PassState}
use Rattle.ecp_sequencer.specs.Sequencers.{SequencerState}
use Rattle.ecp_sequencer.specs.Steps.{call_with}
use Rattle.ecp_sequencer.proofs.NoteLaws.{room-more}
use Rattle.ecp_coord.specs.declared.opened.Opened.TheVariants as found
use Rattle.ecp_coord.specs.Calls.{Begins, Ends, Enters, IsOpen, ended, part_of}
use Rattle.ecp_coord.specs.Closing.{IsByParts, MayClose}
use Rattle.ecp_coord.specs.Coords.{CoordParts, IsCoord}
use Rattle.ecp_coord.specs.Numbers.{open_numbers, stripes_asked}
use Rattle.ecp_coord.specs.Opening.{Opens}
use Rattle.ecp_coord.proofs.CallLaws.{ended_kept}
use Rattle.ecp_coord.proofs.CoverLaws.{covered_free, open_unasked}
use Rattle.ecp_coord.proofs.EndLaws.{may_end}
use Rattle.ecp_coord.proofs.EndWithLaws.{one_asked}
use Rattle.ecp_coord.proofs.FollowLaws.{IsMet}
use Rattle.ecp_coord.proofs.LoseLaws.{length_told}

-- ---- what stands stays

stands_later : (test : Entry → Bool) (before more : List Entry) → IsTrue (list_any test before) → IsTrue (list_any test (before ++ more))
stands_later test before more stands = list_any-append test before more ∙ ap (λ (b : Bool). b || list_any test more) stands

module _ (before more : List Entry) (v : PassState) (asked : Deed) (m n : ℕ) where
  -- whatever position the end is entered at
  data_later : (what : Act) (c j : ℕ) → HasDataBelow before (ended v asked m what) c j → HasDataBelow (before ++ more) (ended v asked n what) c j
  data_later what c j has =
      let e : Entry = ended v asked m what in
      record {
        opened = stands_later (λ x. is_part_of e 0 x && opens c x.line.act) before more has.opened;
        each = λ i below. stands_later (λ x. is_part_of e (suc i) x && is_data x.line.act) before more (has.each i below);
      }

  parts_later : (what : Act) → IsByParts before (ended v asked m what) what → IsByParts (before ++ more) (ended v asked n what) what
  parts_later act.Whole (c, has) = (c, data_later act.Whole c c has)
  parts_later (act.Broken j) (c, below, has, none) =
      let e : Entry = ended v asked m (act.Broken j) in
      (c, below, data_later (act.Broken j) c j has, stands_later (λ x. is_part_of e (suc j) x && not (is_data x.line.act)) before more none)
  parts_later _ none = absurd none

-- ---- what a call that ends by its parts is

-- it took no stripe number
cat_free : (shape : Shape) (asked : Deed) → kind_of (Some asked) ≡ ToCat → stripes_asked shape (Some asked) ≡ 0
cat_free shape (deed.Put name len) is = absurd (cc)
cat_free shape (deed.Read name index) is = refl
cat_free shape (deed.Sum name index) is = refl
cat_free shape (deed.Cat name) is = refl
cat_free shape (deed.Lose node) is = refl
cat_free shape (deed.Join node) is = refl
cat_free shape (deed.Rebuild from to) is = refl
cat_free shape (deed.Stat name) is = refl

parts_free : (shape : Shape) (before : List Entry) (e : Entry) (asked : Deed) (what : Act) → FitsCall (kind_of (Some asked)) AtEnd what → IsByParts before e what → stripes_asked shape (Some asked) ≡ 0
parts_free shape before e asked act.Whole fits by = cat_free shape asked fits.0
parts_free shape before e asked (act.Broken j) fits by = cat_free shape asked fits.0
parts_free shape before e asked _ fits none = absurd none

-- nor does it store
parts_store : (before : List Entry) (e : Entry) (what : Act) → IsByParts before e what → is_stored what ≡ false
parts_store before e act.Whole by = refl
parts_store before e (act.Broken j) by = refl
parts_store before e _ none = absurd none

pub closes_nothing_stored : (v : PassState) (what : Act) → MayClose v what → is_stored what ≡ false
closes_nothing_stored v what may = parts_store (history_of v.front) (ended v may.asked (length v.front) what) what may.by_parts

-- such an end may follow the parts
ends_by_parts : (shape : Shape) (told : Bool) (before : List Entry) (v : PassState) (asked : Deed) (what : Act) → v.caller < MAX_SESSIONS → FitsCall (kind_of (Some asked)) AtEnd what
    → IsByParts before (ended v asked (length before) what) what → MayFollow shape told before (ended v asked (length before) what)
ends_by_parts shape told before v asked act.Whole session fits by = may_end shape told before v asked act.Whole session fits refl (λ off. absurd (false≢true off)) by
ends_by_parts shape told before v asked (act.Broken j) session fits by = may_end shape told before v asked (act.Broken j) session fits refl (λ off. absurd (false≢true off)) by
ends_by_parts shape told before v asked _ session fits none = absurd none

module _ (shape : Shape) (told : Bool) (callers spares : ℕ) (s : SequencerState) (v : PassState) (met : IsMet shape told callers spares s v) (what : Act) (may : MayClose v what) where
  -- what is entered may follow
  pub closing_goes : (asked : Deed) → IsOpen v asked → MayFollow shape told (history_of s.history) (ended v asked (length s.history) what)
  closing_goes asked open_call =
      let before : List Entry = history_of s.history in
      let more : List Entry = history_of met.agree.begins.0 in
      let grown : history_of v.front ++ more ≡ before = sym (history_of-append v.front met.agree.begins.0) ∙ ap history_of met.agree.begins.1 in
      let by : IsByParts before (ended v may.asked (length before) what) what =
      subst (λ (es : List Entry). IsByParts es (ended v may.asked (length before) what) what) grown
      (parts_later (history_of v.front) more v may.asked (length v.front) (length before) what may.by_parts) in
      subst (λ (d : Deed). MayFollow shape told before (ended v d (length s.history) what)) (one_asked v may.asked asked may.is_open open_call)
      (subst (λ (n : ℕ). MayFollow shape told before (ended v may.asked n what)) (length_told s.history)
      (ends_by_parts shape told before v may.asked what met.session may.fits by))

  -- and what holds of every coordinator holds
  pub closing_kept : (t : SequencerState) (w : PassState) (p : CoordParts) → IsCoord shape told callers spares s p → Ends shape told s v may.asked what t w → IsCoord shape told callers spares t p
  closing_kept t w p is ends = by_act what may.fits may.by_parts ends where
    free : open_numbers shape v.notes ≡ 0
    free =
        open_unasked shape v.notes (call_with (v.calls - 1) may.asked) may.is_open.call
        (parts_free shape (history_of v.front) (ended v may.asked (length v.front) what) may.asked what may.fits may.by_parts)

    by_act : (a : Act) → FitsCall (kind_of (Some may.asked)) AtEnd a → IsByParts (history_of v.front) (ended v may.asked (length v.front) a) a → Ends shape told s v may.asked a t w
        → IsCoord shape told callers spares t p
    by_act act.Whole fits by e =
        ended_kept shape told callers spares s t v w p is met (ended v may.asked (length s.history) act.Whole) (room_noted v.notes - 1) refl refl (record { stores = refl; drops = refl; spends = λ m. refl })
        (covered_free shape s v (ended v may.asked (length s.history) act.Whole) free) e.event
    by_act (act.Broken j) fits by e =
        ended_kept shape told callers spares s t v w p is met (ended v may.asked (length s.history) (act.Broken j)) (room_noted v.notes - 1) refl refl (record { stores = refl; drops = refl; spends = λ m. refl })
        (covered_free shape s v (ended v may.asked (length s.history) (act.Broken j)) free) e.event
    by_act _ fits none e = absurd none

-- ---- a part that was entered stands

or_last : (b : Bool) → (b || true) ≡ true
or_last true = refl
or_last false = refl

-- in the front of the pass that entered it, as a part of its open call
pub part_stands : (shape : Shape) (told : Bool) (s t : SequencerState) (v w : PassState) (asked : Deed) (j : ℕ) (what : Act) (n : ℕ) (a : Act) (test : Act → Bool) → Enters shape told s v asked j what t w → test what ≡ true
    → HasPart (history_of w.front) (ended w asked n a) j test
part_stands shape told s t v w asked j what n a test enters passes =
    let e : Entry = part_of v asked j (length s.history) what in
    let x : Entry = ended w asked n a in
    let by : v.caller == w.caller ≡ true = eq-eqb v.caller w.caller (sym enters.event.steps.caller) in
    let of : (v.calls - 1) == (w.calls - 1) ≡ true = eq-eqb (v.calls - 1) (w.calls - 1) (ap (λ (m : ℕ). m - 1) (sym enters.calls)) in
    let number : j == j ≡ true = eq-eqb j j refl in
    let here : (is_part_of x j e && test what) ≡ true = rw (by, of, number, passes) refl in
    let grown : history_of w.front ≡ history_of s.history ++ e ∷ [] = ap history_of (enters.event.front ∙ enters.event.history) ∙ history_of-more s.history v.hand e in
    let stands : list_any (λ (y : Entry). is_part_of x j y && test y.line.act) (history_of s.history ++ e ∷ []) ≡ true =
    list_any-append (λ (y : Entry). is_part_of x j y && test y.line.act) (history_of s.history) (e ∷ [])
    ∙ ap (λ (b : Bool). list_any (λ (y : Entry). is_part_of x j y && test y.line.act) (history_of s.history) || (b || false)) here
    ∙ or_last (list_any (λ (y : Entry). is_part_of x j y && test y.line.act) (history_of s.history)) in
    subst (λ (es : List Entry). HasPart es x j test) (sym grown) stands

-- so a file that was opened and has no block is whole
pub empty_closes : (shape : Shape) (told : Bool) (s t : SequencerState) (v w : PassState) (name : List ℕ) (len first : ℕ) → Opens shape told s v name (found.Opened len 0 first) t w → 2 ≤ room_noted v.notes
    → MayClose w act.Whole
empty_closes shape told s t v w name len first enters some =
    record {
      asked = deed.Cat name;
      is_open = enters.still_open some;
      fits = (refl, refl);
      by_parts = (
        0,
        record {
          opened = part_stands shape told s t v w (deed.Cat name) 0 (act.Opened len 0 first) (length w.front) act.Whole (opens 0) enters refl;
          each = λ i below. absurd (omega (arith, below));
        },
      );
    }

-- and a call that just began has room for that entry and its end, and for more
pub begun_with : (shape : Shape) (told : Bool) (s t : SequencerState) (v w : PassState) (asked : Deed) → Begins shape told s v asked t w → room_noted w.notes ≡ ROOM
begun_with shape told s t v w asked begins =
    ap (λ (ns : Log). room_noted ns) begins.steps.noted ∙ room-more v.notes (length s.history) ROOM (beginning_of (call_with v.calls asked))

pub begun_room : (shape : Shape) (told : Bool) (s t : SequencerState) (v w : PassState) (asked : Deed) → Begins shape told s v asked t w → 2 ≤ room_noted w.notes
begun_room shape told s t v w asked begins = omega (arith, begun_with shape told s t v w asked begins)
