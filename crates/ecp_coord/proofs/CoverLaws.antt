-- What was taken stays covered: within what the ended calls may use up, and what open calls took.
use Rattle.std.proofs.Common.{◌≡◌, ◌≢◌, ℕ, ◌+◌, ◌*◌, ◌<◌, ◌≤◌, ◌==◌, Bool, false, List, [], ◌∷◌, ◌++◌, length, drop, set, get_or, slice_get, Option, Some, None, refl, sym, ◌∙◌, ap, subst, arith}
use Rattle.std.proofs.Math.Nat.{mul-le-mul_left, mul_comm}
use Rattle.std.proofs.Math.Seq.{take-append_seam}
use Rattle.std.specs.Prelude.{IsTrue, option_and_then, slice_index, sum_by}
use Rattle.std.specs.List.{list_any}
use Rattle.std.specs.Option.{option_map_or}
use mathlib.Core.List.{IsPrefix}
use mathlib.Core.Logic.{dite}
use native.Mathlib.Decide.{ℕ_discrete}
use Rattle.std.proofs.lemmas.Bool.{false≢true}
use Rattle.std.proofs.lemmas.List.{drop_at, drop-append-le, length-take-le, take-append-le}
use Rattle.std.proofs.lemmas.List.Elements.{All-get_or}
use Rattle.std.proofs.lemmas.List.Sums.{sum_by-set}
use Rattle.std.proofs.lemmas.Option.{slice_get_within}
use Rattle.ecp_shape.specs.declared.shape.Shape.{Shape}
use Rattle.ecp_book.specs.Logs.{Log}
use Rattle.ecp_entry.specs.declared.entry.Entry.{Entry}
use Rattle.ecp_entry.specs.declared.part.Part.TheVariants as part
use Rattle.ecp_entry.specs.Told.{history_of, items_by}
use Rattle.ecp_entry.proofs.ToldLaws.{items_by-append, history_of-append}
use Rattle.ecp_history.specs.Follows.{follows, passes_at}
use Rattle.ecp_history.specs.Spans as spans
use Rattle.ecp_history.specs.table.Tables.{PlainTable}
use Rattle.ecp_history.proofs.LegalLaws.{get_before, get_last}
use Rattle.ecp_plan.specs.declared.voids.Voids.{Voids}
use Rattle.ecp_sequencer.specs.Facts.{HandFacts, facts_of}
use Rattle.ecp_sequencer.specs.Hands.{hands_of}
use Rattle.ecp_sequencer.specs.Histories.{Stands, notes_at}
use Rattle.ecp_sequencer.specs.Notes.{Call, call_of, began, kind_of, note, beginning_of}
use Rattle.ecp_sequencer.specs.Passes.{PassState}
use Rattle.ecp_sequencer.specs.Sequencers.{SequencerState}
use Rattle.ecp_sequencer.proofs.NoteLaws.{facts-other}
use Rattle.ecp_coord.specs.Bookings.{booked_attempt, bookings_in, bookings_noted, last_of, reserved}
use Rattle.ecp_coord.specs.Coords.{AreIdle}
use Rattle.ecp_coord.specs.Numbers.{AreCovered, EachEnded, IsCovered, attempt_noted, numbers_by, open_numbers, stripes_asked}
use Rattle.ecp_coord.specs.Voids.{AreVoids, positions_of}
use Rattle.ecp_coord.proofs.BookLaws.{bookings-other, notes_set_same, notes_set_other, reserved_open}
use Rattle.ecp_coord.proofs.FollowLaws.{IsMet, follows_upto, idle_none, none_by, none_since}
use Rattle.ecp_coord.proofs.SpentLaws.{PassesThere, at_least, is_lost, losses_before, spent_ended, spent_kept}
use Rattle.ecp_coord.proofs.UnendedLaws.{ends_as, none_ending, open_unended}

-- ---- what a hand's open call took

-- by what is known of the hand
abbrev open_of : Shape → HandFacts → ℕ
open_of shape f = option_map_or booked_attempt (option_and_then (λ c. last_of (bookings_in f.since)) f.call) 0 * option_map_or (λ c. stripes_asked shape c.deed) f.call 0

zero_times : (n : ℕ) → 0 * n ≡ 0
zero_times n = omega arith

-- nothing, where none is open
pub open_none : (shape : Shape) (notes : Log) → (facts_of notes).call ≡ None → open_numbers shape notes ≡ 0
open_none shape notes is =
    ap (λ (o : Option Call). option_map_or booked_attempt (option_and_then (λ c. last_of (bookings_noted notes)) o) 0 * option_map_or (λ c. stripes_asked shape c.deed) o 0) is

-- nor where nothing was noted since it began
pub open_fresh : (shape : Shape) (notes : Log) → (facts_of notes).since ≡ [] → open_numbers shape notes ≡ 0
open_fresh shape notes is =
    ap (λ (xs : Log). option_map_or booked_attempt (option_and_then (λ c. last_of (bookings_in xs)) (facts_of notes).call) 0 * option_map_or (λ c. stripes_asked shape c.deed) (facts_of notes).call 0) is
    ∙ either (facts_of notes).call
  where
    either : (o : Option Call) → option_map_or booked_attempt (option_and_then (λ (c : Call). last_of (bookings_in [])) o) 0 * option_map_or (λ c. stripes_asked shape c.deed) o 0 ≡ 0
    either None = refl
    either (Some c) = zero_times (stripes_asked shape c.deed)

-- nor where it asks for no put
pub open_unasked : (shape : Shape) (notes : Log) (c : Call) → (facts_of notes).call ≡ Some c → stripes_asked shape c.deed ≡ 0 → open_numbers shape notes ≡ 0
open_unasked shape notes c is none =
    let asked : option_map_or (λ (k : Call). stripes_asked shape k.deed) (facts_of notes).call 0 ≡ 0 = ap (λ (o : Option Call). option_map_or (λ (k : Call). stripes_asked shape k.deed) o 0) is ∙ none in
    ap (λ (n : ℕ). attempt_noted notes * n) asked ∙ mul_comm (attempt_noted notes) 0 ∙ zero_times (attempt_noted notes)

-- a note of another kind leaves it
pub open_other : (shape : Shape) (was : Log) (point room : ℕ) (what : List ℕ) → 3 ≤ slice_index what 0 → slice_index what 0 == reserved ≡ false
    → open_numbers shape (was ++ note point room what ∷ []) ≡ open_numbers shape was
open_other shape was point room what kind off =
    ap (λ (f : HandFacts). open_of shape f) (facts-other was point room what kind)
    ∙ ap (λ (bs : List (List ℕ)). option_map_or booked_attempt (option_and_then (λ (c : Call). last_of bs) (facts_of was).call) 0 * option_map_or (λ (c : Call). stripes_asked shape c.deed) (facts_of was).call 0)
    (bookings-other (facts_of was).since (note point room what) off)

-- of a reservation: its attempts, each with its stripes
pub open_reserved : (shape : Shape) (was : Log) (point room : ℕ) (says : List ℕ) (c : Call) → (facts_of was).call ≡ Some c
    → open_numbers shape (was ++ note point room (reserved ∷ says) ∷ []) ≡ booked_attempt says * stripes_asked shape c.deed
open_reserved shape was point room says c is =
    let now : Log = was ++ note point room (reserved ∷ says) ∷ [] in
    let call : (facts_of now).call ≡ Some c = ap (λ (f : HandFacts). f.call) (facts-other was point room (reserved ∷ says) (omega arith)) ∙ is in
    ap (λ (o : Option (List ℕ)). option_map_or booked_attempt o 0 * option_map_or (λ (k : Call). stripes_asked shape k.deed) (facts_of now).call 0) (reserved_open was point room says c is)
    ∙ ap (λ (o : Option Call). booked_attempt says * option_map_or (λ (k : Call). stripes_asked shape k.deed) o 0) call

-- ---- one hand notes more

each_ended_before : (was more : Log) → EachEnded (was ++ more) → EachEnded was
each_ended_before was more all i x here begins =
    let lt : i < length was = slice_get_within was i x here in
    subst (λ (ns : Log). (facts_of ns).call ≡ None) (take-append-le i was more (omega (arith, lt))) (all i x (get_before was more i x here) begins)

-- a call that began left none open
pub began_alone : (was : Log) (x : List ℕ) → EachEnded (was ++ x ∷ []) → kind_of x ≡ began → (facts_of was).call ≡ None
began_alone was x all begins =
    subst (λ (ns : Log). (facts_of ns).call ≡ None) (take-append_seam was (x ∷ [])) (all (length was) x (get_last was x) begins)

pub covered_more : (shape : Shape) (s t : SequencerState) (stripes taken hand : ℕ) (now more : Log) → AreCovered shape s stripes → hand < length s.notes → t.notes ≡ set s.notes hand now
    → now ≡ notes_at s.notes hand ++ more
    → (EachEnded now → numbers_by shape (history_of s.history) + open_numbers shape (notes_at s.notes hand) + taken ≤ numbers_by shape (history_of t.history) + open_numbers shape now)
    → AreCovered shape t (stripes + taken)
covered_more shape s t stripes taken hand now more paid within is grown owes = λ each.
    let here : EachEnded now = subst (λ (ns : Log). EachEnded ns) (notes_set_same s.notes t.notes hand now is within) (each hand) in
    let was : (h : ℕ) → EachEnded (notes_at s.notes h) = λ h. dite (ℕ_discrete h hand)
    (λ (same : h ≡ hand). subst (λ (k : ℕ). EachEnded (notes_at s.notes k)) (sym same) (each_ended_before (notes_at s.notes hand) more (subst (λ (ns : Log). EachEnded ns) grown here)))
    (λ (apart : h ≢ hand). subst (λ (ns : Log). EachEnded ns) (notes_set_other s.notes t.notes hand now is h apart) (each h)) in
    let all : sum_by (open_numbers shape) t.notes ≡ sum_by (open_numbers shape) (set s.notes hand now) = ap (λ (ns : List Log). sum_by (open_numbers shape) ns) is in
    omega (arith, paid was, owes here, all, sum_by-set (open_numbers shape) s.notes hand now [] within)

-- nothing more was noted
pub same_owes : (shape : Shape) (was now : Log) → now ≡ was → EachEnded now → open_numbers shape was ≤ open_numbers shape now
same_owes shape was now same all = let as_much : open_numbers shape now ≡ open_numbers shape was = ap (λ (ns : Log). open_numbers shape ns) same in omega (arith, as_much)

-- where no call was left open, a call that begins leaves none that took a number
pub begun_owes : (shape : Shape) (was now : Log) (point room : ℕ) (c : Call) → now ≡ was ++ note point room (beginning_of c) ∷ [] → EachEnded now → open_numbers shape was ≤ open_numbers shape now
begun_owes shape was now point room c grown all =
    let none = open_none shape was (began_alone was (note point room (beginning_of c)) (subst (λ (ns : Log). EachEnded ns) grown all) refl) in
    omega (arith, none)

-- another note takes none
pub other_owes : (shape : Shape) (was now : Log) (point room : ℕ) (what : List ℕ) → now ≡ was ++ note point room what ∷ [] → 3 ≤ slice_index what 0 → slice_index what 0 == reserved ≡ false
    → EachEnded now → open_numbers shape was ≤ open_numbers shape now
other_owes shape was now point room what grown kind off all =
    let same = ap (λ (ns : Log). open_numbers shape ns) grown ∙ open_other shape was point room what kind off in
    omega (arith, same)

-- ---- an entry that ends the call of a hand

-- one that took none
pub covered_free : (shape : Shape) (s : SequencerState) (v : PassState) (e : Entry) → open_numbers shape v.notes ≡ 0 → IsCovered shape s v e
covered_free shape s v e none = omega (arith, none, spent_kept shape (history_of s.history) e)

-- the pass's hand noted more, and took no number
module _ (shape : Shape) (s t : SequencerState) (v w : PassState) (stripes : ℕ) (more : Log) (paid : AreCovered shape s stripes) (known : notes_at s.notes v.hand ≡ v.notes)
    (within : v.hand < length s.notes) (is : t.notes ≡ set s.notes v.hand w.notes) (grown : w.notes ≡ v.notes ++ more) where
  took_none : (EachEnded w.notes → numbers_by shape (history_of s.history) + open_numbers shape v.notes ≤ numbers_by shape (history_of t.history) + open_numbers shape w.notes) → AreCovered shape t stripes
  took_none owes = λ each.
      let none : stripes + 0 ≡ stripes = omega arith in
      let same : open_numbers shape (notes_at s.notes v.hand) ≡ open_numbers shape v.notes = ap (λ (ns : Log). open_numbers shape ns) known in
      subst (λ (n : ℕ). n ≤ numbers_by shape (history_of t.history) + sum_by (open_numbers shape) t.notes) none
      (covered_more shape s t stripes 0 v.hand w.notes more paid within is (grown ∙ ap (λ (ns : Log). ns ++ more) (sym known)) (λ all. omega (arith, owes all, same)) each)

  -- one entry more
  pub covered_entered : (e : Entry) → history_of t.history ≡ history_of s.history ++ e ∷ [] → IsCovered shape s v e → AreCovered shape t stripes
  covered_entered e longer owes =
      let after : numbers_by shape (history_of t.history) ≡ numbers_by shape (history_of s.history ++ e ∷ []) = ap (numbers_by shape) longer in
      took_none (λ all. omega (arith, owes, after))

  -- no entry
  pub covered_noted : s.history ≡ t.history → (EachEnded w.notes → open_numbers shape v.notes ≤ open_numbers shape w.notes) → AreCovered shape t stripes
  covered_noted same owes =
      let after : numbers_by shape (history_of s.history) ≡ numbers_by shape (history_of t.history) = ap (λ (xs : Log). numbers_by shape (history_of xs)) same in
      took_none (λ all. omega (arith, owes all, after))

module _ (shape : Shape) (told : Bool) (callers spares : ℕ) (s : SequencerState) (v : PassState) (met : IsMet shape told callers spares s v) (idle : AreIdle spares s.notes) where
  -- the open call of the pass has no end in the history
  pub none_ended : (e : Entry) → e.line.caller ≡ v.caller → (facts_of v.notes).call ≡ Some (call_of e) → list_any (spans.ends e.line.caller e.line.call) (history_of s.history) ≡ false
  none_ended e by open_call =
      let there : v.hand ≢ hands_of callers spares = λ same. omega (arith, same, met.in_range) in
      let stands : Stands s.history v.hand v.notes = subst (λ (ns : Log). Stands s.history v.hand ns) met.agree.notes (met.kept.stand v.hand there) in
      subst (λ (k : ℕ). list_any (spans.ends k e.line.call) (history_of s.history) ≡ false) (sym by)
      (none_ending callers spares v.caller v.hand e.line.call met.session s.history met.kept.made
      (ap (list_any (ends_as e.line.call)) stands.entries ∙ open_unended v.hand s.history v.notes (call_of e) stands open_call)
      (λ h its apart. none_by h s.history (idle_none shape told callers spares s v met idle h its apart)))

  pub covered_ended : (e : Entry) → e.line.caller ≡ v.caller → e.line.part ≡ part.End → (facts_of v.notes).call ≡ Some (call_of e)
      → attempt_noted v.notes ≤ losses_before (history_of s.history) e + 1 → IsCovered shape s v e
  covered_ended e by is open_call few =
      let asked : open_numbers shape v.notes ≡ attempt_noted v.notes * stripes_asked shape e.deed =
      ap (λ (o : Option Call). attempt_noted v.notes * option_map_or (λ (k : Call). stripes_asked shape k.deed) o 0) open_call in
      let turned = mul_comm (attempt_noted v.notes) (stripes_asked shape e.deed) in
      let within = mul-le-mul_left (stripes_asked shape e.deed) few in
      let spent = spent_ended shape (history_of s.history) e (ap spans.is_end is) (none_ended e by open_call) in
      omega (arith, asked, turned, within, spent)

  -- as many losses stand from where its call began as attempts came to nothing
  module _ (front : Log) (begins : IsPrefix front s.history) (same : items_by v.hand front ≡ items_by v.hand s.history) (voids : Voids)
      (are : AreVoids shape (λ (t : PlainTable) (x : Entry). is_lost x) v.hand front voids) (few : voids.len ≤ length voids.at) where
    none_from : (at : ℕ) → at ≤ length front → items_by v.hand (drop at front) ≡ [] → items_by v.hand (drop at s.history) ≡ []
    none_from at le none =
        let rest : Log = begins.0 in
        let later : items_by v.hand rest ≡ [] = ap (λ (xs : Log). items_by v.hand xs) (sym (drop_at front rest (length front) refl) ∙ ap (drop (length front)) begins.1) ∙ none_since v.hand front s.history begins same in
        ap (λ (xs : Log). items_by v.hand (drop at xs)) (sym begins.1) ∙ ap (items_by v.hand) (drop-append-le at front rest le) ∙ items_by-append v.hand (drop at front) rest
        ∙ ap (λ (xs : Log). xs ++ items_by v.hand rest) none ∙ later

    passes_there : (at : ℕ) → IsTrue (passes_at shape (history_of front) (λ (t : PlainTable) (x : Entry). is_lost x) at) → PassesThere is_lost (history_of s.history) at
    passes_there at is = either (slice_get (history_of front) at) refl is where
      either : (o : Option Entry) → slice_get (history_of front) at ≡ o → IsTrue (option_map_or is_lost o false) → PassesThere is_lost (history_of s.history) at
      either None none off = absurd (false≢true off)
      either (Some x) there passes = record {
        item = x;
        there = subst (λ (xs : List Entry). slice_get xs at ≡ Some x) (sym (history_of-append front begins.0) ∙ ap history_of begins.1) (get_before (history_of front) (history_of begins.0) at x there);
        passes = passes;
      }

    pub voids_lost : (e : Entry) → e.line.caller ≡ v.caller → voids.len ≤ losses_before (history_of s.history) e
    voids_lost e by =
        let at : List ℕ = positions_of voids in
        let long : length at ≡ voids.len = length-take-le voids.len voids.at few in
        let least = at_least is_lost (history_of s.history) (follows (history_of s.history) e) at are.rising
        (λ some. follows_upto shape told callers spares s v e (get_or at 0 0) met idle by
        (none_from (get_or at 0 0) (let w = All-get_or (λ (n : ℕ). n < length front) at 0 0 some are.within in omega (arith, w))
        (All-get_or (λ (n : ℕ). items_by v.hand (drop n front) ≡ []) at 0 0 some are.late)))
        (λ k lt. passes_there (get_or at k 0) (All-get_or (λ (n : ℕ). IsTrue (passes_at shape (history_of front) (λ (t : PlainTable) (x : Entry). is_lost x) n)) at k 0 lt are.each)) in
        omega (arith, long, least)
