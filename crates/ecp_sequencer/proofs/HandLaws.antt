-- What several hands note, one behind another.
use Rattle.std.proofs.Common.{◌≡◌, ◌≢◌, ℕ, ◌+◌, ◌-◌, ◌^◌, ◌<◌, ◌≤◌, Bool, true, false, cond, List, [], ◌∷◌, ◌++◌, length, map, set, take, drop, get_or, sym, ◌∙◌, ap, subst, arith, get_or-set_other}
use Rattle.std.specs.Prelude.{All}
use mathlib.Core.List.{IsPrefix}
use Rattle.std.proofs.lemmas.List.{length-map, length-take-le, map-set, get_or-append_right, get_or-drop}
use Rattle.std.proofs.lemmas.List.Elements.{All-map, All-weaker}
use Rattle.ecp_book.proofs.Prefixes.{prefix_both}
use Rattle.ecp_shape.specs.declared.shape.Shape.{Shape}
use Rattle.ecp_book.specs.Logs.{Log}
use Rattle.ecp_entry.specs.Told.{items_by}
use Rattle.ecp_history.specs.Journals.{Held}
use Rattle.ecp_sequencer.specs.Facts.{HandFacts, facts_of, is_open, entries_noted}
use Rattle.ecp_sequencer.specs.Hands.{hands_of}
use Rattle.ecp_sequencer.specs.Histories.{FitsNote, IsKept, Stands, notes_at}
use Rattle.ecp_sequencer.specs.Notes.{Call, note, beginning_of, being_over}
use Rattle.ecp_sequencer.specs.Passes.{HandNotes, PassState, IsHeld, with_note}
use Rattle.ecp_sequencer.specs.Steps.{SparesNoted}
use Rattle.ecp_sequencer.specs.Branches.{IsKnown, IsNone, released}
use Rattle.ecp_sequencer.specs.Closed.{IsHeard}
use Rattle.ecp_sequencer.specs.Sequencers.{DeskState, SequencerState, IsSequencer, Agrees, notes_of}
use Rattle.ecp_sequencer.proofs.DeskLaws.{desk_notes, has_desk, with_desk}
use Rattle.ecp_sequencer.proofs.KeptLaws.{items_by-prefix, kept_by_note}
use Rattle.ecp_sequencer.proofs.NoteLaws.{facts-began, facts-over}

module _ (shape : Shape) (told : Bool) (callers spares : ℕ) where
  -- one more note of a hand, which its desk heard
  pub hand_noted : (log taken left n : ℕ) (history : Log) (journal : Held) (desks : List DeskState) (h : HandNotes) (d new : DeskState) (point room : ℕ) (what : List ℕ)
      → IsSequencer shape told callers spares log history journal desks taken → n ≡ h.hand → h.hand < hands_of callers spares
      → d ≡ get_or desks n d → d.notes ≡ h.notes → new ≡ record { hand = d.hand; notes = d.notes ++ note point room what ∷ []; room = room } → point ≡ length history
      → (items_by h.hand history ≡ entries_noted h.notes → FitsNote h.hand history h.notes (note (length history) room what))
      → entries_noted (h.notes ++ note (length history) room what ∷ []) ≡ entries_noted h.notes
      → left + d.room ≡ taken + room → left ≤ journal.spare → length history + left < 2 ^ 32 - 1
      → IsSequencer shape told callers spares log history journal (set desks n new) left
  hand_noted log taken left n history journal desks h d new point room what is index in_range at heard is_new is_point fits same taking lines places =
      let x : List ℕ = note (length history) room what in
      let here : n < length desks = has_desk shape told callers spares log history journal desks taken n is (omega (arith, index, in_range)) in
      let was : notes_at (notes_of desks) n ≡ h.notes = desk_notes desks n d here at ∙ heard in
      let now : new.notes ≡ notes_at (notes_of desks) n ++ x ∷ [] =
      ap (λ (y : DeskState). y.notes) is_new ∙ ap (λ (k : ℕ). d.notes ++ note k room what ∷ []) is_point ∙ ap (λ (ns : Log). ns ++ x ∷ []) (heard ∙ sym was) in
      let apart : n ≢ hands_of callers spares = λ e. omega (arith, index, in_range, e) in
      let stands : Stands history n (notes_at (notes_of desks) n) = is.kept.stand n apart in
      let whole : items_by h.hand history ≡ entries_noted h.notes = ap (λ (k : ℕ). items_by k history) (sym index) ∙ stands.entries ∙ ap entries_noted was in
      let kept : IsKept shape told callers spares history (set (notes_of desks) n (notes_at (notes_of desks) n ++ x ∷ [])) =
      kept_by_note shape told callers spares history (notes_of desks) n x is.kept (omega (arith, here, length-map desks (λ (y : DeskState). y.notes)))
      (subst (λ (ns : Log). FitsNote n history ns x) (sym was) (subst (λ (k : ℕ). FitsNote k history h.notes x) (sym index) (fits whole)))
      (subst (λ (ns : Log). entries_noted (ns ++ x ∷ []) ≡ entries_noted ns) (sym was) same) in
      with_desk shape told callers spares log history history journal journal desks taken left n d new is here at (ap (λ (y : DeskState). y.hand) is_new) is.lines
      (subst (λ (ns : Log). IsKept shape told callers spares history (set (notes_of desks) n ns)) (sym now) kept)
      (omega (arith, taking, ap (λ (y : DeskState). y.room) is_new)) lines places

-- the hands behind a place are as they were, while those before it change
pub rest_same : (f : HandNotes → HandNotes) (xs ys : List HandNotes) (i : ℕ) (d : HandNotes) → ys ≡ map f (take i xs) ++ drop i xs → i < length xs → get_or ys i d ≡ get_or xs i d
rest_same f xs ys i d is lt =
    let len : length (map f (take i xs)) ≡ i = omega (arith, length-map (take i xs) f, length-take-le i xs (omega (arith, lt))) in
    let off : i + (i - i) ≡ i = omega arith in
    ap (λ (zs : List HandNotes). get_or zs i d) is ∙ get_or-append_right (map f (take i xs)) (drop i xs) i i d len (omega arith)
    ∙ get_or-drop i xs (i - i) d ∙ ap (λ (k : ℕ). get_or xs k d) off

-- what is known of hands that were heard
pub all_known : (callers spares caller calls : ℕ) (s : SequencerState) (front : Log) (hands : List HandNotes) → IsPrefix front s.history
    → All (IsHeld callers spares caller calls front) hands → All (IsHeard s) hands → All (IsKnown s front) hands
all_known callers spares caller calls s front hands begins held heard k d lt =
    let h : HandNotes = get_or hands k d in
    let is : IsHeard s h = heard k d lt in
    let has : IsHeld callers spares caller calls front h = held k d lt in
    record {
      is = is;
      known = prefix_both (items_by h.hand front) (entries_noted h.notes)
          (subst (IsPrefix (items_by h.hand front)) is.stands.entries (items_by-prefix h.hand front s.history begins)) has.noted;
    }

-- ---- a pass whose spare hands noted more

module _ (callers spares caller calls : ℕ) (front : Log) where
  pub held_note : (h : HandNotes) (x : List ℕ) → IsHeld callers spares caller calls front h → entries_noted (h.notes ++ x ∷ []) ≡ entries_noted h.notes
      → (facts_of (h.notes ++ x ∷ [])).calls ≤ calls → IsHeld callers spares caller calls front (with_note h x)
  held_note h x is same le = record {
    own = is.own;
    spare = is.spare;
    in_range = is.in_range;
    noted = subst (λ (xs : Log). IsPrefix xs (items_by h.hand front)) (sym same) is.noted;
    numbered = le;
  }

  held_over : (point : ℕ) (h : HandNotes) → IsHeld callers spares caller calls front h → IsHeld callers spares caller calls front (released point h)
  held_over point h is =
      let facts = facts-over h.notes point 0 in
      elim (is_open h.notes) as (λ b. IsHeld callers spares caller calls front (cond b (with_note h (note point 0 being_over)) h)) [
        | true ↦ held_note h (note point 0 being_over) is (ap (λ (f : HandFacts). f.entries) facts) (omega (arith, is.numbered, ap (λ (f : HandFacts). f.calls) facts))
        | false ↦ is
      ]

  pub held_released : (point : ℕ) (hands : List HandNotes) → All (IsHeld callers spares caller calls front) hands → All (IsHeld callers spares caller calls front) (map (released point) hands)
  held_released point hands held =
      All-map (IsHeld callers spares caller calls front) (released point) hands
      (All-weaker (IsHeld callers spares caller calls front) (λ h. IsHeld callers spares caller calls front (released point h)) (held_over point) hands held)

  held_call : (point room : ℕ) (c : Call) (h : HandNotes) → c.number + 1 ≤ calls → IsHeld callers spares caller calls front h
      → IsHeld callers spares caller calls front (with_note h (note point room (beginning_of c)))
  held_call point room c h le is =
      let facts = facts-began h.notes point room c in
      held_note h (note point room (beginning_of c)) is (ap (λ (f : HandFacts). f.entries) facts) (omega (arith, le, ap (λ (f : HandFacts). f.calls) facts))

  pub held_called : (point room : ℕ) (c : Call) (hands : List HandNotes) → c.number + 1 ≤ calls → All (IsHeld callers spares caller calls front) hands
      → All (IsHeld callers spares caller calls front) (map (λ h. with_note h (note point room (beginning_of c))) hands)
  held_called point room c hands le held =
      All-map (IsHeld callers spares caller calls front) (λ h. with_note h (note point room (beginning_of c))) hands
      (All-weaker (IsHeld callers spares caller calls front) (λ h. IsHeld callers spares caller calls front (with_note h (note point room (beginning_of c))))
      (λ h is. held_call point room c h le is) hands held)

-- the pass with other spare hands
abbrev pub with_spare : PassState → List HandNotes → PassState
with_spare p hands = record p { spare = hands }

abbrev pub with_both : PassState → Log → List HandNotes → PassState
with_both p front hands = record p { front = front; spare = hands }

-- the front was renewed, the spare hands noted, and all of them were met
pub spares_noted : (f : HandNotes → HandNotes) (s before after t : SequencerState) (v up w : PassState) (new : List HandNotes) → before ≡ s → up ≡ record v { front = s.history }
    → after.history ≡ before.history → new ≡ map f up.spare → ((hand : ℕ) → IsNone up.spare hand → notes_at after.notes hand ≡ notes_at before.notes hand)
    → Agrees after (with_spare up new) → All (IsKnown after up.front) new → t ≡ after → w ≡ with_spare up new → SparesNoted f s v t w
spares_noted f s before after t v up w new is_s is_up grown is_new others agrees known is_t is_w = record {
  history = ap (λ (x : SequencerState). x.history) is_t ∙ grown ∙ ap (λ (x : SequencerState). x.history) is_s;
  pass = is_w ∙ ap (with_spare up) (is_new ∙ ap (λ (p : PassState). map f p.spare) is_up) ∙ ap (λ (p : PassState). with_spare p (map f v.spare)) is_up;
  others = λ hand none.
      ap (λ (x : SequencerState). notes_at x.notes hand) is_t ∙ others hand (subst (λ (p : PassState). IsNone p.spare hand) (sym is_up) none)
      ∙ ap (λ (x : SequencerState). notes_at x.notes hand) is_s;
  agrees = subst (λ (x : SequencerState). Agrees x w) (sym is_t) (subst (Agrees after) (sym is_w) agrees);
  spare = subst (λ (x : SequencerState). All (IsKnown x w.front) w.spare) (sym is_t) (subst (λ (p : PassState). All (IsKnown after p.front) p.spare) (sym is_w) known);
}

-- the spare hands noted, all of them were met, and the front was renewed
pub spares_called : (f : HandNotes → HandNotes) (s after t : SequencerState) (v w : PassState) (new : List HandNotes) → after.history ≡ s.history → new ≡ map f v.spare
    → ((hand : ℕ) → IsNone v.spare hand → notes_at after.notes hand ≡ notes_at s.notes hand) → All (IsKnown after v.front) new → Agrees t w → t ≡ after
    → w ≡ record v { front = after.history; spare = new } → SparesNoted f s v t w
spares_called f s after t v w new grown is_new others known agrees is_t is_w = record {
  history = ap (λ (x : SequencerState). x.history) is_t ∙ grown;
  pass = is_w ∙ ap (λ (xs : Log). with_both v xs new) grown ∙ ap (λ (hs : List HandNotes). with_both v s.history hs) is_new;
  others = λ hand none. ap (λ (x : SequencerState). notes_at x.notes hand) is_t ∙ others hand none;
  agrees = agrees;
  spare = subst (λ (p : PassState). All (IsKnown t p.front) p.spare) (sym is_w)
      (subst (λ (x : SequencerState). All (IsKnown x after.history) new) (sym is_t)
      (All-weaker (IsKnown after v.front) (IsKnown after after.history) (λ h k. record { is = k.is; known = k.is.stands.entries }) new known));
}

-- another desk heard what it had heard
pub others_heard : (desks : List DeskState) (n k : ℕ) (new : DeskState) → n ≢ k → notes_at (notes_of (set desks n new)) k ≡ notes_at (notes_of desks) k
others_heard desks n k new apart =
    ap (λ (ns : List Log). notes_at ns k) (map-set (λ (y : DeskState). y.notes) desks n new)
    ∙ get_or-set_other (notes_of desks) n k new.notes [] (λ e. apart (sym e))
