-- An entry of a caller's own hand follows nothing that stands past the entries of that hand.
use Rattle.std.proofs.Common.{◌≡◌, ◌≢◌, ℕ, zero, suc, ◌+◌, ◌<◌, ◌≤◌, ◌==◌, Bool, true, false, cond, ◌&&◌, ◌||◌, List, [], ◌∷◌, ◌++◌, length, take, drop, refl, sym, ◌∙◌, ap, subst, arith, inl, inr, append-nil}
use Rattle.std.specs.Prelude.{All, nat_lt}
use Rattle.std.specs.List.{list_any}
use mathlib.Core.List.{IsPrefix}
use mathlib.Core.Logic.{dite}
use native.Mathlib.Decide.{ℕ_discrete}
use Rattle.std.proofs.lemmas.Bool.{false≢true, eq-eqb, eqb-true, cases_lt}
use Rattle.std.proofs.lemmas.List.{append_cancel_left, drop_at, take-append-drop}
use Rattle.std.proofs.lemmas.List.Elements.{All-head, All-tail}
use Rattle.ecp_shape.specs.declared.limits.TheConstants.{MAX_SESSIONS}
use Rattle.ecp_shape.specs.declared.shape.Shape.{Shape}
use Rattle.ecp_book.specs.Logs.{Log}
use Rattle.ecp_entry.specs.declared.entry.Entry.{Entry}
use Rattle.ecp_entry.specs.declared.part.Part.{Part}
use Rattle.ecp_entry.specs.declared.part.Part.TheVariants as part
use Rattle.ecp_entry.specs.Entries.{is_same_call, is_part_of}
use Rattle.ecp_entry.specs.Told.{Made, made_from, made_of, history_of, items_by}
use Rattle.ecp_entry.proofs.ToldLaws.{items_by-append}
use Rattle.ecp_history.specs.Follows.{after_last, after_part, follows, is_cat, is_same_caller}
use Rattle.ecp_sequencer.specs.Hands.{IsHandOf, hands_of, own_hand}
use Rattle.ecp_sequencer.specs.Facts.{HandFacts, entries_noted}
use Rattle.ecp_sequencer.specs.Histories.{FitsMaker, IsKept, notes_at}
use Rattle.ecp_sequencer.specs.Passes.{IsWhole, PassState}
use Rattle.ecp_sequencer.specs.Sequencers.{SequencerState, Agrees}
use Rattle.ecp_sequencer.proofs.NoteLaws.{facts_of-none}
use Rattle.ecp_sequencer.proofs.StartLaws.{hands_fit}
use Rattle.ecp_coord.specs.Coords.{AreIdle}
use Rattle.ecp_coord.proofs.AnyLaws.{or_none, both_none, any_drop_none, any_weaker}
use Rattle.ecp_coord.proofs.EndLaws.{one_more}

-- what a meeting of a pass teaches
pub record IsMet (shape : Shape) (told : Bool) (callers spares : ℕ) (s : SequencerState) (v : PassState) : Type 0 where
  pub agree : Agrees s v
  pub kept : IsKept shape told callers spares s.history s.notes
  pub session : v.caller < MAX_SESSIONS
  pub own : v.hand ≡ own_hand spares v.caller
  pub in_range : v.hand < hands_of callers spares

-- the hand of a whole pass is its caller's own
pub its_own : (spares : ℕ) (v : PassState) → v.places ≡ spares → IsWhole v → v.hand ≡ own_hand spares v.caller
its_own spares v places whole = whole.own ∙ ap (λ (n : ℕ). own_hand n v.caller) places

-- ---- an entry stands past all that passes no test from there on

after_none : (n : ℕ) (b : Bool) → n ≡ 0 → b ≡ false → cond (nat_lt 0 n) (n + 1) (cond b 1 0) ≡ 0
after_none n b none off = rw (none, off) refl

after_last_none : (test : Entry → Bool) (before : List Entry) → list_any test before ≡ false → after_last test before ≡ 0
after_last_none test [] none = refl
after_last_none test (e ∷ before) none =
    let h = or_none (test e) (list_any test before) none in
    after_none (after_last test before) (test e) (after_last_none test before h.1) h.0

pub after_last_upto : (test : Entry → Bool) (before : List Entry) (at : ℕ) → list_any test (drop at before) ≡ false → after_last test before ≤ at
after_last_upto test [] at none = omega arith
after_last_upto test (e ∷ before) zero none = let is = after_last_none test (e ∷ before) none in omega (arith, is)
after_last_upto test (e ∷ before) (suc at) none = one_more (after_last test before) at (test e) (after_last_upto test before at none)

-- ---- what an entry of a caller follows

none_of_call : (e x : Entry) → is_same_caller e x ≡ false → is_same_call e x ≡ false
none_of_call e x off = ap (λ (b : Bool). b && (x.line.call == e.line.call)) off

none_of_part : (e x : Entry) (j : ℕ) → is_same_caller e x ≡ false → is_part_of e j x ≡ false
none_of_part e x j off = rw (none_of_call e x off) refl

either_upto : (b : Bool) (m n at : ℕ) → m ≤ at → n ≤ at → cond b m n ≤ at
either_upto true m n at le other = le
either_upto false m n at le other = other

part_upto : (before : List Entry) (e : Entry) (p : Part) (at : ℕ) → list_any (is_same_caller e) (drop at before) ≡ false → after_part before e p ≤ at
part_upto before e (part.Part zero) at none = after_last_upto (is_same_caller e) before at none
part_upto before e (part.Part (suc j)) at none =
    let k : ℕ = cond (is_cat e.deed) j 0 in
    after_last_upto (is_part_of e k) before at (any_weaker (is_part_of e k) (is_same_caller e) (λ x. none_of_part e x k) (drop at before) none)
part_upto before e part.End at none =
    either_upto (list_any (is_same_call e) before) (after_last (is_same_call e) before) (after_last (is_same_caller e) before) at
    (after_last_upto (is_same_call e) before at (any_weaker (is_same_call e) (is_same_caller e) (none_of_call e) (drop at before) none))
    (after_last_upto (is_same_caller e) before at none)

-- ---- no entry of the hand is no entry of its caller

-- whether an item tells an entry of this hand
abbrev pub of_hand : ℕ → List ℕ → Bool
of_hand hand x = (made_from x).hand == hand

cons_some : {X : Type 0} (x : X) (xs : List X) → x ∷ xs ≡ [] → ⊥
cons_some x xs is = let size : length (x ∷ xs) ≡ 0 = ap length is in absurd (omega (arith, size))

pub none_by : (hand : ℕ) (xs : Log) → items_by hand xs ≡ [] → list_any (of_hand hand) xs ≡ false
none_by hand [] none = refl
none_by hand (x ∷ xs) none = either (of_hand hand x) refl none (none_by hand xs) where
  either : (b : Bool) → of_hand hand x ≡ b → cond b (x ∷ items_by hand xs) (items_by hand xs) ≡ [] → (items_by hand xs ≡ [] → list_any (of_hand hand) xs ≡ false)
      → (of_hand hand x || list_any (of_hand hand) xs) ≡ false
  either true is some more = absurd (cons_some x (items_by hand xs) some)
  either false is rest more = both_none (of_hand hand x) (list_any (of_hand hand) xs) is (more rest)

history_of-drop : (n : ℕ) (xs : Log) → history_of (drop n xs) ≡ drop n (history_of xs)
history_of-drop zero xs = refl
history_of-drop (suc n) [] = refl
history_of-drop (suc n) (x ∷ xs) = history_of-drop n xs

all_made-drop : (P : Made → Type 0) (n : ℕ) (xs : Log) → All P (made_of xs) → All P (made_of (drop n xs))
all_made-drop P zero xs all = all
all_made-drop P (suc n) [] all = all
all_made-drop P (suc n) (x ∷ xs) all = all_made-drop P n xs (All-tail P (made_from x) (made_of xs) all)

module _ (callers spares caller hand : ℕ) (e : Entry) (session : caller < MAX_SESSIONS) (by : e.line.caller ≡ caller) where
  other_caller : (x : List ℕ) → FitsMaker callers spares (made_from x) → of_hand hand x ≡ false
      → ((h : ℕ) → IsHandOf spares caller h → h ≢ hand → of_hand h x ≡ false) → is_same_caller e (made_from x).entry ≡ false
  other_caller x fits off others = either (is_same_caller e (made_from x).entry) refl where
    either : (b : Bool) → is_same_caller e (made_from x).entry ≡ b → b ≡ false
    either false is = refl
    either true is =
        let m : Made = made_from x in
        let same : m.entry.line.caller ≡ caller = eqb-true m.entry.line.caller e.line.caller is ∙ by in
        let its : IsHandOf spares caller m.hand = subst (λ (k : ℕ). IsHandOf spares k m.hand) same (fits.session (subst (λ (k : ℕ). k < MAX_SESSIONS) (sym same) session)) in
        absurd (dite (ℕ_discrete m.hand hand)
        (λ (own : m.hand ≡ hand). false≢true (sym off ∙ eq-eqb m.hand hand own))
        (λ (apart : m.hand ≢ hand). false≢true (sym (others m.hand its apart) ∙ eq-eqb m.hand m.hand refl)))

  none_told : (xs : Log) → All (FitsMaker callers spares) (made_of xs) → list_any (of_hand hand) xs ≡ false
      → ((h : ℕ) → IsHandOf spares caller h → h ≢ hand → list_any (of_hand h) xs ≡ false) → list_any (is_same_caller e) (history_of xs) ≡ false
  none_told [] fits off others = refl
  none_told (x ∷ xs) fits off others =
      let h = or_none (of_hand hand x) (list_any (of_hand hand) xs) off in
      both_none (is_same_caller e (made_from x).entry) (list_any (is_same_caller e) (history_of xs))
      (other_caller x (All-head (FitsMaker callers spares) (made_from x) (made_of xs) fits) h.0
      (λ k its apart. (or_none (of_hand k x) (list_any (of_hand k) xs) (others k its apart)).0))
      (none_told xs (All-tail (FitsMaker callers spares) (made_from x) (made_of xs) fits) h.1
      (λ k its apart. (or_none (of_hand k x) (list_any (of_hand k) xs) (others k its apart)).1))

-- the caller of a hand is one of the callers
pub caller_in_range : (callers spares caller : ℕ) → own_hand spares caller < hands_of callers spares → caller < callers
caller_in_range callers spares caller in_range = elim (cases_lt caller callers) [
  | inl below ↦ below
  | inr past ↦ elim (cases_lt callers caller) [
    | inl over ↦ absurd (let far = hands_fit caller spares callers over in omega (arith, far, in_range))
    | inr at ↦ absurd (let same : caller ≡ callers = omega (arith, past, at) in
        let is : own_hand spares caller ≡ hands_of callers spares = ap (λ (k : ℕ). own_hand spares k) same in
        omega (arith, is, in_range))
  ]
]

module _ (shape : Shape) (told : Bool) (callers spares : ℕ) where
  -- the other hands of the caller have no entry at all
  pub idle_none : (s : SequencerState) (v : PassState) → IsMet shape told callers spares s v → AreIdle spares s.notes → (h : ℕ) → IsHandOf spares v.caller h → h ≢ v.hand
      → items_by h s.history ≡ []
  idle_none s v met idle h its apart =
      let caller : v.caller < callers = caller_in_range callers spares v.caller (subst (λ (k : ℕ). k < hands_of callers spares) met.own met.in_range) in
      let last = hands_fit callers spares v.caller caller in
      let there : h ≢ hands_of callers spares = λ same. omega (arith, its.within, last) in
      let nothing : notes_at s.notes h ≡ [] = idle v.caller h its (λ same. apart (same ∙ sym met.own)) in
      (met.kept.stand h there).entries ∙ ap (λ (ns : Log). entries_noted ns) nothing ∙ ap (λ (f : HandFacts). f.entries) facts_of-none

  -- where the hand has no entry from a position on, its caller has none
  pub none_of_caller : (s : SequencerState) (v : PassState) (e : Entry) (at : ℕ) → IsMet shape told callers spares s v → AreIdle spares s.notes → e.line.caller ≡ v.caller
      → items_by v.hand (drop at s.history) ≡ [] → list_any (is_same_caller e) (drop at (history_of s.history)) ≡ false
  none_of_caller s v e at met idle by none =
      ap (list_any (is_same_caller e)) (sym (history_of-drop at s.history))
      ∙ none_told callers spares v.caller v.hand e met.session by (drop at s.history) (all_made-drop (FitsMaker callers spares) at s.history met.kept.made)
      (none_by v.hand (drop at s.history) none)
      (λ h its apart. any_drop_none (of_hand h) at s.history (none_by h s.history (idle_none s v met idle h its apart)))

  -- and so an entry of the caller follows nothing past that position
  pub follows_upto : (s : SequencerState) (v : PassState) (e : Entry) (at : ℕ) → IsMet shape told callers spares s v → AreIdle spares s.notes → e.line.caller ≡ v.caller
      → items_by v.hand (drop at s.history) ≡ [] → follows (history_of s.history) e ≤ at
  follows_upto s v e at met idle by none = part_upto (history_of s.history) e e.line.part at (none_of_caller s v e at met idle by none)

-- past a front that has all entries of a hand there are no more of it
pub none_since : (hand : ℕ) (front history : Log) → IsPrefix front history → items_by hand front ≡ items_by hand history → items_by hand (drop (length front) history) ≡ []
none_since hand front history begins same =
    let rest : Log = begins.0 in
    let whole : items_by hand front ++ items_by hand rest ≡ items_by hand front ++ [] =
    sym (items_by-append hand front rest) ∙ ap (items_by hand) begins.1 ∙ sym same ∙ sym (append-nil (items_by hand front)) in
    ap (items_by hand) (ap (drop (length front)) (sym begins.1) ∙ drop_at front rest (length front) refl) ∙ append_cancel_left (items_by hand front) (items_by hand rest) [] whole

-- no entry of a hand is none of the end of a log
pub items_by-drop : (hand : ℕ) (xs : Log) (n : ℕ) → items_by hand xs ≡ [] → items_by hand (drop n xs) ≡ []
items_by-drop hand xs n none =
    let parts : items_by hand (take n xs) ++ items_by hand (drop n xs) ≡ [] = sym (items_by-append hand (take n xs) (drop n xs)) ∙ ap (items_by hand) (take-append-drop n xs) ∙ none in
    no_end (items_by hand (take n xs)) (items_by hand (drop n xs)) parts where
      no_end : (a b : Log) → a ++ b ≡ [] → b ≡ []
      no_end [] b is = is
      no_end (x ∷ a) b is = absurd (cons_some x (a ++ b) is)
