-- The history has of each caller just the entries that its pass noted.
use Rattle.std.proofs.Common.{◌≡◌, ◌≢◌, ℕ, zero, suc, ◌+◌, ◌-◌, ◌<◌, ◌≤◌, ◌==◌, Bool, true, false, cond, List, [], Some, ◌∷◌, ◌++◌, map, Contains, refl, sym, ◌∙◌, ap, subst, arith, inl, inr, lt_of_le_of_lt}
use Rattle.std.specs.Prelude.{All, filter, slice_get}
use Rattle.std.specs.List.{list_any}
use mathlib.Core.Logic.{dite}
use native.Mathlib.Decide.{ℕ_discrete}
use Rattle.std.proofs.lemmas.Bool.{false≢true, eq-eqb, eqb-true, cases_lt}
use Rattle.std.proofs.lemmas.List.Elements.{All-head, All-tail, All-contains, Contains-append_left, Contains-push}
use Rattle.std.proofs.lemmas.Option.{none-some, same_Some}
use Rattle.ecp_shape.specs.declared.limits.TheConstants.{MAX_SESSIONS}
use Rattle.ecp_book.specs.Logs.{Log}
use Rattle.ecp_entry.specs.declared.entry.Entry.{Entry}
use Rattle.ecp_entry.specs.Items.{item}
use Rattle.ecp_entry.specs.Told.{Made, made_from, made_of, history_of, items_by}
use Rattle.ecp_sequencer.specs.Closed.{IsHeard, IsSettled}
use Rattle.ecp_sequencer.specs.Facts.{HandFacts, entries_noted}
use Rattle.ecp_sequencer.specs.Hands.{IsHandOf, hands_of, own_hand}
use Rattle.ecp_sequencer.specs.Histories.{FitsMaker}
use Rattle.ecp_sequencer.specs.Passes.{HandNotes, PassState, new_hands}
use Rattle.ecp_sequencer.specs.Sequencers.{SequencerState}
use Rattle.ecp_sequencer.proofs.NoteLaws.{facts_of-none}
use Rattle.ecp_sequencer.proofs.StartLaws.{hands_fit}
use Rattle.ecp_sequencer.proofs.StepLaws.{history-items}
use Rattle.ecp_coord.proofs.AnyLaws.{or_none}
use Rattle.ecp_coord.proofs.FollowLaws.{caller_in_range, of_hand, none_by}
use Rattle.ecp_coord.proofs.KeepLaws.{own_of_one}

-- whether an item tells an entry of this caller
abbrev of_caller : ℕ → List ℕ → Bool
of_caller c x = (made_from x).entry.line.caller == c

-- whether an entry is of this caller
abbrev pub is_by : ℕ → Entry → Bool
is_by c e = e.line.caller == c

by_caller : (c : ℕ) (xs : Log) → history_of (filter (of_caller c) xs) ≡ filter (is_by c) (history_of xs)
by_caller c [] = refl
by_caller c (x ∷ xs) = either (of_caller c x) (by_caller c xs) where
  either : (b : Bool) → history_of (filter (of_caller c) xs) ≡ filter (is_by c) (history_of xs)
      → history_of (cond b (x ∷ filter (of_caller c) xs) (filter (of_caller c) xs)) ≡ cond b ((made_from x).entry ∷ filter (is_by c) (history_of xs)) (filter (is_by c) (history_of xs))
  either true is = ap (λ (es : List Entry). (made_from x).entry ∷ es) is
  either false is = is

-- ---- the items of the caller's own hand

module _ (callers spares c : ℕ) (below : c < callers) (session : c < MAX_SESSIONS) where
  -- by a caller's own hand is what is of the caller, where its spare hands made nothing
  same_maker : (x : List ℕ) → FitsMaker callers spares (made_from x) → ((h : ℕ) → IsHandOf spares c h → h ≢ own_hand spares c → of_hand h x ≡ false)
      → of_hand (own_hand spares c) x ≡ of_caller c x
  same_maker x fits others = either (of_hand (own_hand spares c) x) (of_caller c x) refl refl where
    either : (a b : Bool) → of_hand (own_hand spares c) x ≡ a → of_caller c x ≡ b → a ≡ b
    either true true by of = refl
    either false false by of = refl
    either false true by of =
        let is : (made_from x).entry.line.caller ≡ c = eqb-true (made_from x).entry.line.caller c of in
        let its : IsHandOf spares c (made_from x).hand =
        subst (λ (k : ℕ). IsHandOf spares k (made_from x).hand) is (fits.session (subst (λ (k : ℕ). k < MAX_SESSIONS) (sym is) session)) in
        absurd (dite (ℕ_discrete (made_from x).hand (own_hand spares c))
        (λ (mine : (made_from x).hand ≡ own_hand spares c). false≢true (sym by ∙ eq-eqb (made_from x).hand (own_hand spares c) mine))
        (λ (apart : (made_from x).hand ≢ own_hand spares c). false≢true (sym (others (made_from x).hand its apart) ∙ eq-eqb (made_from x).hand (made_from x).hand refl)))
    either true false by of =
        let hand : (made_from x).hand ≡ own_hand spares c = eqb-true (made_from x).hand (own_hand spares c) by in
        absurd (elim (cases_lt (made_from x).entry.line.caller MAX_SESSIONS) [
          | inl less ↦
              let mine : (made_from x).entry.line.caller ≡ c =
              own_of_one spares c (made_from x).entry.line.caller (subst (IsHandOf spares (made_from x).entry.line.caller) hand (fits.session less)) in
              false≢true (sym of ∙ eq-eqb (made_from x).entry.line.caller c mine)
          | inr node ↦
              let last : (made_from x).hand ≡ hands_of callers spares = fits.node node in
              let fit = hands_fit callers spares c below in
              absurd (omega (arith, hand, last, fit))
        ])

  same_items : (xs : Log) → All (FitsMaker callers spares) (made_of xs) → ((h : ℕ) → IsHandOf spares c h → h ≢ own_hand spares c → list_any (of_hand h) xs ≡ false)
      → items_by (own_hand spares c) xs ≡ filter (of_caller c) xs
  same_items [] fits others = refl
  same_items (x ∷ xs) fits others =
      let first : of_hand (own_hand spares c) x ≡ of_caller c x =
      same_maker x (All-head (FitsMaker callers spares) (made_from x) (made_of xs) fits)
      (λ h its apart. (or_none (of_hand h x) (list_any (of_hand h) xs) (others h its apart)).0) in
      let rest : items_by (own_hand spares c) xs ≡ filter (of_caller c) xs =
      same_items xs (All-tail (FitsMaker callers spares) (made_from x) (made_of xs) fits)
      (λ h its apart. (or_none (of_hand h x) (list_any (of_hand h) xs) (others h its apart)).1) in
      ap (λ (b : Bool). cond b (x ∷ items_by (own_hand spares c) xs) (items_by (own_hand spares c) xs)) first
      ∙ ap (λ (ys : Log). cond (of_caller c x) (x ∷ ys) ys) rest

-- ---- the spare hands

-- a hand that noted nothing
abbrev new_hand : ℕ → HandNotes
new_hand hand = record { hand = hand; notes = [] }

has_hand : (from n i : ℕ) → i < n → Contains (new_hands from n) (new_hand (from + i))
has_hand from zero i lt = absurd (omega (arith, lt))
has_hand from (suc n) i lt = elim (cases_lt i n) [
  | inl less ↦ Contains-append_left (new_hands from n) (new_hand (from + n) ∷ []) (new_hand (from + i)) (has_hand from n i less)
  | inr at ↦
      let is : n ≡ i = omega (arith, lt, at) in
      subst (λ (k : ℕ). Contains (new_hands from n ++ new_hand (from + n) ∷ []) (new_hand (from + k))) is (Contains-push (new_hands from n) (new_hand (from + n)))
]

past_own : (own h : ℕ) → own ≤ h → h ≢ own → own + 1 + (h - (own + 1)) ≡ h
past_own own h from apart = omega (arith, from, apart)

few_past : (own spares h : ℕ) → own ≤ h → h < own + (1 + spares) → h ≢ own → h - (own + 1) < spares
few_past own spares h from within apart = omega (arith, from, within, apart)

-- a spare hand that the pass never took made nothing
none_spare : (spares c : ℕ) (s : SequencerState) (w : PassState) → IsSettled s w → w.spare ≡ new_hands (own_hand spares c + 1) spares
    → (h : ℕ) → IsHandOf spares c h → h ≢ own_hand spares c → list_any (of_hand h) s.history ≡ false
none_spare spares c s w settled spare h its apart =
    let own : ℕ = own_hand spares c in
    let i : ℕ = h - (own + 1) in
    let there : Contains w.spare (new_hand (own + 1 + i)) =
    subst (λ (hs : List HandNotes). Contains hs (new_hand (own + 1 + i))) (sym spare) (has_hand (own + 1) spares i (few_past own spares h its.from its.within apart)) in
    let heard : IsHeard s (new_hand (own + 1 + i)) = All-contains (IsHeard s) w.spare (new_hand (own + 1 + i)) settled.held there in
    none_by h s.history
    (ap (λ (k : ℕ). items_by k s.history) (sym (past_own own h its.from apart)) ∙ heard.stands.entries ∙ ap (λ (f : HandFacts). f.entries) facts_of-none)

-- of a caller whose pass noted the items of these entries the history has just them
pub just_noted : (callers spares c : ℕ) (s : SequencerState) (w : PassState) (entries : List Entry) → c < callers → c < MAX_SESSIONS
    → All (FitsMaker callers spares) (made_of s.history) → IsSettled s w → w.hand ≡ own_hand spares c → w.spare ≡ new_hands (own_hand spares c + 1) spares
    → entries_noted w.notes ≡ map (item (own_hand spares c)) entries → filter (is_by c) (history_of s.history) ≡ entries
just_noted callers spares c s w entries below session made settled hand spare noted =
    sym (by_caller c s.history)
    ∙ ap history_of (sym (same_items callers spares c below session s.history made (none_spare spares c s w settled spare)))
    ∙ ap (λ (h : ℕ). history_of (items_by h s.history)) (sym hand)
    ∙ ap history_of (settled.own.entries ∙ noted)
    ∙ history-items (own_hand spares c) entries

-- what a session made is of one of the callers
its_caller : (callers spares : ℕ) (m : Made) → FitsMaker callers spares m → m.entry.line.caller < MAX_SESSIONS → m.entry.line.caller < callers
its_caller callers spares m fits session =
    let its : IsHandOf spares m.entry.line.caller m.hand = fits.session session in
    caller_in_range callers spares m.entry.line.caller (lt_of_le_of_lt its.from (fits.there session))

-- an entry of a session is of one of the callers
pub entry_below : (callers spares : ℕ) (items : Log) → All (FitsMaker callers spares) (made_of items) → (i : ℕ) (e : Entry) → slice_get (history_of items) i ≡ Some e
    → e.line.caller < MAX_SESSIONS → e.line.caller < callers
entry_below callers spares [] made i e here session = absurd (none-some e here)
entry_below callers spares (x ∷ items) made zero e here session =
    let is : (made_from x).entry ≡ e = same_Some (made_from x).entry e here in
    subst (λ (y : Entry). y.line.caller < callers) is
    (its_caller callers spares (made_from x) (All-head (FitsMaker callers spares) (made_from x) (made_of items) made) (subst (λ (y : Entry). y.line.caller < MAX_SESSIONS) (sym is) session))
entry_below callers spares (x ∷ items) made (suc i) e here session =
    entry_below callers spares items (All-tail (FitsMaker callers spares) (made_from x) (made_of items) made) i e here session
