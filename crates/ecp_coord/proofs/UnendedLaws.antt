-- A call of a hand that was left open, or is open, has no end in the history.
use Rattle.std.proofs.Common.{◌≡◌, ◌≢◌, ℕ, zero, suc, ◌+◌, ◌<◌, ◌≤◌, ◌-◌, ◌==◌, Bool, true, false, cond, ◌&&◌, ◌||◌, List, [], ◌∷◌, ◌++◌, length, take, get_or, slice_get, Option, Some, None, refl, sym, ◌∙◌, ap, subst, arith, inl, inr}
use Rattle.std.specs.Prelude.{All, MatchOption, ⊤}
use Rattle.std.specs.List.{list_any}
use mathlib.Core.Logic.{dite}
use native.Mathlib.Decide.{ℕ_discrete}
use Rattle.std.proofs.lemmas.Bool.{false≢true, cases_eq, eq-eqb, eqb-true}
use Rattle.std.proofs.lemmas.Bool.Decides.{nat_tests}
use Rattle.std.proofs.lemmas.List.{take_all, take_more}
use Rattle.std.proofs.lemmas.List.Elements.{All-head, All-nil, All-push, All-tail, All-weaker}
use Rattle.std.proofs.lemmas.List.Folds.{list_any-append}
use Rattle.std.proofs.lemmas.Option.{slice_get-get_or, slice_get_within, get_or_from_slice_get}
use Rattle.ecp_shape.specs.declared.limits.TheConstants.{MAX_SESSIONS}
use Rattle.ecp_book.specs.Logs.{Log}
use Rattle.ecp_entry.specs.declared.part.Part.{Part}
use Rattle.ecp_entry.specs.declared.part.Part.TheVariants as part
use Rattle.ecp_entry.specs.Told.{Made, made_from, made_of, history_of, items_by}
use Rattle.ecp_history.specs.Spans as spans
use Rattle.ecp_sequencer.specs.Notes.{Call, began, entered, over, kind_of, says_of, call_of, call_from}
use Rattle.ecp_sequencer.specs.Facts.{HandFacts, after_note, after_began, after_entered, after_over, after_other, ends_call, is_end, facts_of, entries_noted}
use Rattle.ecp_sequencer.specs.Hands.{IsHandOf}
use Rattle.ecp_sequencer.specs.Histories.{FitsMaker, FitsNote, Stands}
use Rattle.ecp_sequencer.proofs.NoteLaws.{facts_of-none, facts_of-more}
use Rattle.ecp_coord.specs.Numbers.{EachEnded}
use Rattle.ecp_coord.proofs.AnyLaws.{or_none, both_none}
use Rattle.ecp_coord.proofs.FollowLaws.{of_hand}

-- the number of the call that an item tells an entry of
abbrev pub number_of : List ℕ → ℕ
number_of x = (made_from x).entry.line.call

-- whether an item tells the end of a call with this number
abbrev pub ends_as : ℕ → List ℕ → Bool
ends_as n x = (number_of x == n) && ends_call x

-- a note by its kind
by_kind : (P : HandFacts → Type 0) (f : HandFacts) (x : List ℕ) → (kind_of x ≡ began → P (after_began f x)) → (kind_of x ≡ entered → P (after_entered f x)) → P (after_over f x) → P (after_other f x)
    → P (after_note f x)
by_kind P f x on_began on_entered on_over on_other =
    elim (cases_eq (kind_of x) began) [
      | inl same ↦
          let is : kind_of x == began ≡ true = grind (arith, nat_tests) in
          subst (λ (b : Bool). P (cond b (after_began f x) (cond (kind_of x == entered) (after_entered f x) (cond (kind_of x == over) (after_over f x) (after_other f x))))) (sym is) (on_began same)
      | inr apart ↦
          let off : kind_of x == began ≡ false = grind (arith, nat_tests) in
          subst (λ (b : Bool). P (cond b (after_began f x) (cond (kind_of x == entered) (after_entered f x) (cond (kind_of x == over) (after_over f x) (after_other f x))))) (sym off)
          (elim (cases_eq (kind_of x) entered) [
            | inl same ↦
                let is : kind_of x == entered ≡ true = grind (arith, nat_tests) in
                subst (λ (b : Bool). P (cond b (after_entered f x) (cond (kind_of x == over) (after_over f x) (after_other f x)))) (sym is) (on_entered same)
            | inr other ↦
                let none : kind_of x == entered ≡ false = grind (arith, nat_tests) in
                subst (λ (b : Bool). P (cond b (after_entered f x) (cond (kind_of x == over) (after_over f x) (after_other f x)))) (sym none)
                (elim (cases_eq (kind_of x) over) [
                  | inl same ↦
                      let is : kind_of x == over ≡ true = grind (arith, nat_tests) in
                      subst (λ (b : Bool). P (cond b (after_over f x) (after_other f x))) (sym is) on_over
                  | inr more ↦
                      let none : kind_of x == over ≡ false = grind (arith, nat_tests) in
                      subst (λ (b : Bool). P (cond b (after_over f x) (after_other f x))) (sym none) on_other
                ])
          ])
    ]

-- what holds of the facts of a hand that noted nothing, and after each note that fits, holds of the hand
module _ (P : HandFacts → Type 0) (hand : ℕ) (history notes : Log) (stands : Stands history hand notes)
    (more : (before : Log) (x : List ℕ) → P (facts_of before) → FitsNote hand history before x → P (after_note (facts_of before) x)) where
  -- from a place on
  onwards : (from n : ℕ) → P (facts_of (take from notes)) → from + n ≤ length notes → P (facts_of (take (from + n) notes))
  onwards from zero is le = subst (λ (n : ℕ). P (facts_of (take n notes))) (let same : from ≡ from + 0 = omega arith in same) is
  onwards from (suc n) is le =
      let at : ℕ = from + n in
      let x : List ℕ = get_or notes at [] in
      let lt : at < length notes = omega (arith, le) in
      let whole : take (from + suc n) notes ≡ take at notes ++ x ∷ [] = ap (λ (k : ℕ). take k notes) (let next : from + suc n ≡ at + 1 = omega arith in next) ∙ take_more notes at [] lt in
      let next = more (take at notes) x (onwards from n is (omega (arith, le))) (stands.fit at x (slice_get-get_or notes at [] lt)) in
      subst (λ (ns : Log). P (facts_of ns)) (sym whole) (subst P (sym (facts_of-more (take at notes) x)) next)

  to_the_end : (from : ℕ) → P (facts_of (take from notes)) → from ≤ length notes → P (facts_of notes)
  to_the_end from is le =
      let n : ℕ = length notes - from in
      let all : take (from + n) notes ≡ notes = take_all (from + n) notes (omega (arith, le)) in
      subst (λ (ns : Log). P (facts_of ns)) all (onwards from n is (omega (arith, le)))

-- ---- the open call has no end

-- entries of calls below a number are no ends of calls from it on
none_above : (calls n : ℕ) (entries : Log) → All (λ x. number_of x < calls) entries → calls ≤ n → list_any (ends_as n) entries ≡ false
none_above calls n [] all le = refl
none_above calls n (x ∷ entries) all le =
    let below = All-head (λ y. number_of y < calls) x entries all in
    let off : (number_of x == n) ≡ false = grind (arith, nat_tests) in
    both_none (ends_as n x) (list_any (ends_as n) entries) (ap (λ (b : Bool). b && ends_call x) off)
    (none_above calls n entries (All-tail (λ y. number_of y < calls) x entries all) le)

none_pushed : (n : ℕ) (entries : Log) (x : List ℕ) → list_any (ends_as n) entries ≡ false → ends_as n x ≡ false → list_any (ends_as n) (entries ++ x ∷ []) ≡ false
none_pushed n entries x none off = list_any-append (ends_as n) entries (x ∷ []) ∙ both_none (list_any (ends_as n) entries) (list_any (ends_as n) (x ∷ [])) none (both_none (ends_as n x) false off refl)

-- the entries are of calls that began; the open call began last, and has no end
record IsUnended (f : HandFacts) : Type 0 where
  below : All (λ x. number_of x < f.calls) f.entries
  last : MatchOption f.call ⊤ (λ c. c.number + 1 ≡ f.calls)
  none : MatchOption f.call ⊤ (λ c. list_any (ends_as c.number) f.entries ≡ false)

nothing_noted : IsUnended (facts_of [])
nothing_noted = subst (λ (f : HandFacts). IsUnended f) (sym facts_of-none) (record { below = All-nil (λ x. number_of x < 0); last = tt; none = tt })

or_ended : (P : Call → Type 0) (b : Bool) (call : Option Call) → MatchOption call ⊤ P → MatchOption (cond b None call) ⊤ P
or_ended P true call is = tt
or_ended P false call is = is

of_open : (P : Call → Type 0) (call : Option Call) (c : Call) → MatchOption call ⊤ P → call ≡ Some c → P c
of_open P call c holds is = subst (λ (o : Option Call). MatchOption o ⊤ P) is holds

unended_entered : (f : HandFacts) (x : List ℕ) → IsUnended f → f.call ≡ Some (call_of (made_from (says_of x)).entry) → IsUnended (after_entered f x)
unended_entered f x is open_call =
    let y : List ℕ = says_of x in
    let c : Call = call_of (made_from y).entry in
    let last : number_of y + 1 ≡ f.calls = of_open (λ (k : Call). k.number + 1 ≡ f.calls) f.call c is.last open_call in
    record {
      below = All-push (λ z. number_of z < f.calls) f.entries y is.below (omega (arith, last));
      last = or_ended (λ k. k.number + 1 ≡ f.calls) (ends_call y) f.call is.last;
      none = subst (λ (o : Option Call). MatchOption (cond (ends_call y) None o) ⊤ (λ k. list_any (ends_as k.number) (f.entries ++ y ∷ []) ≡ false)) (sym open_call)
          (either (ends_call y) refl (of_open (λ (k : Call). list_any (ends_as k.number) f.entries ≡ false) f.call c is.none open_call));
    }
  where
    either : (b : Bool) → ends_call (says_of x) ≡ b → list_any (ends_as (number_of (says_of x))) f.entries ≡ false
        → MatchOption (cond b None (Some (call_of (made_from (says_of x)).entry))) ⊤ (λ k. list_any (ends_as k.number) (f.entries ++ says_of x ∷ []) ≡ false)
    either true ended none = tt
    either false ended none = none_pushed (number_of (says_of x)) f.entries (says_of x) none (rw (ended, eq-eqb (number_of (says_of x)) (number_of (says_of x)) refl) refl)

unended_more : (hand : ℕ) (history before : Log) (x : List ℕ) → IsUnended (facts_of before) → FitsNote hand history before x → IsUnended (after_note (facts_of before) x)
unended_more hand history before x is fits =
    let f : HandFacts = facts_of before in
    by_kind IsUnended f x
    (λ same.
    let rises : f.calls ≤ (call_from (says_of x)).number = fits.rises same in
    record {
      below = All-weaker (λ y. number_of y < f.calls) (λ y. number_of y < (call_from (says_of x)).number + 1) (λ y below. omega (arith, below, rises)) f.entries is.below;
      last = refl;
      none = none_above f.calls (call_from (says_of x)).number f.entries is.below rises;
    })
    (λ same. unended_entered f x is (fits.of_call same))
    (record { below = is.below; last = tt; none = tt })
    (record { below = is.below; last = is.last; none = is.none })

unended : (hand : ℕ) (history notes : Log) → Stands history hand notes → (n : ℕ) → n ≤ length notes → IsUnended (facts_of (take n notes))
unended hand history notes stands n le =
    let same : 0 + n ≡ n = omega arith in
    subst (λ (k : ℕ). IsUnended (facts_of (take k notes))) same (onwards IsUnended hand history notes stands (unended_more hand history) 0 n nothing_noted (omega (arith, le)))

-- the open call of a hand has no end among its entries
pub open_unended : (hand : ℕ) (history notes : Log) (c : Call) → Stands history hand notes → (facts_of notes).call ≡ Some c → list_any (ends_as c.number) (entries_noted notes) ≡ false
open_unended hand history notes c stands open_call =
    let all : IsUnended (facts_of notes) = to_the_end IsUnended hand history notes stands (unended_more hand history) 0 nothing_noted (omega arith) in
    of_open (λ (k : Call). list_any (ends_as k.number) (entries_noted notes) ≡ false) (facts_of notes).call c all.none open_call

-- ---- the entries of the open call ask for what it asks for

-- an entry of a call with this number is of this call
abbrev pub AsksWith : Call → List ℕ → Type 0
AsksWith c x = number_of x ≡ c.number → call_of (made_from x).entry ≡ c

-- the entries are of calls that began; the open call began last, and those with its number are of it
record IsAsked (f : HandFacts) : Type 0 where
  below : All (λ x. number_of x < f.calls) f.entries
  last : MatchOption f.call ⊤ (λ c. c.number + 1 ≡ f.calls)
  asks : MatchOption f.call ⊤ (λ c. All (AsksWith c) f.entries)

none_asked : IsAsked (facts_of [])
none_asked = subst (λ (f : HandFacts). IsAsked f) (sym facts_of-none) (record { below = All-nil (λ x. number_of x < 0); last = tt; asks = tt })

asked_more : (hand : ℕ) (history before : Log) (x : List ℕ) → IsAsked (facts_of before) → FitsNote hand history before x → IsAsked (after_note (facts_of before) x)
asked_more hand history before x is fits =
    let f : HandFacts = facts_of before in
    let y : List ℕ = says_of x in
    by_kind IsAsked f x
    (λ same.
    let rises : f.calls ≤ (call_from y).number = fits.rises same in
    record {
      below = All-weaker (λ z. number_of z < f.calls) (λ z. number_of z < (call_from y).number + 1) (λ z below. omega (arith, below, rises)) f.entries is.below;
      last = refl;
      asks = All-weaker (λ z. number_of z < f.calls) (AsksWith (call_from y)) (λ z below at. absurd (omega (arith, below, rises, at))) f.entries is.below;
    })
    (λ same.
    let c : Call = call_of (made_from y).entry in
    let open_call : f.call ≡ Some c = fits.of_call same in
    let last : number_of y + 1 ≡ f.calls = of_open (λ (k : Call). k.number + 1 ≡ f.calls) f.call c is.last open_call in
    let asks : All (AsksWith c) f.entries = of_open (λ (k : Call). All (AsksWith k) f.entries) f.call c is.asks open_call in
    record {
      below = All-push (λ z. number_of z < f.calls) f.entries y is.below (omega (arith, last));
      last = or_ended (λ k. k.number + 1 ≡ f.calls) (ends_call y) f.call is.last;
      asks = subst (λ (o : Option Call). MatchOption (cond (ends_call y) None o) ⊤ (λ k. All (AsksWith k) (f.entries ++ y ∷ []))) (sym open_call)
          (or_ended (λ k. All (AsksWith k) (f.entries ++ y ∷ [])) (ends_call y) (Some c) (All-push (AsksWith c) f.entries y asks (λ at. refl)));
    })
    (record { below = is.below; last = tt; asks = tt })
    (record { below = is.below; last = is.last; asks = is.asks })

-- each entry of the hand with the number of its open call is of this call
pub open_asks : (hand : ℕ) (history notes : Log) (c : Call) → Stands history hand notes → (facts_of notes).call ≡ Some c → All (AsksWith c) (entries_noted notes)
open_asks hand history notes c stands open_call =
    let all : IsAsked (facts_of notes) = to_the_end IsAsked hand history notes stands (asked_more hand history) 0 none_asked (omega arith) in
    of_open (λ (k : Call). All (AsksWith k) (entries_noted notes)) (facts_of notes).call c all.asks open_call

-- ---- a call that was left open never has one

-- a call with a number that is past has no end
record IsSkipped (n : ℕ) (f : HandFacts) : Type 0 where
  none : list_any (ends_as n) f.entries ≡ false
  past : n < f.calls
  later : MatchOption f.call ⊤ (λ c. n < c.number)

skipped_more : (n : ℕ) (hand : ℕ) (history before : Log) (x : List ℕ) → IsSkipped n (facts_of before) → FitsNote hand history before x → IsSkipped n (after_note (facts_of before) x)
skipped_more n hand history before x is fits =
    let f : HandFacts = facts_of before in
    by_kind (IsSkipped n) f x
    (λ same.
    let rises : f.calls ≤ (call_from (says_of x)).number = fits.rises same in
    let past = is.past in
    record { none = is.none; past = omega (arith, past, rises); later = omega (arith, past, rises) })
    (λ same.
    let y : List ℕ = says_of x in
    let later : n < number_of y = of_open (λ (k : Call). n < k.number) f.call (call_of (made_from y).entry) is.later (fits.of_call same) in
    let off : (number_of y == n) ≡ false = grind (arith, nat_tests) in
    record {
      none = none_pushed n f.entries y is.none (ap (λ (b : Bool). b && ends_call y) off);
      past = is.past;
      later = or_ended (λ c. n < c.number) (ends_call y) f.call is.later;
    })
    (record { none = is.none; past = is.past; later = tt })
    (record { none = is.none; past = is.past; later = is.later })

-- where another call begins while one is open
skipped_at : (hand : ℕ) (history before : Log) (x : List ℕ) (c : Call) → IsUnended (facts_of before) → FitsNote hand history before x → (facts_of before).call ≡ Some c → kind_of x ≡ began
    → IsSkipped c.number (after_note (facts_of before) x)
skipped_at hand history before x c is fits open_call begins =
    let f : HandFacts = facts_of before in
    let last : c.number + 1 ≡ f.calls = of_open (λ (k : Call). k.number + 1 ≡ f.calls) f.call c is.last open_call in
    let rises : f.calls ≤ (call_from (says_of x)).number = fits.rises begins in
    let first : kind_of x == began ≡ true = eq-eqb (kind_of x) began begins in
    subst (λ (b : Bool). IsSkipped c.number (cond b (after_began f x) (cond (kind_of x == entered) (after_entered f x) (cond (kind_of x == over) (after_over f x) (after_other f x))))) (sym first)
    (record {
      none = of_open (λ (k : Call). list_any (ends_as k.number) f.entries ≡ false) f.call c is.none open_call;
      past = omega (arith, last, rises);
      later = omega (arith, last, rises);
    })

-- each call that a hand began has an end among its entries
abbrev pub AllEnd : Log → Type 0
AllEnd notes = (n : ℕ) → n < (facts_of notes).calls → list_any (ends_as n) (entries_noted notes) ≡ true

module _ (hand : ℕ) (history notes : Log) (stands : Stands history hand notes) (ends : AllEnd notes) where
  never : (c : Call) (i : ℕ) (x : List ℕ) → slice_get notes i ≡ Some x → kind_of x ≡ began → (facts_of (take i notes)).call ≡ Some c → ⊥
  never c i x here begins open_call =
      let lt : i < length notes = slice_get_within notes i x here in
      let skipped = skipped_at hand history (take i notes) x c (unended hand history notes stands i (omega (arith, lt))) (stands.fit i x here) open_call begins in
      let whole : take (i + 1) notes ≡ take i notes ++ x ∷ [] = take_more notes i [] lt ∙ ap (λ (y : List ℕ). take i notes ++ y ∷ []) (get_or_from_slice_get notes i x [] here) in
      let at : IsSkipped c.number (facts_of (take (i + 1) notes)) =
      subst (λ (ns : Log). IsSkipped c.number (facts_of ns)) (sym whole) (subst (λ (f : HandFacts). IsSkipped c.number f) (sym (facts_of-more (take i notes) x)) skipped) in
      let all : IsSkipped c.number (facts_of notes) =
      to_the_end (IsSkipped c.number) hand history notes stands (skipped_more c.number hand history) (i + 1) at (omega (arith, lt)) in
      absurd (false≢true (sym all.none ∙ ends c.number all.past))

  -- so no call was left open
  pub each_ended : EachEnded notes
  each_ended i x here begins = either (facts_of (take i notes)).call refl where
    either : (o : Option Call) → (facts_of (take i notes)).call ≡ o → o ≡ None
    either None is = refl
    either (Some c) is = absurd (never c i x here begins is)

  -- and none is open
  pub none_open : (facts_of notes).call ≡ None
  none_open = either (facts_of notes).call refl where
    either : (o : Option Call) → (facts_of notes).call ≡ o → o ≡ None
    either None is = refl
    either (Some c) is =
        let all : IsUnended (facts_of notes) = to_the_end IsUnended hand history notes stands (unended_more hand history) 0 nothing_noted (omega arith) in
        let last : c.number + 1 ≡ (facts_of notes).calls = of_open (λ (k : Call). k.number + 1 ≡ (facts_of notes).calls) (facts_of notes).call c all.last is in
        absurd (false≢true (sym (open_unended hand history notes c stands is) ∙ ends c.number (omega (arith, last))))

-- ---- an end of a caller's call is one of the hand's entries

-- the two ways to say that a part is the end
end_same : (p : Part) → spans.is_end p ≡ is_end p
end_same part.End = refl
end_same (part.Part j) = refl

module _ (callers spares caller hand n : ℕ) (session : caller < MAX_SESSIONS) where
  none_of_hand : (x : List ℕ) → ends_as n x ≡ false → spans.ends caller n (made_from x).entry ≡ false
  none_of_hand x off = either ((made_from x).entry.line.caller == caller) where
    either : (b : Bool) → ((b && (number_of x == n)) && spans.is_end (made_from x).entry.line.part) ≡ false
    either false = refl
    either true = ap (λ (r : Bool). (number_of x == n) && r) (end_same (made_from x).entry.line.part) ∙ off

  none_of_other : (x : List ℕ) → FitsMaker callers spares (made_from x) → of_hand hand x ≡ false → ((h : ℕ) → IsHandOf spares caller h → h ≢ hand → of_hand h x ≡ false)
      → spans.ends caller n (made_from x).entry ≡ false
  none_of_other x fits off others = either ((made_from x).entry.line.caller == caller) refl where
    either : (b : Bool) → ((made_from x).entry.line.caller == caller) ≡ b → ((b && (number_of x == n)) && spans.is_end (made_from x).entry.line.part) ≡ false
    either false is = refl
    either true is =
        let m : Made = made_from x in
        let same : m.entry.line.caller ≡ caller = eqb-true m.entry.line.caller caller is in
        let its : IsHandOf spares caller m.hand = subst (λ (k : ℕ). IsHandOf spares k m.hand) same (fits.session (subst (λ (k : ℕ). k < MAX_SESSIONS) (sym same) session)) in
        absurd (dite (ℕ_discrete m.hand hand)
        (λ (own : m.hand ≡ hand). false≢true (sym off ∙ eq-eqb m.hand hand own))
        (λ (apart : m.hand ≢ hand). false≢true (sym (others m.hand its apart) ∙ eq-eqb m.hand m.hand refl)))

  -- where the hand has none, the caller has none
  pub none_ending : (xs : Log) → All (FitsMaker callers spares) (made_of xs) → list_any (ends_as n) (items_by hand xs) ≡ false
      → ((h : ℕ) → IsHandOf spares caller h → h ≢ hand → list_any (of_hand h) xs ≡ false) → list_any (spans.ends caller n) (history_of xs) ≡ false
  none_ending [] fits none others = refl
  none_ending (x ∷ xs) fits none others =
      let first = All-head (FitsMaker callers spares) (made_from x) (made_of xs) fits in
      let rest = All-tail (FitsMaker callers spares) (made_from x) (made_of xs) fits in
      either (of_hand hand x) refl none first (λ off. none_ending xs rest off (λ h its apart. (or_none (of_hand h x) (list_any (of_hand h) xs) (others h its apart)).1))
    where
      either : (b : Bool) → of_hand hand x ≡ b → list_any (ends_as n) (cond b (x ∷ items_by hand xs) (items_by hand xs)) ≡ false → FitsMaker callers spares (made_from x)
          → (list_any (ends_as n) (items_by hand xs) ≡ false → list_any (spans.ends caller n) (history_of xs) ≡ false)
          → (spans.ends caller n (made_from x).entry || list_any (spans.ends caller n) (history_of xs)) ≡ false
      either true is off fits more =
          let h = or_none (ends_as n x) (list_any (ends_as n) (items_by hand xs)) off in
          both_none (spans.ends caller n (made_from x).entry) (list_any (spans.ends caller n) (history_of xs)) (none_of_hand x h.0) (more h.1)
      either false is off fits more =
          both_none (spans.ends caller n (made_from x).entry) (list_any (spans.ends caller n) (history_of xs))
          (none_of_other x fits is (λ h its apart. (or_none (of_hand h x) (list_any (of_hand h) xs) (others h its apart)).0)) (more off)
