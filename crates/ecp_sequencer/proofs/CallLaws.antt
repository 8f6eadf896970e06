-- The entries of a hand are of calls that began, and a call that noted nothing yet has none.
use Rattle.std.proofs.Common.{◌≡◌, ℕ, zero, suc, ◌+◌, ◌<◌, ◌≤◌, ◌==◌, Bool, true, false, cond, List, [], ◌∷◌, ◌++◌, length, take, get_or, slice_get, Option, Some, None, refl, sym, ◌∙◌, ap, subst, arith, inl, inr}
use Rattle.std.specs.Prelude.{All, MatchOption, ⊤}
use Rattle.std.proofs.lemmas.Bool.{cases_eq}
use Rattle.std.proofs.lemmas.Bool.Decides.{nat_tests}
use Rattle.std.proofs.lemmas.List.{take_all, take_more, length_push}
use Rattle.std.proofs.lemmas.List.Elements.{All-nil, All-push, All-weaker}
use Rattle.std.proofs.lemmas.Option.{slice_get-get_or}
use Rattle.ecp_book.specs.Logs.{Log}
use Rattle.ecp_entry.specs.Told.{made_from}
use Rattle.ecp_sequencer.specs.Notes.{Call, began, entered, over, kind_of, says_of, call_of, call_from}
use Rattle.ecp_sequencer.specs.Facts.{HandFacts, after_note, after_began, after_entered, after_over, after_other, ends_call, facts_of, entries_noted}
use Rattle.ecp_sequencer.specs.Histories.{FitsNote, Stands}
use Rattle.ecp_sequencer.proofs.NoteLaws.{facts_of-none, facts_of-more}

-- the number of the call that an item tells an entry of
abbrev number_of : List ℕ → ℕ
number_of x = (made_from x).entry.line.call

-- these entries are of calls with smaller numbers
abbrev AreBelow : ℕ → Log → Type 0
AreBelow n entries = All (λ x. number_of x < n) entries

-- What holds of the facts of a hand: its entries are of calls that began; the open call began last; with nothing noted since then, the
-- entries are of earlier calls
record AreOrdered (f : HandFacts) : Type 0 where
  entries : AreBelow f.calls f.entries
  last : MatchOption f.call ⊤ (λ c. c.number + 1 ≡ f.calls)
  earlier : f.since ≡ [] → MatchOption f.call ⊤ (λ c. AreBelow c.number f.entries)

-- a note by its kind
by_kind : (P : HandFacts → Type 0) (f : HandFacts) (x : List ℕ) → (kind_of x ≡ began → P (after_began f x)) → (kind_of x ≡ entered → P (after_entered f x)) → P (after_over f x)
    → P (after_other f x) → P (after_note f x)
by_kind P f x on_began on_entered on_over on_other =
    let late : (b : Bool) → P (cond b (after_over f x) (after_other f x)) = λ b. elim b as (λ v. P (cond v (after_over f x) (after_other f x))) [ true ↦ on_over | false ↦ on_other ] in
    elim (cases_eq (kind_of x) began) [
      | inl same ↦
          let is : kind_of x == began ≡ true = grind (arith, nat_tests) in
          subst (λ (b : Bool). P (cond b (after_began f x) (cond (kind_of x == entered) (after_entered f x) (cond (kind_of x == over) (after_over f x) (after_other f x))))) (sym is) (on_began same)
      | inr apart ↦
          let off : kind_of x == began ≡ false = grind (arith, nat_tests) in
          subst (λ (b : Bool). P (cond b (after_began f x) (cond (kind_of x == entered) (after_entered f x) (cond (kind_of x == over) (after_over f x) (after_other f x))))) (sym off)
          (elim (cases_eq (kind_of x) entered) [
            | inl same ↦
                let is : kind_of x == entered ≡ true = grind (arith, nat_tests) in
                subst (λ (b : Bool). P (cond b (after_entered f x) (cond (kind_of x == over) (after_over f x) (after_other f x)))) (sym is) (on_entered same)
            | inr other ↦
                let none : kind_of x == entered ≡ false = grind (arith, nat_tests) in
                subst (λ (b : Bool). P (cond b (after_entered f x) (cond (kind_of x == over) (after_over f x) (after_other f x)))) (sym none) (late (kind_of x == over))
          ])
    ]

-- something more was noted
no_more : {X : Type 0} (xs : Log) (x : List ℕ) → xs ++ x ∷ [] ≡ [] → X
no_more xs x is = absurd (omega (arith, length_push xs x, ap (λ (ys : Log). length ys) is))

-- the entry is of the open call
of_open : (calls : ℕ) (call : Option Call) (c : Call) → MatchOption call ⊤ (λ k. k.number + 1 ≡ calls) → call ≡ Some c → c.number < calls
of_open calls call c last is =
    let here : MatchOption (Some c) ⊤ (λ k. k.number + 1 ≡ calls) = subst (λ (o : Option Call). MatchOption o ⊤ (λ k. k.number + 1 ≡ calls)) is last in
    omega (arith, here)

-- a call that may have ended
or_ended : (P : Call → Type 0) (b : Bool) (call : Option Call) → MatchOption call ⊤ P → MatchOption (cond b None call) ⊤ P
or_ended P true call is = tt
or_ended P false call is = is

one_more : (hand : ℕ) (history before : Log) (x : List ℕ) → AreOrdered (facts_of before) → FitsNote hand history before x → AreOrdered (after_note (facts_of before) x)
one_more hand history before x is fits =
    let f : HandFacts = facts_of before in
    by_kind AreOrdered f x
    (λ same.
    let rises : f.calls ≤ (call_from (says_of x)).number = fits.rises same in
    record {
      entries = All-weaker (λ y. number_of y < f.calls) (λ y. number_of y < (call_from (says_of x)).number + 1) (λ y below. omega (arith, below, rises)) f.entries is.entries;
      last = refl;
      earlier = λ none. All-weaker (λ y. number_of y < f.calls) (λ y. number_of y < (call_from (says_of x)).number) (λ y below. omega (arith, below, rises)) f.entries is.entries;
    })
    (λ same.
    let below : number_of (says_of x) < f.calls = of_open f.calls f.call (call_of (made_from (says_of x)).entry) is.last (fits.of_call same) in
    record {
      entries = All-push (λ y. number_of y < f.calls) f.entries (says_of x) is.entries below;
      last = or_ended (λ c. c.number + 1 ≡ f.calls) (ends_call (says_of x)) f.call is.last;
      earlier = λ none. no_more f.since x none;
    })
    (record { entries = is.entries; last = tt; earlier = λ none. tt })
    (record { entries = is.entries; last = is.last; earlier = λ none. no_more f.since x none })

ordered_upto : (hand : ℕ) (history notes : Log) → Stands history hand notes → (n : ℕ) → n ≤ length notes → AreOrdered (facts_of (take n notes))
ordered_upto hand history notes stands zero le = subst (λ (f : HandFacts). AreOrdered f) (sym facts_of-none) (record { entries = All-nil (λ y. number_of y < 0); last = tt; earlier = λ none. tt })
ordered_upto hand history notes stands (suc n) le =
    let x : List ℕ = get_or notes n [] in
    let here : slice_get notes n ≡ Some x = slice_get-get_or notes n [] (omega arith) in
    let next_place : suc n ≡ n + 1 = omega arith in
    let whole : take (suc n) notes ≡ take n notes ++ x ∷ [] = ap (λ (k : ℕ). take k notes) next_place ∙ take_more notes n [] (omega arith) in
    let next = one_more hand history (take n notes) x (ordered_upto hand history notes stands n (omega arith)) (stands.fit n x here) in
    subst (λ (ns : Log). AreOrdered (facts_of ns)) (sym whole) (subst (λ (f : HandFacts). AreOrdered f) (sym (facts_of-more (take n notes) x)) next)

ordered : (hand : ℕ) (history notes : Log) → Stands history hand notes → AreOrdered (facts_of notes)
ordered hand history notes stands =
    subst (λ (ns : Log). AreOrdered (facts_of ns)) (take_all (length notes) notes (omega arith)) (ordered_upto hand history notes stands (length notes) (omega arith))

-- the open call is the last of those that were counted
pub open_last : (history notes : Log) (hand : ℕ) (c : Call) → Stands history hand notes → (facts_of notes).call ≡ Some c → c.number + 1 ≡ (facts_of notes).calls
open_last history notes hand c stands is =
    let all : AreOrdered (facts_of notes) = ordered hand history notes stands in
    subst (λ (o : Option Call). MatchOption o ⊤ (λ k. k.number + 1 ≡ (facts_of notes).calls)) is all.last

-- of a call that began and noted nothing yet, the hand has no entry: all are of calls with smaller numbers
pub begun_alone : (history notes : Log) (hand : ℕ) (c : Call) → Stands history hand notes → (facts_of notes).call ≡ Some c → (facts_of notes).since ≡ []
    → All (λ x. (made_from x).entry.line.call < c.number) (entries_noted notes)
begun_alone history notes hand c stands is none =
    let all : AreOrdered (facts_of notes) = ordered hand history notes stands in
    subst (λ (o : Option Call). MatchOption o ⊤ (λ k. AreBelow k.number (entries_noted notes))) is (all.earlier none)
