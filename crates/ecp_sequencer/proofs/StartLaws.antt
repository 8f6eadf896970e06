-- A sequencer and its passes as they are made.
use Rattle.std.proofs.Common.{◌≡◌, ℕ, zero, suc, ◌+◌, ◌<◌, ◌≤◌, Bool, List, [], ◌∷◌, ◌++◌, length, get_or, replicate, Some, refl, sym, ◌∙◌, ap, subst, arith, inl, inr, append-nil, add-one}
use Rattle.std.proofs.Math.Nat.{mul-le-mul_left}
use Rattle.std.specs.Prelude.{All}
use Rattle.std.specs.List.{sum_by}
use mathlib.Core.List.{IsPrefix}
use Rattle.std.proofs.lemmas.List.{map-append, length_push, get_or_append_left, get_or_push, get_or-replicate, get_or_past, length-replicate, replicate_more}
use Rattle.std.proofs.lemmas.List.Elements.{All-nil, All-push}
use Rattle.std.proofs.lemmas.List.Sums.{sum_by_push}
use Rattle.std.proofs.lemmas.Bool.{cases_lt}
use Rattle.ecp_shape.specs.declared.limits.TheConstants.{MAX_SESSIONS}
use Rattle.ecp_shape.specs.declared.shape.Shape.{Shape}
use Rattle.ecp_book.specs.Logs.{Known, Log, empty_log}
use Rattle.ecp_entry.specs.Told.{items_by}
use Rattle.ecp_history.proofs.FrontLaws.{legal_none}
use Rattle.ecp_sequencer.specs.Hands.{own_hand, hands_of, spoken_log, heard_log}
use Rattle.ecp_sequencer.specs.Facts.{HandFacts, entries_noted}
use Rattle.ecp_sequencer.specs.Histories.{FitsMaker, Stands, IsKept, notes_at}
use Rattle.ecp_sequencer.specs.Passes.{IsHeld, IsPass, new_hands, first_pass}
use Rattle.ecp_sequencer.specs.Sequencers.{DeskState, IsSequencer, desk_seen, notes_of, new_desks, AreTies}
use Rattle.ecp_sequencer.proofs.NoteLaws.{facts_of-none}

-- all hands of a caller are among those of all callers
pub hands_fit : (callers spares caller : ℕ) → caller < callers → own_hand spares caller + (1 + spares) ≤ hands_of callers spares
hands_fit callers spares caller lt =
    let le : caller + 1 ≤ callers = omega arith in
    omega (arith, mul-le-mul_left (1 + spares) le)

-- ---- desks that heard nothing

pub length-new_desks : (n : ℕ) → length (new_desks n) ≡ n
length-new_desks zero = refl
length-new_desks (suc n) = omega (arith, length_push (new_desks n) (desk_seen n [] 0), length-new_desks n)

pub new_desks_more : (n : ℕ) → new_desks (n + 1) ≡ new_desks n ++ desk_seen n [] 0 ∷ []
new_desks_more n = rw add-one refl

new_desks-number : (n k : ℕ) (d : DeskState) → k < n → (get_or (new_desks n) k d).hand ≡ k
new_desks-number zero k d lt = absurd (omega arith)
new_desks-number (suc n) k d lt =
    elim (cases_lt k n) [
      | inl below ↦ ap (λ (x : DeskState). x.hand) (get_or_append_left (new_desks n) (desk_seen n [] 0 ∷ []) d k (omega (arith, length-new_desks n))) ∙ new_desks-number n k d below
      | inr from ↦
          let last : k ≡ n = omega arith in
          ap (λ (x : DeskState). x.hand) (get_or_push (new_desks n) (desk_seen n [] 0) d k (length-new_desks n ∙ sym last)) ∙ sym last
    ]

pub notes_of-new_desks : (n : ℕ) → notes_of (new_desks n) ≡ replicate n []
notes_of-new_desks zero = refl
notes_of-new_desks (suc n) =
    map-append (λ (x : DeskState). x.notes) (new_desks n) (desk_seen n [] 0 ∷ []) ∙ ap (λ (xs : List Log). xs ++ [] ∷ []) (notes_of-new_desks n)
    ∙ replicate_more n [] ∙ rw add-one refl

notes_at-replicate : (n hand : ℕ) → notes_at (replicate n []) hand ≡ []
notes_at-replicate n hand =
    elim (cases_lt hand n) [
      | inl below ↦ get_or-replicate n hand [] [] below
      | inr from ↦ get_or_past (replicate n []) hand [] (omega (arith, length-replicate {A = Log} n []))
    ]

no_room : (n : ℕ) → sum_by (λ (d : DeskState). d.room) (new_desks n) ≡ 0
no_room zero = refl
no_room (suc n) = omega (arith, sum_by_push (λ (d : DeskState). d.room) (new_desks n) (desk_seen n [] 0), no_room n)

-- of a hand that noted nothing an empty history has nothing
pub stands_empty : (hand : ℕ) → Stands [] hand []
stands_empty hand = record {
  entries = sym (ap (λ (f : HandFacts). f.entries) facts_of-none);
  fit = λ i x h. cc;
}

pub at_start_kept : (shape : Shape) (told : Bool) (callers spares : ℕ) → IsKept shape told callers spares [] (replicate (hands_of callers spares) [])
at_start_kept shape told callers spares = record {
  legal = legal_none shape told;
  counted = λ i e h. cc;
  made = All-nil (FitsMaker callers spares);
  hands = length-replicate (hands_of callers spares) [];
  stand = λ hand ne. subst (Stands [] hand) (sym (notes_at-replicate (hands_of callers spares) hand)) (stands_empty hand);
}

pub at_start_is : (shape : Shape) (told : Bool) (callers spares : ℕ) → IsSequencer shape told callers spares 0 [] (record { lines = []; spare = 0 }) (new_desks (hands_of callers spares)) 0
at_start_is shape told callers spares = record {
  on_history = refl;
  lines = refl;
  numbered = λ hand d lt. new_desks-number (hands_of callers spares) hand d (omega (arith, lt, length-new_desks (hands_of callers spares)));
  kept = subst (IsKept shape told callers spares []) (sym (notes_of-new_desks (hands_of callers spares))) (at_start_kept shape told callers spares);
  room = record {
    counted = sym (no_room (hands_of callers spares));
    spare = omega arith;
    places = omega arith;
  };
}

-- ---- hands that noted nothing

none_noted : (hand : ℕ) → IsPrefix (entries_noted []) (items_by hand [])
none_noted hand = ([], append-nil (entries_noted []) ∙ ap (λ (f : HandFacts). f.entries) facts_of-none)

held_new : (callers spares caller n : ℕ) → caller < callers → n ≤ spares → All (IsHeld callers spares caller 0 []) (new_hands (own_hand spares caller + 1) n)
held_new callers spares caller zero lt le = All-nil (IsHeld callers spares caller 0 [])
held_new callers spares caller (suc n) lt le =
    let fits = hands_fit callers spares caller lt in
    All-push (IsHeld callers spares caller 0 []) (new_hands (own_hand spares caller + 1) n) (record { hand = own_hand spares caller + 1 + n; notes = [] })
    (held_new callers spares caller n lt (omega arith)) (record {
      own = record { from = omega arith; within = omega arith };
      spare = omega arith;
      in_range = omega (arith, fits);
      noted = none_noted (own_hand spares caller + 1 + n);
      numbered = omega (arith, ap (λ (f : HandFacts). f.calls) facts_of-none);
    })

pub first_pass_is : (callers spares caller : ℕ) → caller < callers → caller < MAX_SESSIONS → IsPass callers spares 0 (first_pass spares caller)
first_pass_is callers spares caller lt session = record {
  on_history = refl;
  places = refl;
  own = record { from = omega arith; within = omega arith };
  session = session;
  in_range = omega (arith, hands_fit callers spares caller lt);
  noted = none_noted (own_hand spares caller);
  numbered = omega (arith, ap (λ (f : HandFacts). f.calls) facts_of-none);
  held = held_new callers spares caller spares lt (omega arith);
}

pub new_hands_more : (from n : ℕ) → new_hands from (n + 1) ≡ new_hands from n ++ record { hand = from + n; notes = [] } ∷ []
new_hands_more from n = rw add-one refl

-- ---- the ties

some_same : {X : Type 0} (x y : X) → Some x ≡ Some y → x ≡ y
some_same x y same = cc

-- the first two keepers tie the hand, and the others the hands behind it
pub next_tie : (nodes hand : ℕ) (one other : Known) (rest : List Known) → AreTies nodes hand (one ∷ other ∷ rest)
    → (one ≡ empty_log (spoken_log nodes hand)) × (other ≡ empty_log (heard_log nodes hand)) × AreTies nodes (hand + 1) rest
next_tie nodes hand one other rest ties = (
  some_same one (empty_log (spoken_log nodes hand + 0)) (ties 0 (omega arith)) ∙ ap empty_log (omega arith),
  some_same other (empty_log (spoken_log nodes hand + 1)) (ties 1 (omega arith)) ∙ ap empty_log (omega arith),
  λ m lt.
      let there : m < length rest = lt in
      let n : spoken_log nodes hand + suc (suc m) ≡ spoken_log nodes (hand + 1) + m = omega arith in
      ties (suc (suc m)) (omega arith) ∙ ap (λ (k : ℕ). Some (empty_log k)) n,
)

-- past the last hand no hand has entries
pub none_past : (history : Log) (notes : List Log) (hands hand : ℕ) → length notes ≡ hands → hands < hand → Stands history hand (notes_at notes hand) → items_by hand history ≡ []
none_past history notes hands hand count past stands =
    stands.entries ∙ ap entries_noted (get_or_past notes hand [] (omega arith)) ∙ ap (λ (f : HandFacts). f.entries) facts_of-none
