-- How many live rows are below a number, as the next number is found.
use Rattle.std.proofs.Common.{◌≡◌, ℕ, ◌+◌, ◌*◌, ◌<◌, ◌≤◌, ◌⊎◌, ◌==◌, inl, inr, Bool, true, false, List, length, map, refl, sym, ◌∙◌, subst, arith, get_or, nat_eq, Option, Some, None}
use Rattle.std.specs.Prelude.{All, count_by, sum_by, nat_lt, slice_index, ◌&&◌}
use Rattle.std.specs.List.{IsDistinct}
use Rattle.std.specs.Option.{option_map}
use Rattle.std.proofs.lemmas.Bool.{cases_eq, false≢true}
use Rattle.std.proofs.lemmas.Bool.Decides.{nat_tests}
use Rattle.std.proofs.lemmas.List.Sums.{sum_by-le-sum_by}
use Rattle.ecp_plan.specs.declared.live_row.LiveRow.{LiveRow}
use Rattle.ecp_plan.specs.declared.turn.Turn.{Turn}
use Rattle.ecp_plan.specs.Turns.{number, turn_of, turn_end, is_taken, IsNotBelow, IsNext}
use Rattle.ecp_plan.proofs.SumLaws.{term, sum_same, sum_parts, all_counted, at_most_one, at_least_one}

-- whether a live row that passes the test has a number below this one
abbrev pub below : (LiveRow → Bool) → (LiveRow → ℕ) → ℕ → LiveRow → Bool
below test key from x = test x && nat_lt (key x) from

-- whether a live row that passes the test has just this number
abbrev has : (LiveRow → Bool) → (LiveRow → ℕ) → ℕ → LiveRow → Bool
has test key n x = test x && (key x == n)

one_more : (t : Bool) (m from n : ℕ) → from ≤ n → (t ≡ true → (m < from) ⊎ (n ≤ m)) → term (t && nat_lt m (n + 1)) ≡ term (t && nat_lt m from) + term (t && (m == n))
one_more false m from n above past = refl
one_more true m from n above past = elim (past refl) [
  | inl low ↦ grind (arith, nat_tests)
  | inr high ↦ grind (arith, nat_tests)
]

once : (t : Bool) (m n a b : ℕ) → (m ≡ n → a ≡ b) → (term (t && (m == n)) ≡ 0) ⊎ ((term (t && (m == n)) ≡ 1) × (a ≡ b))
once false m n a b same = inl refl
once true m n a b same = elim (cases_eq m n) [
  | inl e ↦ inr (grind (arith, nat_tests), same e)
  | inr other ↦ inl (grind (arith, nat_tests))
]

it_has : (t : Bool) (m n : ℕ) → t ≡ true → m ≡ n → term (t && (m == n)) ≡ 1
it_has true m n passes e = grind (arith, nat_tests)
it_has false m n passes e = absurd (false≢true passes)

-- just one live row has the next number, where rows with that number have one f, and all f are distinct
pub counted_step : (test : LiveRow → Bool) (key f : LiveRow → ℕ) (live : List LiveRow) (from n m : ℕ) → IsNext test key live from (Some n) → IsDistinct nat_eq (map f live) → All (λ x. key x ≡ n → f x ≡ m) live → count_by (below test key (n + 1)) live ≡ count_by (below test key from) live + 1
counted_step test key f live from n m next apart same =
    let parts : sum_by (λ x. term (below test key (n + 1) x)) live ≡ sum_by (λ x. term (below test key from x)) live + sum_by (λ x. term (has test key n x)) live =
    sum_parts (λ x. term (below test key (n + 1) x)) (λ x. term (below test key from x)) (λ x. term (has test key n x)) live
    (λ k d at. one_more (test (get_or live k d)) (key (get_or live k d)) from n next.there.0 (next.least k d at)) in
    let most : sum_by (λ x. term (has test key n x)) live ≤ 1 =
    at_most_one f (λ x. term (has test key n x)) m live apart (λ k d at. once (test (get_or live k d)) (key (get_or live k d)) n (f (get_or live k d)) m (same k d at)) in
    let least : 1 ≤ sum_by (λ x. term (has test key n x)) live =
    at_least_one (λ x. term (has test key n x)) live
    (let it = next.there.1 in (it.0, it.1, it.2, it.3, it_has (test it.1) (key it.1) n it.4.0 it.4.1)) in
    omega (arith, parts, most, least)

-- with no next number all that pass the test are below
past_all : (t : Bool) (m from : ℕ) → (t ≡ true → (m < from) ⊎ IsNotBelow None m) → term (t && nat_lt m from) ≡ term t
past_all false m from past = refl
past_all true m from past = elim (past refl) [
  | inl low ↦ grind (arith, nat_tests)
  | inr none ↦ absurd none
]

pub counted_all : (test : LiveRow → Bool) (key : LiveRow → ℕ) (live : List LiveRow) (from : ℕ) → IsNext test key live from None → count_by (below test key from) live ≡ count_by test live
counted_all test key live from next =
    sum_same (λ x. term (below test key from x)) (λ x. term (test x)) live (λ k d at. past_all (test (get_or live k d)) (key (get_or live k d)) from (next.least k d at))

-- the nodes of one turn are one node
pub one_node : (s t a b : ℕ) → a < 256 → b < 256 → s * 256 + a ≡ t * 256 + b → a ≡ b
one_node s t a b low high e = omega arith

-- one turn more is taken
pub turn_more : (stamps : List ℕ) (live : List LiveRow) (after now : Option Turn) → IsNext (λ _. true) (turn_of stamps) live (turn_end after) (option_map number now) → IsDistinct nat_eq (map (λ x. x.node) live) → All (λ x. x.node < 256) live → count_by (is_taken stamps after) live < length live → count_by (is_taken stamps now) live ≡ count_by (is_taken stamps after) live + 1
turn_more stamps live after None next apart bytes some =
    absurd (omega (arith, counted_all (λ _. true) (turn_of stamps) live (turn_end after) next, all_counted live))
turn_more stamps live after (Some turn) next apart bytes some =
    let it = next.there.1 in
    let byte : it.1.node < 256 = subst (λ (x : LiveRow). x.node < 256) it.3 (bytes it.0 it.1 it.2) in
    counted_step (λ _. true) (turn_of stamps) (λ x. x.node) live (turn_end after) (number turn) it.1.node next apart
    (λ k d at e. one_node (slice_index stamps (get_or live k d).node) (slice_index stamps it.1.node) (get_or live k d).node it.1.node (bytes k d at) byte (e ∙ sym it.4.1))

-- at most all that pass the test are below
within_test : (t b : Bool) → term (t && b) ≤ term t
within_test true true = omega arith
within_test true false = omega arith
within_test false b = omega arith

pub below_few : (test : LiveRow → Bool) (key : LiveRow → ℕ) (live : List LiveRow) (from : ℕ) → count_by (below test key from) live ≤ count_by test live
below_few test key live from = sum_by-le-sum_by (λ x. term (below test key from x)) (λ x. term (test x)) live (λ x. within_test (test x) (nat_lt (key x) from))
