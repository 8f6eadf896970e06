-- The rows that are chosen, as they are taken in rising order.
use Rattle.std.proofs.Common.{◌≡◌, ℕ, ◌+◌, ◌-◌, ◌*◌, drop, replicate, ◌<◌, ◌≤◌, ◌⊎◌, inl, inr, Bool, true, false, List, [], ◌∷◌, ◌++◌, length, map, refl, sym, ◌∙◌, ap, subst, arith, get_or, nat_eq, Option, Some, None}
use Rattle.std.specs.Prelude.{All, Any, Contains, count_by, nat_lt, slice_index, ◌&&◌}
use Rattle.std.specs.List.{IsDistinct}
use Rattle.std.specs.List.Sorted.{IsStrictlyIncreasing}
use Rattle.std.proofs.lemmas.Bool.{cases_eq, cases_lt}
use Rattle.std.proofs.lemmas.Bool.Decides.{nat_tests}
use Rattle.std.proofs.lemmas.List.{length-map, length_push, drop-drop, drop-replicate, get_or_append_left, get_or_push, get_or-map, get_or_default}
use Rattle.std.proofs.lemmas.List.Elements.{All-nil, All-push, All-weaker, All-contains, Contains-append_left, Contains-push}
use Rattle.std.proofs.lemmas.Map.Keys.{apart_from_distinct}
use Rattle.ecp_plan.specs.declared.live_row.LiveRow.{LiveRow}
use Rattle.ecp_plan.specs.declared.turn.Turn.{Turn}
use Rattle.ecp_plan.specs.Choice.{IsChoice}
use Rattle.ecp_plan.specs.Turns.{turn_end, is_taken, IsNext}
use Rattle.ecp_plan.proofs.SumLaws.{none_counted}
use Rattle.ecp_plan.proofs.CountLaws.{below, below_few, counted_step, counted_all}

-- a live row that is taken has this number
abbrev pub IsOfTaken : (LiveRow → Bool) → List LiveRow → ℕ → Type 0
IsOfTaken test live r = Any (λ x. (test x ≡ true) × (x.row ≡ r)) live

-- a live row that is taken is among these rows, if it is below `from`
abbrev pub IsIn : (LiveRow → Bool) → ℕ → List ℕ → LiveRow → Type 0
IsIn test from rows x = test x ≡ true → x.row < from → Contains rows x.row

-- these rows are the ones below `from` of the live rows that pass the test, in rising order
pub record IsPicking (test : LiveRow → Bool) (live : List LiveRow) (from : ℕ) (rows : List ℕ) : Type 0 where
  pub count : length rows ≡ count_by (below test (λ x. x.row) from) live
  pub under : All (λ r. r < from) rows
  pub rising : IsStrictlyIncreasing rows
  pub among : All (IsOfTaken test live) rows
  pub whole : All (IsIn test from rows) live

not_below : (t : Bool) (r : ℕ) → (t && nat_lt r 0) ≡ false
not_below true r = grind (arith, nat_tests)
not_below false r = refl

pub no_rows : (test : LiveRow → Bool) (live : List LiveRow) → IsPicking test live 0 []
no_rows test live = record {
  count = sym (none_counted (below test (λ x. x.row) 0) live (λ x. not_below (test x) x.row));
  under = All-nil (λ r. r < 0);
  rising = λ k within. absurd (omega arith);
  among = All-nil (IsOfTaken test live);
  whole = λ k d within passes low. absurd (omega arith);
}

rising_push : (rows : List ℕ) (from r : ℕ) → All (λ n. n < from) rows → from ≤ r → IsStrictlyIncreasing rows → IsStrictlyIncreasing (rows ++ r ∷ [])
rising_push rows from r under above up k within = elim (cases_lt (k + 1) (length rows)) [
  | inl inside ↦
      subst (λ (n : ℕ). n < get_or (rows ++ r ∷ []) (k + 1) 0) (sym (get_or_append_left rows (r ∷ []) 0 k (omega arith)))
      (subst (λ (n : ℕ). get_or rows k 0 < n) (sym (get_or_append_left rows (r ∷ []) 0 (k + 1) inside)) (up k inside))
  | inr last ↦
      let end : length rows ≡ k + 1 = omega (arith, length_push rows r) in
      let here : get_or rows k 0 < from = under k 0 (omega arith) in
      subst (λ (n : ℕ). n < get_or (rows ++ r ∷ []) (k + 1) 0) (sym (get_or_append_left rows (r ∷ []) 0 k (omega arith)))
      (subst (λ (n : ℕ). get_or rows k 0 < n) (sym (get_or_push rows r 0 (k + 1) end)) (omega arith))
]

pub row_more : (test : LiveRow → Bool) (live : List LiveRow) (from r : ℕ) (rows : List ℕ) → IsNext test (λ x. x.row) live from (Some r) → IsDistinct nat_eq (map (λ x. x.row) live) → IsPicking test live from rows → IsPicking test live (r + 1) (rows ++ r ∷ [])
row_more test live from r rows next apart h = record {
  count = length_push rows r ∙ ap (λ (n : ℕ). n + 1) h.count ∙ sym (counted_step test (λ x. x.row) (λ x. x.row) live from r r next apart (λ k d at e. e));
  under = All-push (λ n. n < r + 1) rows r (All-weaker (λ n. n < from) (λ n. n < r + 1) (λ n low. omega (arith, next.there.0)) rows h.under) (omega arith);
  rising = rising_push rows from r h.under next.there.0 h.rising;
  among = All-push (IsOfTaken test live) rows r h.among next.there.1;
  whole = λ k d at passes low. elim (next.least k d at passes) [
    | inl under ↦ Contains-append_left rows (r ∷ []) (get_or live k d).row (h.whole k d at passes under)
    | inr above ↦
        let it : r ≡ (get_or live k d).row = omega arith in
        subst (Contains (rows ++ r ∷ [])) it (Contains-push rows r)
  ];
}

-- where there is a next row, not all that pass the test are among these
pub room : (test : LiveRow → Bool) (live : List LiveRow) (from r : ℕ) (rows : List ℕ) → IsNext test (λ x. x.row) live from (Some r) → IsDistinct nat_eq (map (λ x. x.row) live) → IsPicking test live from rows → length rows < count_by test live
room test live from r rows next apart h =
    let step : count_by (below test (λ x. x.row) (r + 1)) live ≡ count_by (below test (λ x. x.row) from) live + 1 = counted_step test (λ x. x.row) (λ x. x.row) live from r r next apart (λ k d at e. e) in
    omega (arith, step, h.count, below_few test (λ x. x.row) live (r + 1))

-- where the rows are distinct, a row is live at one place
clash : (a b : ℕ) → nat_eq a b ≡ false → a ≡ b → ⊥
clash a b apart e = grind (arith, nat_tests)

apart_at : (live : List LiveRow) (d : LiveRow) (i j : ℕ) → IsDistinct nat_eq (map (λ x. x.row) live) → i < j → j < length live → (get_or live i d).row ≡ (get_or live j d).row → ⊥
apart_at live d i j apart less within e =
    let rows : List ℕ = map (λ x. x.row) live in
    clash (get_or rows i 0) (get_or rows j 0) (apart_from_distinct nat_eq rows i j 0 apart less (omega (arith, length-map live (λ (x : LiveRow). x.row))))
    (get_or-map (λ (x : LiveRow). x.row) live i d 0 (omega arith) ∙ e ∙ sym (get_or-map (λ (x : LiveRow). x.row) live j d 0 within))

same_at : (live : List LiveRow) (d : LiveRow) (i j : ℕ) → IsDistinct nat_eq (map (λ x. x.row) live) → i < length live → j < length live → (get_or live i d).row ≡ (get_or live j d).row → get_or live i d ≡ get_or live j d
same_at live d i j apart first second e = elim (cases_eq i j) [
  | inl one ↦ ap (λ (n : ℕ). get_or live n d) one
  | inr other ↦ elim (cases_lt i j) [
    | inl less ↦ absurd (apart_at live d i j apart less second e)
    | inr more ↦ absurd (apart_at live d j i apart (omega (arith, other)) first (sym e))
  ]
]

-- a live row that is among the rows passes the test
passes_among : (test : LiveRow → Bool) (live : List LiveRow) (rows : List ℕ) (k : ℕ) (d : LiveRow) → IsDistinct nat_eq (map (λ x. x.row) live) → All (IsOfTaken test live) rows → k < length live → Contains rows (get_or live k d).row → test (get_or live k d) ≡ true
passes_among test live rows k d apart among at has =
    let it = All-contains (IsOfTaken test live) rows (get_or live k d).row among has in
    let z : LiveRow = it.1 in
    let turned : get_or live k d ≡ get_or live k z = get_or_default live k d z at in
    let one : get_or live k z ≡ get_or live it.0 z = same_at live z k it.0 apart at it.2 (sym (ap (λ (x : LiveRow). x.row) turned) ∙ sym it.4.1 ∙ sym (ap (λ (x : LiveRow). x.row) it.3)) in
    subst (λ (x : LiveRow). test x ≡ true) (sym (turned ∙ one ∙ it.3)) it.4.0

either : (b : Bool) → (b ≡ true) ⊎ (b ≡ false)
either true = inl refl
either false = inr refl

-- the earlier of two turns has the smaller stamp, or the smaller node at one stamp
before_from : (s t a b end : ℕ) → a < 256 → b < 256 → nat_lt (s * 256 + a) end ≡ true → nat_lt (t * 256 + b) end ≡ false → (s < t) ⊎ ((s ≡ t) × (a < b))
before_from s t a b end low high taken left =
    let less : s * 256 + a < t * 256 + b = grind (arith, nat_tests) in
    elim (cases_lt s t) [ inl smaller ↦ inl smaller | inr larger ↦ inr (omega arith, omega arith) ]

pub chosen : (stamps : List ℕ) (live : List LiveRow) (last : Option Turn) (from k : ℕ) (rows : List ℕ) → IsPicking (is_taken stamps last) live from rows → IsNext (is_taken stamps last) (λ x. x.row) live from None → IsDistinct nat_eq (map (λ x. x.row) live) → All (λ x. x.node < 256) live → count_by (is_taken stamps last) live ≡ k → IsChoice stamps live k rows
chosen stamps live last from k rows h next apart bytes counted =
    let test : LiveRow → Bool = is_taken stamps last in
    record {
      count = h.count ∙ counted_all test (λ x. x.row) live from next ∙ counted;
      rising = h.rising;
      among = All-weaker (IsOfTaken test live) (Contains (map (λ x. x.row) live)) (λ r it. (it.0, omega (arith, it.2, length-map live (λ (x : LiveRow). x.row)), get_or-map (λ (x : LiveRow). x.row) live it.0 it.1 r it.2 ∙ ap (λ (x : LiveRow). x.row) it.3 ∙ it.4.1)) rows h.among;
      first = λ i d at has j e within other.
          let x : LiveRow = get_or live i d in
          let y : LiveRow = get_or live j e in
          let left : test y ≡ false = elim (either (test y)) [
            | inl passes ↦ absurd (elim (next.least j e within passes) [ inl low ↦ other (h.whole j e within passes low) | inr none ↦ none ])
            | inr fails ↦ fails
          ] in
          before_from (slice_index stamps x.node) (slice_index stamps y.node) x.node y.node (turn_end last) (bytes i d at) (bytes j e within) (passes_among test live rows i d apart h.among at has) left;
    }

-- what is left of the room after one more row
pub rest_more : (rows : List ℕ) (size len : ℕ) → drop len rows ≡ replicate (size - len) 0 → drop (len + 1) rows ≡ replicate (size - (len + 1)) 0
rest_more rows size len e =
    let fewer : size - len - 1 ≡ size - (len + 1) = omega arith in
    sym (drop-drop 1 len rows) ∙ ap (drop 1) e ∙ drop-replicate 1 (size - len) 0 ∙ ap (λ (n : ℕ). replicate n 0) fewer
