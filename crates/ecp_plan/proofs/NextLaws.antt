-- The least of some numbers from one on, as the numbers come one by one.
use Rattle.std.proofs.Common.{◌≡◌, ℕ, ◌+◌, ◌<◌, ◌≤◌, ◌⊎◌, inl, inr, Bool, true, false, List, [], ◌∷◌, ◌++◌, length, refl, sym, ◌∙◌, ap, subst, arith, Option, Some, None, get_or, take}
use Rattle.std.specs.Prelude.{Any}
use Rattle.std.proofs.lemmas.Bool.Decides.{nat_tests}
use Rattle.std.proofs.lemmas.Bool.{cases_lt, false≢true}
use Rattle.std.proofs.lemmas.List.{get_or_append_left, length-append, take_more}
use Rattle.std.proofs.lemmas.List.Elements.{All-nil, All-push, All-weaker}
use Rattle.std.proofs.lemmas.List.Quantifiers.{Any-push}
use Rattle.ecp_plan.specs.declared.live_row.LiveRow.{LiveRow}
use Rattle.ecp_plan.specs.Turns.{IsNotBelow, nearer, IsNext}

any_left : {A : Type 0} (P : A → Type 0) (xs ys : List A) → Any P xs → Any P (xs ++ ys)
any_left P xs ys (k, x, within, e, p) = (k, x, omega (arith, length-append xs ys), get_or_append_left xs ys x k within ∙ e, p)

-- either the new number is taken, which is no larger than all that were not below the one found, or it is not needed
pub record IsTaken (found : Option ℕ) (from n : ℕ) : Type 0 where
  pub now : nearer found from n ≡ Some n
  pub above : from ≤ n
  pub lower : (m : ℕ) → IsNotBelow found m → n ≤ m

pub record IsLeft (found : Option ℕ) (from n : ℕ) : Type 0 where
  pub now : nearer found from n ≡ found
  pub why : (n < from) ⊎ IsNotBelow found n

nearer_cases : (found : Option ℕ) (from n : ℕ) → IsTaken found from n ⊎ IsLeft found from n
nearer_cases None from n = elim (cases_lt n from) [
  | inr above ↦ inl (record { now = grind (arith, nat_tests); above = above; lower = λ k none. absurd none })
  | inl low ↦ inr (record { now = grind (arith, nat_tests); why = inl low })
]
nearer_cases (Some m) from n = elim (cases_lt n from) [
  | inr above ↦
      elim (cases_lt n m) [
        | inl less ↦ inl (record { now = grind (arith, nat_tests); above = above; lower = λ k high. omega arith })
        | inr found ↦ inr (record { now = grind (arith, nat_tests); why = inr found })
      ]
  | inl low ↦ inr (record { now = grind (arith, nat_tests); why = inl low })
]

pub no_next : (test : LiveRow → Bool) (key : LiveRow → ℕ) (from : ℕ) → IsNext test key [] from None
no_next test key from = record { least = All-nil _; there = tt }

-- an element that is past what was found, or is not counted, does not change it
abbrev Past : (LiveRow → Bool) → (LiveRow → ℕ) → ℕ → Option ℕ → LiveRow → Type 0
Past test key from found x = test x ≡ true → (key x < from) ⊎ IsNotBelow found (key x)

pub next_skip : (test : LiveRow → Bool) (key : LiveRow → ℕ) (xs : List LiveRow) (x : LiveRow) (from : ℕ) (found : Option ℕ) → Past test key from found x → IsNext test key xs from found → IsNext test key (xs ++ x ∷ []) from found
next_skip test key xs x from None past h = record { least = All-push (Past test key from None) xs x h.least past; there = tt }
next_skip test key xs x from (Some n) past h = record {
  least = All-push (Past test key from (Some n)) xs x h.least past;
  there = (h.there.0, any_left (λ y. (test y ≡ true) × (key y ≡ n)) xs (x ∷ []) h.there.1);
}

pub next_other : (test : LiveRow → Bool) (key : LiveRow → ℕ) (xs : List LiveRow) (x : LiveRow) (from : ℕ) (found : Option ℕ) → test x ≡ false → IsNext test key xs from found → IsNext test key (xs ++ x ∷ []) from found
next_other test key xs x from found fails h = next_skip test key xs x from found (λ t. absurd (false≢true (sym fails ∙ t))) h

pub next_more : (test : LiveRow → Bool) (key : LiveRow → ℕ) (xs : List LiveRow) (x : LiveRow) (from : ℕ) (found : Option ℕ) → test x ≡ true → IsNext test key xs from found → IsNext test key (xs ++ x ∷ []) from (nearer found from (key x))
next_more test key xs x from found passes h =
    let n : ℕ = key x in
    elim (nearer_cases found from n) [
      | inl taken ↦
          let weaker : (y : LiveRow) → Past test key from found y → Past test key from (Some n) y = λ y at t. elim (at t) [ inl low ↦ inl low | inr high ↦ inr (taken.lower (key y) high) ] in
          let next : IsNext test key (xs ++ x ∷ []) from (Some n) = record {
            least = All-push (Past test key from (Some n)) xs x (All-weaker (Past test key from found) (Past test key from (Some n)) weaker xs h.least) (λ t. inr (omega arith));
            there = (taken.above, Any-push (λ y. (test y ≡ true) × (key y ≡ n)) xs x (passes, refl));
          } in
          subst (IsNext test key (xs ++ x ∷ []) from) (sym taken.now) next
      | inr left ↦ subst (IsNext test key (xs ++ x ∷ []) from) (sym left.now) (next_skip test key xs x from found (λ t. left.why) h)
    ]

-- one element more of a list
pub next_taken : (test : LiveRow → Bool) (key : LiveRow → ℕ) (xs : List LiveRow) (i : ℕ) (d : LiveRow) (from n : ℕ) (found now : Option ℕ) → i < length xs → test (get_or xs i d) ≡ true → n ≡ key (get_or xs i d) → now ≡ nearer found from n → IsNext test key (take i xs) from found → IsNext test key (take (i + 1) xs) from now
next_taken test key xs i d from n found now within passes e is h =
    let more : IsNext test key (take i xs ++ get_or xs i d ∷ []) from (nearer found from (key (get_or xs i d))) = next_more test key (take i xs) (get_or xs i d) from found passes h in
    let same : nearer found from (key (get_or xs i d)) ≡ now = ap (nearer found from) (sym e) ∙ sym is in
    subst (λ (ys : List LiveRow). IsNext test key ys from now) (sym (take_more xs i d within)) (subst (IsNext test key (take i xs ++ get_or xs i d ∷ []) from) same more)

pub next_passed : (test : LiveRow → Bool) (key : LiveRow → ℕ) (xs : List LiveRow) (i : ℕ) (d : LiveRow) (from : ℕ) (found now : Option ℕ) → i < length xs → test (get_or xs i d) ≡ false → now ≡ found → IsNext test key (take i xs) from found → IsNext test key (take (i + 1) xs) from now
next_passed test key xs i d from found now within fails is h =
    let more : IsNext test key (take i xs ++ get_or xs i d ∷ []) from found = next_other test key (take i xs) (get_or xs i d) from found fails h in
    subst (λ (ys : List LiveRow). IsNext test key ys from now) (sym (take_more xs i d within)) (subst (IsNext test key (take i xs ++ get_or xs i d ∷ []) from) (sym is) more)
