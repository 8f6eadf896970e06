-- Lists of jobs that weigh the same however jobs are weighed have the same jobs.
use Rattle.std.proofs.Common.{◌≡◌, ◌≢◌, ℕ, suc, ◌+◌, ◌≤◌, ◌⊎◌, inl, inr, Bool, true, false, cond, eqb, List, [], ◌∷◌, ◌++◌, length, sym, refl, ap, ◌∙◌, subst, arith}
use Rattle.std.specs.Prelude.{All, AllPairs, IsPermutation}
use Rattle.std.proofs.lemmas.Bool.Decides.{eqb_tells}
use Rattle.std.proofs.lemmas.List.Elements.{All-nil, All-cons, All-head, All-tail}
use Rattle.std.proofs.lemmas.List.Sorted.{IsPermutation-refl, IsPermutation-sym, IsPermutation-cons, IsPermutation-trans, IsPermutation-middle}
use Rattle.ecp_rebuild.specs.declared.job.Job.{Job}
use Rattle.ecp_rebuild.specs.Rules.{weigh}

pub weigh_append : (h : Job → ℕ) (xs ys : List Job) → weigh h (xs ++ ys) ≡ weigh h xs + weigh h ys
weigh_append h [] ys = omega arith
weigh_append h (x ∷ xs) ys = omega (arith, weigh_append h xs ys)

pub weigh_ones : (xs : List Job) → weigh (λ _. 1) xs ≡ length xs
weigh_ones [] = refl
weigh_ones (x ∷ xs) = omega (arith, weigh_ones xs)

-- jobs by a number that each has, as its part
module _ (key : Job → ℕ) where
  abbrev pub with_key : ℕ → Job → ℕ
  with_key n j = cond (eqb (key j) n) 1 0

  pub one_with : (n : ℕ) (x : Job) → key x ≡ n → with_key n x ≡ 1
  one_with n x e = elim (eqb_tells (key x) n) [
    | inl p ↦ ap (λ (b : Bool). cond b 1 0) p.0
    | inr p ↦ absurd (p.1 e)
  ]

  pub none_with : (n : ℕ) (x : Job) → key x ≢ n → with_key n x ≡ 0
  none_with n x apart = elim (eqb_tells (key x) n) [
    | inl p ↦ absurd (apart p.1)
    | inr p ↦ ap (λ (b : Bool). cond b 1 0) p.0
  ]

  pub zero_from_all : (n : ℕ) (xs : List Job) → All (λ j. key j ≢ n) xs → weigh (with_key n) xs ≡ 0
  zero_from_all n [] all = refl
  zero_from_all n (x ∷ xs) all =
      omega (arith, none_with n x (All-head (λ j. key j ≢ n) x xs all), zero_from_all n xs (All-tail (λ j. key j ≢ n) x xs all))

  pub all_from_zero : (n : ℕ) (xs : List Job) → weigh (with_key n) xs ≡ 0 → All (λ j. key j ≢ n) xs
  all_from_zero n [] none = All-nil (λ j. key j ≢ n)
  all_from_zero n (x ∷ xs) none =
      All-cons (λ j. key j ≢ n) x xs (λ e. absurd (omega (arith, one_with n x e, none))) (all_from_zero n xs (omega (arith, none)))

  pub one_at_most : (n : ℕ) (xs : List Job) → AllPairs (λ j k. key j ≢ key k) xs → weigh (with_key n) xs ≤ 1
  one_at_most n [] apart = omega arith
  one_at_most n (x ∷ xs) apart =
      let rest : weigh (with_key n) xs ≤ 1 = one_at_most n xs (λ i j d lt in'. apart (suc i) (suc j) d (omega (arith, lt)) (omega (arith, in'))) in
      elim (eqb_tells (key x) n) [
        | inl p ↦
            let others : All (λ j. key j ≢ n) xs = λ k d lt e. apart 0 (suc k) d (omega arith) (omega (arith, lt)) (p.1 ∙ sym e) in
            omega (arith, one_with n x p.1, zero_from_all n xs others)
        | inr p ↦ omega (arith, none_with n x p.1, rest)
      ]

-- whether two jobs are the same
abbrev is_same : Job → Job → Bool
is_same a b = cond (eqb a.number b.number) (cond (eqb a.task.part b.task.part) (cond (eqb a.task.stripe b.task.stripe) (eqb a.task.row b.task.row) false) false) false

same_tells : (a b : Job) → ((is_same a b ≡ true) × (a ≡ b)) ⊎ ((is_same a b ≡ false) × (a ≢ b))
same_tells a b =
    let N = eqb a.number b.number in
    let P = eqb a.task.part b.task.part in
    let S = eqb a.task.stripe b.task.stripe in
    let R = eqb a.task.row b.task.row in
    elim (eqb_tells a.number b.number) [
      | inr n ↦ inr (ap (λ (y : Bool). cond y (cond P (cond S R false) false) false) n.0, λ e. n.1 (ap (λ j. j.number) e))
      | inl n ↦ elim (eqb_tells a.task.part b.task.part) [
        | inr p ↦ inr (ap (λ (y : Bool). cond y (cond P (cond S R false) false) false) n.0 ∙ ap (λ (y : Bool). cond y (cond S R false) false) p.0, λ e. p.1 (ap (λ j. j.task.part) e))
        | inl p ↦ elim (eqb_tells a.task.stripe b.task.stripe) [
          | inr s ↦ inr (ap (λ (y : Bool). cond y (cond P (cond S R false) false) false) n.0 ∙ (ap (λ (y : Bool). cond y (cond S R false) false) p.0 ∙ ap (λ (y : Bool). cond y R false) s.0), λ e. s.1 (ap (λ j. j.task.stripe) e))
          | inl s ↦
              let so : is_same a b ≡ R = ap (λ (y : Bool). cond y (cond P (cond S R false) false) false) n.0 ∙ (ap (λ (y : Bool). cond y (cond S R false) false) p.0 ∙ ap (λ (y : Bool). cond y R false) s.0) in
              elim (eqb_tells a.task.row b.task.row) [
                | inr r ↦ inr (so ∙ r.0, λ e. r.1 (ap (λ j. j.task.row) e))
                | inl r ↦ inl (so ∙ r.0, λ i. record { number = n.1 i; task = record { part = p.1 i; stripe = s.1 i; row = r.1 i } })
              ]
        ]
      ]
    ]

abbrev as_often : Job → Job → ℕ
as_often x y = cond (is_same x y) 1 0

as_often_one : (x : Job) → as_often x x ≡ 1
as_often_one x = elim (same_tells x x) [
  | inl p ↦ ap (λ (b : Bool). cond b 1 0) p.0
  | inr p ↦ absurd (p.1 refl)
]

-- where it stands in a list
found : (x : Job) (ys : List Job) → 1 ≤ weigh (as_often x) ys → (us : List Job) × (vs : List Job) × (ys ≡ us ++ x ∷ vs)
found x [] some = absurd (omega (arith, some))
found x (y ∷ ys) some = elim (same_tells x y) [
  | inl p ↦ ([], ys, ap (λ j. j ∷ ys) (sym p.1))
  | inr p ↦
      let rest = found x ys (let none : as_often x y ≡ 0 = ap (λ (b : Bool). cond b 1 0) p.0 in omega (arith, some, none)) in
      (y ∷ rest.0, rest.1, ap (λ l. y ∷ l) rest.2)
]

pub same_jobs : (xs ys : List Job) → ((h : Job → ℕ) → weigh h xs ≡ weigh h ys) → IsPermutation xs ys
same_jobs [] [] same = IsPermutation-refl []
same_jobs [] (y ∷ ys) same = absurd (omega (arith, same (λ _. 1)))
same_jobs (x ∷ xs) ys same =
    let at = found x ys (omega (arith, same (as_often x), as_often_one x)) in
    let rest : IsPermutation xs (at.0 ++ at.1) =
    same_jobs xs (at.0 ++ at.1) (λ h. omega (arith, same h, ap (weigh h) at.2, weigh_append h at.0 (x ∷ at.1), weigh_append h at.0 at.1)) in
    IsPermutation-trans (x ∷ xs) (x ∷ (at.0 ++ at.1)) ys (IsPermutation-cons x xs (at.0 ++ at.1) rest)
    (IsPermutation-sym ys (x ∷ (at.0 ++ at.1)) (subst (λ (l : List Job). IsPermutation l (x ∷ (at.0 ++ at.1))) (sym at.2) (IsPermutation-middle at.0 x at.1)))
