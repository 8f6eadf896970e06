-- The positions of losses in a history.
use Rattle.std.proofs.Common.{◌≡◌, ℕ, zero, suc, ◌+◌, ◌<◌, ◌≤◌, Bool, true, false, cond, List, [], ◌∷◌, ◌++◌, length, map, drop, Some, refl, ◌∙◌, ap, subst, arith, filter, find}
use Rattle.std.specs.Prelude.{All, nat_le}
use Rattle.std.specs.List.{AllByRecursion, enumerate_from, position_from}
use Rattle.std.proofs.lemmas.Bool.Decides.{nat_tests}
use Rattle.std.proofs.lemmas.List.{map-append}
use Rattle.std.proofs.lemmas.List.Elements.{filter-append, All-from_recursion}

-- one element more, with its place
pub enumerate-more : {X : Type 0} (n : ℕ) (xs : List X) (x : X) → enumerate_from n (xs ++ x ∷ []) ≡ enumerate_from n xs ++ (n + length xs, x) ∷ []
enumerate-more {X} n [] x =
    let here : n ≡ n + 0 = omega arith in
    ap (λ (m : ℕ). let p : ℕ × X = (m, x) in p ∷ []) here
enumerate-more {X} n (y ∷ ys) x =
    let next : n + 1 + length ys ≡ n + length (y ∷ ys) = omega arith in
    ap (λ (ps : List (ℕ × X)). (n, y) ∷ ps) (enumerate-more (n + 1) ys x ∙ ap (λ (m : ℕ). enumerate_from (n + 1) ys ++ (m, x) ∷ []) next)

module _ {X : Type 0} (test : X → Bool) where
  -- the places from n on of those that pass
  abbrev pub places : ℕ → List X → List ℕ
  places n xs = map (λ p. p.0) (filter (λ p. test p.1) (enumerate_from n xs))

  -- one place more, if it passes
  pub places-more : (n : ℕ) (xs : List X) (x : X) → places n (xs ++ x ∷ []) ≡ places n xs ++ cond (test x) ((n + length xs) ∷ []) []
  places-more n xs x =
      ap (λ (ps : List (ℕ × X)). map (λ (p : ℕ × X). p.0) (filter (λ (p : ℕ × X). test p.1) ps)) (enumerate-more n xs x)
      ∙ ap (map (λ (p : ℕ × X). p.0)) (filter-append (λ p. test p.1) (enumerate_from n xs) ((n + length xs, x) ∷ []))
      ∙ map-append (λ (p : ℕ × X). p.0) (filter (λ p. test p.1) (enumerate_from n xs)) (filter (λ p. test p.1) ((n + length xs, x) ∷ []))
      ∙ ap (λ (ps : List ℕ). places n xs ++ ps) (one (test x))
    where
      one : (b : Bool) → map (λ (p : ℕ × X). p.0) (cond b ((n + length xs, x) ∷ []) []) ≡ cond b ((n + length xs) ∷ []) []
      one true = refl
      one false = refl

  -- none is past the end
  below : (n end : ℕ) (xs : List X) → n + length xs ≤ end → AllByRecursion (λ p. p < end) (places n xs)
  below n end [] h = tt
  below n end (x ∷ xs) h = one (test x) (below (n + 1) end xs (omega arith)) where
    one : (b : Bool) → AllByRecursion (λ p. p < end) (places (n + 1) xs) → AllByRecursion (λ p. p < end) (map (λ p. p.0) (cond b ((n, x) ∷ filter (λ p. test p.1) (enumerate_from (n + 1) xs)) (filter (λ p. test p.1) (enumerate_from (n + 1) xs))))
    one true more = (omega arith, more)
    one false more = more

  pub places-below : (xs : List X) → All (λ p. p < length xs) (places 0 xs)
  places-below xs = All-from_recursion (λ p. p < length xs) (places 0 xs) (below 0 (length xs) xs (omega arith))

  -- the first of them is the first that passes
  first_of_all : (n point : ℕ) (xs : List X) → point ≤ n → find (nat_le point) (places n xs) ≡ position_from test n xs
  first_of_all n point [] h = refl
  first_of_all n point (x ∷ xs) h = one (test x) (first_of_all (n + 1) point xs (omega arith)) where
    by : nat_le point n ≡ true
    by = grind (arith, nat_tests)

    one : (b : Bool) → find (nat_le point) (places (n + 1) xs) ≡ position_from test (n + 1) xs
        → find (nat_le point) (map (λ p. p.0) (cond b ((n, x) ∷ filter (λ p. test p.1) (enumerate_from (n + 1) xs)) (filter (λ p. test p.1) (enumerate_from (n + 1) xs)))) ≡ cond b (Some n) (position_from test (n + 1) xs)
    one true more = rw by refl
    one false more = more

  first_from : (n d : ℕ) (xs : List X) → find (nat_le (n + d)) (places n xs) ≡ position_from test (n + d) (drop d xs)
  first_from n zero xs =
      let none : n + 0 ≡ n = omega arith in
      rw none (first_of_all n n xs (omega arith))
  first_from n (suc d) [] = refl
  first_from n (suc d) (x ∷ xs) = one (test x) (first_from (n + 1) d xs) where
    here : find (nat_le (n + 1 + d)) (places (n + 1) xs) ≡ position_from test (n + 1 + d) (drop d xs) → find (nat_le (n + suc d)) (places (n + 1) xs) ≡ position_from test (n + suc d) (drop d xs)
    here more =
        let next : n + 1 + d ≡ n + suc d = omega arith in
        subst (λ (k : ℕ). find (nat_le k) (places (n + 1) xs) ≡ position_from test k (drop d xs)) next more

    one : (b : Bool) → find (nat_le (n + 1 + d)) (places (n + 1) xs) ≡ position_from test (n + 1 + d) (drop d xs)
        → find (nat_le (n + suc d)) (map (λ (p : ℕ × X). p.0) (cond b ((n, x) ∷ filter (λ p. test p.1) (enumerate_from (n + 1) xs)) (filter (λ p. test p.1) (enumerate_from (n + 1) xs)))) ≡ position_from test (n + suc d) (drop d xs)
    one true more =
        let off : nat_le (n + suc d) n ≡ false = grind (arith, nat_tests) in
        rw off (here more)
    one false more = here more

  pub first_place : (point : ℕ) (xs : List X) → find (nat_le point) (places 0 xs) ≡ position_from test point (drop point xs)
  first_place point xs =
      let none : 0 + point ≡ point = omega arith in
      rw none at (first_from 0 point xs)
