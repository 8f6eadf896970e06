-- How many slices are there.
use Rattle.std.proofs.Common.{◌≡◌, ℕ, zero, suc, ◌+◌, ◌<◌, ◌≤◌, Bool, true, false, cond, List, [], ◌∷◌, length, get_or, replicate, refl, sym, ◌∙◌, ap, arith}
use Rattle.std.specs.Prelude.{All, IsTrue, count_by}
use Rattle.std.proofs.Math.ListN.{set}
use Rattle.std.proofs.lemmas.List.Sums.{count_by-le-length, sum_by-cons}
use Rattle.std.proofs.lemmas.List.Elements.{All-head, All-tail}

-- how many of these are so
abbrev pub so_many : List Bool → ℕ
so_many xs = count_by (λ x. x) xs

more : (xs : List Bool) → so_many (true ∷ xs) ≡ 1 + so_many xs
more xs = sum_by-cons (λ (x : Bool). cond x 1 0) true xs

no_more : (xs : List Bool) → so_many (false ∷ xs) ≡ so_many xs
no_more xs = let step : so_many (false ∷ xs) ≡ 0 + so_many xs = sum_by-cons (λ (x : Bool). cond x 1 0) false xs in omega (arith, step)

few : (xs : List Bool) → so_many xs ≤ length xs
few xs = count_by-le-length (λ x. x) xs

pub all_so : (xs : List Bool) → so_many xs ≡ length xs → All IsTrue xs
all_so [] e k d within = absurd (omega arith)
all_so (true ∷ xs) e zero d within = refl
all_so (true ∷ xs) e (suc k) d within = all_so xs (omega (arith, more xs)) k d (omega arith)
all_so (false ∷ xs) e k d within = absurd (omega (arith, few xs, no_more xs))

pub so_all : (xs : List Bool) → All IsTrue xs → so_many xs ≡ length xs
so_all [] all = refl
so_all (true ∷ xs) all = let rest : so_many xs ≡ length xs = so_all xs (All-tail IsTrue true xs all) in omega (arith, rest, more xs)
so_all (false ∷ xs) all = absurd (cc (All-head IsTrue false xs all))

pub none_so : (n : ℕ) → so_many (replicate n false) ≡ 0
none_so zero = refl
none_so (suc n) = no_more (replicate n false) ∙ none_so n

-- one more is so
pub one_more : (xs : List Bool) (i : ℕ) → i < length xs → get_or xs i false ≡ false → so_many (set xs i true) ≡ so_many xs + 1
one_more [] i within was = absurd (omega arith)
one_more (true ∷ xs) zero within was = absurd (cc was)
one_more (false ∷ xs) zero within was = more xs ∙ omega (arith, no_more xs)
one_more (true ∷ xs) (suc i) within was = let rest : so_many (set xs i true) ≡ so_many xs + 1 = one_more xs i (omega arith) was in omega (arith, rest, more (set xs i true), more xs)
one_more (false ∷ xs) (suc i) within was = no_more (set xs i true) ∙ one_more xs i (omega arith) was ∙ ap (λ (n : ℕ). n + 1) (sym (no_more xs))
