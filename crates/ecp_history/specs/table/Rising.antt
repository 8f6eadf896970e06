-- Stripes in order.
use Rattle.std.specs.Prelude.{ℕ, ◌<◌, List, [], ◌∷◌, ⊤}
use Rattle.std.specs.List.{AllByRecursion}
use Rattle.ecp_history.specs.table.Tables.{Stripe}

-- each stripe has a lower number than those behind it
abbrev pub IsRising : List Stripe → Type 0
IsRising [] = ⊤
IsRising (x ∷ xs) = AllByRecursion (λ y. x.number < y.number) xs × IsRising xs

-- each stripe has a number below this one
abbrev pub AllBelow : ℕ → List Stripe → Type 0
AllBelow n xs = AllByRecursion (λ y. y.number < n) xs

-- each stripe has a number above this one
abbrev pub AllAbove : ℕ → List Stripe → Type 0
AllAbove n xs = AllByRecursion (λ y. n < y.number) xs
