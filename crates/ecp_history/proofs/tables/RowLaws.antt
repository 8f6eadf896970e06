-- A row that is changed.
use Rattle.std.proofs.Common.{◌≡◌, ℕ, zero, suc, ◌<◌, ◌≤◌, List, [], ◌∷◌, length, get_or, set, refl, ap, arith}
use Rattle.ecp_history.specs.table.Tables.{Standing}
use Rattle.ecp_history.specs.table.Steps.{change_row}

-- a row that is there
pub change_row-set : (change : Standing → Standing) (r : ℕ) (xs : List Standing) (d : Standing) → r < length xs → change_row change r xs ≡ set xs r (change (get_or xs r d))
change_row-set change r [] d h = absurd (omega arith)
change_row-set change zero (x ∷ xs) d h = refl
change_row-set change (suc r) (x ∷ xs) d h = ap (λ (ys : List Standing). x ∷ ys) (change_row-set change r xs d (omega arith))

-- a row that is not there
pub change_row-past : (change : Standing → Standing) (r : ℕ) (xs : List Standing) → length xs ≤ r → change_row change r xs ≡ xs
change_row-past change r [] h = refl
change_row-past change zero (x ∷ xs) h = absurd (omega arith)
change_row-past change (suc r) (x ∷ xs) h = ap (λ (ys : List Standing). x ∷ ys) (change_row-past change r xs (omega arith))
