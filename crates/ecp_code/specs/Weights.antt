use Rattle.std.specs.Prelude.{ℕ, List, [], ◌∷◌, map, ◌==◌, if◌then◌else◌}
use Rattle.ecp_field.specs.Field.{byte_sum, byte_product, byte_quotient}

-- the weight of row j, among these rows, for row t: the product over each other row m of (t + m) / (j + m)
abbrev pub weight : List ℕ → ℕ → ℕ → ℕ
weight [] j t = 1
weight (m ∷ rows) j t =
    if m == j then weight rows j t
    else byte_product (byte_quotient (byte_sum t m) (byte_sum j m)) (weight rows j t)

-- the weight of each of these rows, in their order, for row t
abbrev pub weights : List ℕ → ℕ → List ℕ
weights rows t = map (λ j. weight rows j t) rows
