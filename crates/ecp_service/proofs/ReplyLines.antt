use Rattle.std.proofs.Common.{◌≡◌, ℕ, List, [], ◌∷◌, ◌++◌, length, take, drop, refl, ap, sym, ◌∙◌, take-append-drop, arith}
use Rattle.hex.specs.Hex.{encode_lower, encode_with}

encode_with-append : (t xs ys : List ℕ) → encode_with t (xs ++ ys) ≡ encode_with t xs ++ encode_with t ys
unfolding encode_with
encode_with-append t [] ys = refl
encode_with-append t (x ∷ xs) ys = grind (arith, encode_with-append t xs ys)

-- bytes that are cut in two
pub encode_split : (rest piece behind : List ℕ) (n : ℕ) → piece ≡ take n rest → behind ≡ drop n rest
    → encode_lower rest ≡ encode_lower piece ++ encode_lower behind
encode_split rest piece behind n front back =
    rw (front, back) (ap encode_lower (sym (take-append-drop n rest)) ∙ encode_with-append _ (take n rest) (drop n rest))

pub encode_none : (xs : List ℕ) → length xs ≡ 0 → encode_lower xs ≡ []
unfolding encode_with
encode_none [] h = refl
encode_none (x ∷ xs) h = absurd (omega arith)
