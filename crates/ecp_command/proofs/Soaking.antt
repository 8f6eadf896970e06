-- The calls of a session of the input that a number makes, file after file.
use Rattle.std.proofs.Common.{◌≡◌, ℕ, ◌+◌, ◌-◌, ◌*◌, ◌≤◌, List, [], ◌∷◌, ◌++◌, map, refl, sym, ◌∙◌, ap, arith, append_assoc}
use Rattle.std.specs.List.{range_with_len}
use Rattle.std.proofs.lemmas.List.{map-append}
use Rattle.ecp_command.specs.declared.input.planned.Planned.{Planned}
use Rattle.ecp_command.proofs.Inputs.Gathering.{range_more}

-- one call more, of the next file
pub files_more : (call : ℕ → Planned) (old calls new : List Planned) (first file : ℕ) (p : Planned) → first ≤ file → p ≡ call file → calls ≡ old ++ map call (range_with_len first (file - first)) → new ≡ calls ++ p ∷ []
    → new ≡ old ++ map call (range_with_len first (file + 1 - first))
files_more call old calls new first file p low is have one =
    let more : file + 1 - first ≡ (file - first) + 1 = omega (arith, low) in
    let at : first + (file - first) ≡ file = omega (arith, low) in
    let files : map call (range_with_len first (file + 1 - first)) ≡ map call (range_with_len first (file - first)) ++ p ∷ [] =
    ap (λ (n : ℕ). map call (range_with_len first n)) more ∙ ap (map call) (range_more first (file - first)) ∙ map-append call (range_with_len first (file - first)) ((first + (file - first)) ∷ [])
    ∙ ap (λ (n : ℕ). map call (range_with_len first (file - first)) ++ call n ∷ []) at ∙ ap (λ (x : Planned). map call (range_with_len first (file - first)) ++ x ∷ []) (sym is) in
    one ∙ ap (λ (xs : List Planned). xs ++ p ∷ []) have ∙ append_assoc old (map call (range_with_len first (file - first))) (p ∷ []) ∙ ap (λ (xs : List Planned). old ++ xs) (sym files)
