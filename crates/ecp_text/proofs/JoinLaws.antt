-- Words joined by spaces.
use Rattle.std.proofs.Common.{◌≡◌, ℕ, List, [], ◌∷◌, ◌++◌, sym, ap, append-nil, append_assoc}
use Rattle.std.specs.List.{join_with_byte}
use Rattle.ecp_text.specs.declared.bytes.TheConstants.{SPACE}
use Rattle.ecp_text.specs.Words.{spaced}

-- the first word, and the others each behind a space
pub join-spaced : (w : List ℕ) (ws : List (List ℕ)) → join_with_byte SPACE (w ∷ ws) ≡ w ++ spaced ws
join-spaced w [] = sym (append-nil w)
join-spaced w (v ∷ ws) = ap (λ (xs : List ℕ). w ++ SPACE ∷ xs) (join-spaced v ws)

-- a word put behind others, and then more
pub put_spaced : (xs w : List ℕ) (ws : List (List ℕ)) → (xs ++ SPACE ∷ w) ++ spaced ws ≡ xs ++ spaced (w ∷ ws)
put_spaced xs w ws = append_assoc xs (SPACE ∷ w) (spaced ws)
