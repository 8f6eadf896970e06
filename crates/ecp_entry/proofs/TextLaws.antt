-- Words joined by spaces.
use Rattle.std.proofs.Common.{◌≡◌, ℕ, List, ◌∷◌, ◌++◌, sym, ◌∙◌, ap, append_assoc}
use Rattle.std.specs.List.{join_with_byte}
use Rattle.ecp_text.specs.declared.bytes.TheConstants.{SPACE}
use Rattle.ecp_text.specs.Words.{spaced}
use Rattle.ecp_text.proofs.JoinLaws.{join-spaced, put_spaced}

-- behind a text, five words put one behind another, and then the others
pub five_words : (t a b c d e : List ℕ) (ws : List (List ℕ))
    → (((((t ++ a) ++ SPACE ∷ b) ++ SPACE ∷ c) ++ SPACE ∷ d) ++ SPACE ∷ e) ++ spaced ws ≡ t ++ join_with_byte SPACE (a ∷ b ∷ c ∷ d ∷ e ∷ ws)
five_words t a b c d e ws =
    put_spaced ((((t ++ a) ++ SPACE ∷ b) ++ SPACE ∷ c) ++ SPACE ∷ d) e ws
    ∙ put_spaced (((t ++ a) ++ SPACE ∷ b) ++ SPACE ∷ c) d (e ∷ ws)
    ∙ put_spaced ((t ++ a) ++ SPACE ∷ b) c (d ∷ e ∷ ws)
    ∙ put_spaced (t ++ a) b (c ∷ d ∷ e ∷ ws)
    ∙ append_assoc t a (spaced (b ∷ c ∷ d ∷ e ∷ ws))
    ∙ ap (λ (xs : List ℕ). t ++ xs) (sym (join-spaced a (b ∷ c ∷ d ∷ e ∷ ws)))
