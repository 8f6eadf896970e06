-- Words on a line.
use Rattle.std.specs.Prelude.{ℕ, List, ◌∷◌, flat_map}
use Rattle.ecp_text.specs.declared.bytes.TheConstants.{SPACE}

-- some words, each behind a space
abbrev pub spaced : List (List ℕ) → List ℕ
spaced words = flat_map (λ word. SPACE ∷ word) words
