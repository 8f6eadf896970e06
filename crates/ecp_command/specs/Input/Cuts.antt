-- A text that a byte divides.
use Rattle.std.specs.Prelude.{◌≡◌, ◌≢◌, ℕ, List, ◌∷◌, ◌++◌}
use Rattle.std.specs.List.{AllByRecursion}

-- the byte is nowhere in the text
abbrev pub IsClear : ℕ → List ℕ → Type 0
IsClear byte text = AllByRecursion (λ b. b ≢ byte) text

-- the first such byte of the text is between these two
pub record IsCut (byte : ℕ) (text front rest : List ℕ) : Type 0 where
  pub whole : text ≡ front ++ byte ∷ rest
  pub clear : IsClear byte front
