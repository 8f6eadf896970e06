-- How the words of a command line spell a command.
use Rattle.std.specs.Prelude.{◌≡◌, ℕ, ◌<◌, ◌≤◌, List, [], ◌∷◌, map, codes, decimal, String, string_bytes}
use Rattle.std.specs.declared.alloc.Global.{Global}
use Rattle.ecp_shape.specs.declared.limits.TheConstants.{MAX_ROWS}
use Rattle.ecp_command.specs.declared.words.commands.Command.{Command}
use Rattle.ecp_command.specs.declared.words.commands.Command.TheVariants.{Run, RunDir, Mend, Check, Soak}

-- the bytes of each word
abbrev pub texts : List (String Global) → List (List ℕ)
texts words = map string_bytes words

-- the code has n rows, k of them data, and this is one of its rows
abbrev pub IsRow : ℕ → ℕ → ℕ → Type 0
IsRow k n row = (1 ≤ k) × (k < n) × (n ≤ MAX_ROWS) × (row < n)

-- the words spell the command
abbrev pub IsSpelled : List (List ℕ) → Command → Type 0
IsSpelled words Run = words ≡ codes "run" ∷ []
IsSpelled words (Mend k n row) = IsRow k n row × (words ≡ codes "mend" ∷ decimal k ∷ decimal n ∷ decimal row ∷ [])
IsSpelled words Check = words ≡ codes "check" ∷ []
IsSpelled words (RunDir path) = ⊥
IsSpelled words (Soak seed) = ⊥
