-- The lines of a text, and the line between the head of an input and its script.
use Rattle.std.specs.Prelude.{◌≡◌, ◌≢◌, ℕ, ◌+◌, ◌==◌, if◌then◌else◌, not, Bool, true, List, [], ◌∷◌, ◌++◌, length, filter, codes}
use Rattle.std.specs.List.{flat_map, enumerate_from, AllByRecursion}

-- the byte that ends a line
abbrev pub line_feed : ℕ
line_feed = 10

-- the lines with a byte in front of the first
abbrev pub with_front : ℕ → List (List ℕ) → List (List ℕ)
with_front b [] = (b ∷ []) ∷ []
with_front b (line ∷ rest) = (b ∷ line) ∷ rest

-- the lines of a text: a line feed ends a line, and one at the very end opens no further line
unfoldable pub lines : List ℕ → List (List ℕ)
lines [] = []
lines (b ∷ bs) = if b == line_feed then [] ∷ lines bs else with_front b (lines bs)

-- the text of lines that each have their end
abbrev pub text_of : List (List ℕ) → List ℕ
text_of ls = flat_map (λ line. line ++ line_feed ∷ []) ls

-- the line behind the head
abbrev pub rule : List ℕ
rule = codes "---"

-- the byte that begins a comment
abbrev pub hash : ℕ
hash = 35

-- an empty line and a comment say nothing
abbrev pub is_skipped : List ℕ → Bool
is_skipped [] = true
is_skipped (b ∷ bs) = b == hash

-- the lines that are not skipped, each with its number, the first line having this one
abbrev pub numbered : ℕ → List (List ℕ) → List (ℕ × List ℕ)
numbered n ls = filter (λ line. not (is_skipped line.1)) (enumerate_from n ls)

-- the text of the head, and what the script has on which line
pub record Parts : Type 0 where
  pub head : List ℕ
  pub script : List (ℕ × List ℕ)

-- The head is what stands before the first rule, and the script what stands after it. Lines are numbered from 1.
pub record ArePartsOf (input : List ℕ) (parts : Parts) : Type 0 where
  pub before : List (List ℕ)
  pub after : List (List ℕ)
  pub whole : lines input ≡ before ++ rule ∷ after
  pub first : AllByRecursion (λ line. line ≢ rule) before
  pub head : parts.head ≡ text_of before
  pub script : parts.script ≡ numbered (length before + 2) after

-- no line of the input is the rule
abbrev pub HasNoRule : List ℕ → Type 0
HasNoRule input = AllByRecursion (λ line. line ≢ rule) (lines input)
