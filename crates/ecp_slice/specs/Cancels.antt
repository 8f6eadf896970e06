-- Handles on cancel words, and what their calls find and leave.
use Rattle.std.specs.Prelude.{◌≡◌, ℕ, ◌≤◌, ◌==◌, Bool, true, false, if◌then◌else◌, List, [], ◌∷◌, ◌++◌}
use Rattle.atomic_table.specs.Seated.{TableId}
use Rattle.ecp_slice.specs.declared.reasons.TheConstants.{HELPER_LOST, CALL_ENDED}

-- what a handle has: which word, what it knows of the word (0 or a reason), whether a `set` of this very handle changed the word, and the word as each of its steps found it, the oldest first
pub record Cancelling : Type 0 where
  pub word : TableId
  pub known : ℕ
  pub wrote : Bool
  pub looks : List ℕ

-- a handle that has not taken a step on its word, which is new
pub record IsNew (c : Cancelling) : Type 0 where
  pub known : c.known ≡ 0
  pub wrote : c.wrote ≡ false
  pub looks : c.looks ≡ []

-- another handle on the same word, which knows the same
abbrev pub copied : Cancelling → Cancelling
copied c = record { word = c.word; known = c.known; wrote = false; looks = [] }

-- what a step may find: 0 or a reason, and where the handle knows a reason, just that
pub record Finds (known found : ℕ) : Type 0 where
  pub in_range : found ≤ CALL_ENDED
  pub for_good : HELPER_LOST ≤ known → found ≡ known

-- the word after an exchange of 0 for the reason, which found this
abbrev pub word_after : ℕ → ℕ → ℕ
word_after reason found = if found == 0 then reason else found

-- the handle after a `set` to the reason, which found this: it wrote where that was 0
abbrev pub after_set : Cancelling → ℕ → ℕ → Cancelling
after_set c reason found = record { word = c.word; known = word_after reason found; wrote = if found == 0 then true else c.wrote; looks = c.looks ++ found ∷ [] }

-- the handle after a `read` that found this
abbrev pub after_read : Cancelling → ℕ → Cancelling
after_read c found = record { word = c.word; known = found; wrote = c.wrote; looks = c.looks ++ found ∷ [] }
