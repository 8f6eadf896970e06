-- A tie: two logs with one list, of which each of two sides keeps one and hears the other.
use Rattle.std.specs.Prelude.{ℕ, ◌≡◌, List, [], ◌∷◌, ◌++◌}
use Rattle.ecp_book.specs.Logs.{Log}

-- one end of a tie: the log that it adds to, the log that it hears, and their list
pub record TieState : Type 0 where
  pub speaks : ℕ
  pub hears : ℕ
  pub items : Log

-- these are the two ends of one tie: each hears what the other speaks
pub record AreEnds (a b : TieState) : Type 0 where
  pub one : a.hears ≡ b.speaks
  pub other : b.hears ≡ a.speaks

-- an end of a tie that has said nothing
abbrev pub new_end : ℕ → ℕ → TieState
new_end speaks hears = record { speaks = speaks; hears = hears; items = [] }

-- the end with one more item
abbrev pub with_item : TieState → List ℕ → TieState
with_item tie item = record { speaks = tie.speaks; hears = tie.hears; items = tie.items ++ item ∷ [] }
