-- Turns of nodes to help, as numbers, and the next of some numbers.
use Rattle.std.specs.Prelude.{◌≡◌, ℕ, ◌+◌, ◌*◌, ◌<◌, ◌≤◌, ◌⊎◌, Bool, true, ◌&&◌, if◌then◌else◌, nat_lt, nat_le, Option, Some, None, List, slice_index, All, Any, IfSome}
use Rattle.ecp_plan.specs.declared.turn.Turn.{Turn}
use Rattle.ecp_plan.specs.declared.live_row.LiveRow.{LiveRow}

-- a number that is smaller for an earlier turn: the number of a node is a byte
abbrev pub number : Turn → ℕ
number turn = turn.stamp * 256 + turn.node

-- the number of the turn of the node that a row is live on
abbrev pub turn_of : List ℕ → LiveRow → ℕ
turn_of stamps x = slice_index stamps x.node * 256 + x.node

-- the first number past a turn, or 0 where there is none
abbrev pub turn_end : Option Turn → ℕ
turn_end (Some turn) = number turn + 1
turn_end None = 0

-- the first number past a row, or 0 where there is none
abbrev pub row_end : Option ℕ → ℕ
row_end (Some row) = row + 1
row_end None = 0

-- whether it is the turn of a row's node by the last turn that is taken, if there is one
abbrev pub is_taken : List ℕ → Option Turn → LiveRow → Bool
is_taken stamps last x = nat_lt (turn_of stamps x) (turn_end last)

-- a number is not below the one found
abbrev pub IsNotBelow : Option ℕ → ℕ → Type 0
IsNotBelow (Some found) n = found ≤ n
IsNotBelow None n = ⊥

-- whether a number is below the one found, if there is one
abbrev pub is_below : ℕ → Option ℕ → Bool
is_below n (Some found) = nat_lt n found
is_below n None = true

-- what is found with one more number: that number where it is not below `from` and below the one found
abbrev pub nearer : Option ℕ → ℕ → ℕ → Option ℕ
nearer found from n = if nat_le from n && is_below n found then Some n else found

-- what was found is the least number, from this one on, that a live row which passes the test has
pub record IsNext (test : LiveRow → Bool) (key : LiveRow → ℕ) (live : List LiveRow) (from : ℕ) (found : Option ℕ) : Type 0 where
  pub least : All (λ x. test x ≡ true → (key x < from) ⊎ IsNotBelow found (key x)) live
  pub there : IfSome found (λ n. (from ≤ n) × Any (λ x. (test x ≡ true) × (key x ≡ n)) live)
