-- What is kept of the positions of a node's losses.
use Rattle.std.specs.Prelude.{ℕ, ◌+◌, ◌≤◌, List}
use Rattle.std.specs.List.Sorted.{IsStrictlyIncreasing}

-- they rise, and there is room for so many more
pub record AreLosses (losses : List ℕ) (len spare cap : ℕ) : Type 0 where
  pub rising : IsStrictlyIncreasing losses
  pub room : len + spare ≤ cap
