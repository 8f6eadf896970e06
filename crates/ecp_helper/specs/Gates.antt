-- What a gate is asked.
use Rattle.std.specs.Prelude.{ℕ}

-- may the slice of this attempt of the repair go on at this node
pub record Question : Type 0 where
  pub node : ℕ
  pub repair : ℕ
  pub attempt : ℕ
  pub slice : ℕ
