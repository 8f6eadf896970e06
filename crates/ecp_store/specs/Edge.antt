-- What contracts see of a source over a reader, and of a sink over a writer.
use Rattle.std.specs.Prelude.{ℕ, Bool}

-- the reader, whether its end was reached, and how often it failed
pub record StdSourceState (R : Type 0) : Type 0 where
  pub reader : R
  pub ended : Bool
  pub faults : ℕ

-- the writer, and how often it failed
pub record StdSinkState (W : Type 0) : Type 0 where
  pub writer : W
  pub faults : ℕ
