-- Bytes with zeros behind them.
use Rattle.std.specs.Prelude.{ℕ, ◌-◌, List, ◌++◌, replicate}
use Rattle.ecp_shape.specs.declared.limits.TheConstants.{MAX_NAME}

-- these len bytes, and zeros behind them up to the length of a name
abbrev pub zero_filled : ℕ → List ℕ → List ℕ
zero_filled len bytes = bytes ++ replicate (MAX_NAME - len) 0
