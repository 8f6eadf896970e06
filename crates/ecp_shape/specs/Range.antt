-- The range of a shape.
use Rattle.std.specs.Prelude.{ℕ, ◌<◌, ◌≤◌}
use Rattle.ecp_shape.specs.declared.limits.TheConstants.{MAX_ROWS, MAX_NODES, MAX_BLOCK}
use Rattle.ecp_shape.specs.declared.shape.Shape.{Shape}

-- the sizes keep their limits
pub record IsInRange (shape : Shape) : Type 0 where
  pub data_rows : 1 ≤ shape.k
  pub parity_rows : shape.k < shape.n
  pub at_most : shape.n ≤ MAX_ROWS
  pub enough : shape.n ≤ shape.nodes
  pub few : shape.nodes ≤ MAX_NODES
  pub some : 1 ≤ shape.block
  pub short : shape.block ≤ MAX_BLOCK
