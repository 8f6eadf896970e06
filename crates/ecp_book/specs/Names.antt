-- What the name of a service states.
use Rattle.std.specs.Prelude.{ℕ, List, [], Bool}
use Rattle.atomic_table.specs.Seated.{TableId}
use Rattle.ecp_shape.specs.declared.shape.Shape.{Shape}

-- a node's store at the making of the node: its count of faults, and whether it is faultless
pub record StoreStart : Type 0 where
  pub faults : ℕ
  pub faultless : Bool

-- a name, as its bytes, with the most file blocks that a put of it has
pub record PutBound : Type 0 where
  pub name : List ℕ
  pub blocks : ℕ

-- what a name states before a call picks it
abbrev pub no_book : TableId
no_book = record { words = 0; slots = 0; views_name = 0; atom = 0; block = 0; offset = 0; slot_names = [] }

abbrev pub no_shape : Shape
no_shape = record { n = 0; k = 0; nodes = 0; block = 0 }
