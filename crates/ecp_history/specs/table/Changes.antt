-- What must hold of an entry for a table to change by it.
use Rattle.std.specs.Prelude.{◌≡◌, ℕ, ◌+◌, ◌^◌, ◌<◌, ◌≤◌, List, length, All, IsSome, ⊤}
use Rattle.ecp_code.specs.Stripes.{stripes}
use Rattle.ecp_entry.specs.declared.act.Act.{Act}
use Rattle.ecp_entry.specs.declared.act.Act.TheVariants.{Stored, Lost, Joined, Restored, Drop}
use Rattle.ecp_entry.specs.declared.entry.Entry.{Entry}
use Rattle.ecp_shape.specs.declared.shape.Shape.{Shape}
use Rattle.ecp_history.specs.table.Placement.{nodes_in}
use Rattle.ecp_history.specs.Named.{OfNode}
use Rattle.ecp_history.specs.table.Tables.{PlainTable, standing_of, inc_of}

-- a file may be stored: the mask has at least n nodes and no other, and the stripe numbers are those of its data
pub record CanStore (shape : Shape) (bytes : List ℕ) (first count up : ℕ) : Type 0 where
  pub enough : shape.n ≤ length (nodes_in up)
  pub nodes : All (λ m. m < shape.nodes) (nodes_in up)
  pub counted : count ≡ length (stripes shape.k shape.block bytes)
  pub numbers : first + count < 2 ^ 32

-- the node comes up in its next incarnation
pub record CanJoin (shape : Shape) (t : PlainTable) (inc node : ℕ) : Type 0 where
  pub there : node < shape.nodes
  pub next : inc ≡ inc_of t node + 1

-- each node, stripe and row that an act changes is there
abbrev pub CanChange : Shape → PlainTable → Entry → Act → Type 0
CanChange shape t e (Stored first stripes up) = CanStore shape e.bytes first stripes up
CanChange shape t e (Lost count) = OfNode e.deed (λ node. node < shape.nodes)
CanChange shape t e (Joined inc) = OfNode e.deed (CanJoin shape t inc)
CanChange shape t e (Restored stripe row node inc) = IsSome (standing_of t stripe row) × (node < shape.nodes)
CanChange shape t e (Drop stripe row) = IsSome (standing_of t stripe row)
CanChange shape t e _ = ⊤
