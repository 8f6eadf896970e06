-- What is found by joining a node, and what it changes.
use Rattle.std.specs.Prelude.{◌≡◌, ℕ, ◌+◌, ◌^◌, ◌<◌, nat_lt, false, if◌then◌else◌, ⊤}
use Rattle.ecp_shape.specs.declared.shape.Shape.{Shape}
use Rattle.ecp_history.specs.table.Tables.{PlainTable, inc_of, is_up}
use Rattle.ecp_catalog.specs.Catalogs.{CatalogState, changed_at, joined_node, plain}
use Rattle.ecp_coord.specs.declared.node_act.NodeAct.{NodeAct}
use Rattle.ecp_coord.specs.declared.node_act.NodeAct.TheVariants.{Joined, NoSuchNode, NodeUp}

-- by the table before it: no such node, where its number is that of none; up, where it is up; else it comes up in its next incarnation
abbrev pub found_by_joining : Shape → PlainTable → ℕ → NodeAct
found_by_joining shape t m = if nat_lt m shape.nodes then (if is_up t m then NodeUp else Joined (inc_of t m + 1)) else NoSuchNode

-- a node that is there and not up has a next incarnation: a number of 32 bits
abbrev pub HasNext : CatalogState → ℕ → Type 0
HasNext c m = m < c.shape.nodes → is_up (plain c) m ≡ false → inc_of (plain c) m + 1 < 2 ^ 32

-- the node can come up in the catalog, where it is to
abbrev pub CanJoin : CatalogState → NodeAct → ℕ → Type 0
CanJoin c (Joined inc) m = (m < c.shape.nodes) × (inc_of (plain c) m + 1 < 2 ^ 32)
CanJoin c _ m = ⊤

-- the catalog after it: only a node that came up changes
abbrev pub after_joining : NodeAct → ℕ → CatalogState → CatalogState
after_joining (Joined inc) m c = record c { nodes = changed_at joined_node m c.nodes }
after_joining _ m c = c
