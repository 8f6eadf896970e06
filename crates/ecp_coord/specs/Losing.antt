-- What is found by losing a node, and what it changes.
use Rattle.std.specs.Prelude.{ℕ, ◌<◌, ◌≤◌, nat_lt, if◌then◌else◌, All, ⊤}
use Rattle.ecp_shape.specs.declared.shape.Shape.{Shape}
use Rattle.ecp_entry.specs.declared.act.Act.{Act}
use Rattle.ecp_entry.specs.declared.act.Act.TheVariants as act
use Rattle.ecp_history.specs.table.Tables.{PlainTable, is_up, live_on}
use Rattle.ecp_catalog.specs.Catalogs.{CatalogState, changed_at, lost_at, losses_of, spare_of}
use Rattle.ecp_coord.specs.declared.node_act.NodeAct.{NodeAct}
use Rattle.ecp_coord.specs.declared.node_act.NodeAct.TheVariants.{Lost, Joined, NoSuchNode, NodeDown, NodeUp}

-- the act that says so in the history
abbrev pub act_of : NodeAct → Act
act_of (Lost count) = act.Lost count
act_of (Joined inc) = act.Joined inc
act_of NoSuchNode = act.NoSuchNode
act_of NodeDown = act.NodeDown
act_of NodeUp = act.NodeUp

-- by the table before it: no such node, where its number is that of none; down, where it is not up; else it is lost, with its live blocks
abbrev pub found_by_losing : Shape → PlainTable → ℕ → NodeAct
found_by_losing shape t m = if nat_lt m shape.nodes then (if is_up t m then Lost (live_on t m) else NodeDown) else NoSuchNode

-- the catalog can lose the node at a position, where it is to
abbrev pub CanLose : CatalogState → NodeAct → ℕ → ℕ → Type 0
CanLose c (Lost count) m position = (m < c.shape.nodes) × (1 ≤ spare_of c.nodes m) × All (λ p. p < position) (losses_of c.nodes m)
CanLose c _ m position = ⊤

-- the catalog after it: only a node that was lost changes
abbrev pub after_losing : NodeAct → ℕ → ℕ → CatalogState → CatalogState
after_losing (Lost count) m position c = record c { nodes = changed_at (lost_at position) m c.nodes }
after_losing _ m position c = c
