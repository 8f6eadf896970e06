use Rattle.std.proofs.Common.{◌≡◌, replicate}
use Rattle.ecp_catalog.specs.Catalogs.{new_node}
use Rattle.ecp_catalog.proofs.node_list.nodes_up.Given as goal

abbrev pub invariant-loop-node : goal.invariant-loop-node
invariant-loop-node l = l.nodes.items ≡ replicate l._node new_node
