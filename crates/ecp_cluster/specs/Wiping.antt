-- When a node is wiped that was lost.
use Rattle.std.specs.Prelude.{◌≡◌, ℕ, ◌<◌, ◌≤◌, length, ⊤}
use Rattle.ecp_shape.specs.Losses.{losses}
use Rattle.ecp_book.specs.Logs.{Log}
use Rattle.ecp_node.specs.declared.limits.TheConstants.{MAX_LOSSES}
use Rattle.ecp_node.specs.Held.{wipes}
use Rattle.ecp_node.specs.Nodes.{NodeState, after_wipe}
use Rattle.ecp_coord.specs.declared.node_act.NodeAct.{NodeAct}
use Rattle.ecp_coord.specs.declared.node_act.NodeAct.TheVariants.{Lost}

-- the front has a loss for which the node was not wiped yet, where the node has this number
abbrev pub MayWipe : ℕ → Log → NodeState → Type 0
MayWipe number front node = node.number ≡ number → wipes node.items < losses number front

-- it has one after a loss
abbrev pub MayWipeAfter : NodeAct → ℕ → Log → NodeState → Type 0
MayWipeAfter (Lost count) number front node = MayWipe number front node
MayWipeAfter _ number front node = ⊤

-- the node is wiped for the losses in the front, where it has this number and the front is no longer than it may have losses
abbrev pub IsWiped : ℕ → Log → NodeState → NodeState → Type 0
IsWiped number front old new = old.number ≡ number → length front ≤ MAX_LOSSES → new ≡ after_wipe old front new.store_faults

-- after a loss it is, and else it stays
abbrev pub IsWipedAfter : NodeAct → ℕ → Log → NodeState → NodeState → Type 0
IsWipedAfter (Lost count) number front old new = IsWiped number front old new
IsWipedAfter _ number front old new = new ≡ old
