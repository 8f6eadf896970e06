use Rattle.std.proofs.Common.{◌≤◌, subst}
use Rattle.ecp_shape.specs.Losses.{losses}
use Rattle.ecp_node.specs.Held.{wipes}
use Rattle.ecp_node.specs.Nodes.{NodeState}
use Rattle.ecp_node.proofs.node.Node.past.Goals as goal

pub returns-clause-lost_first : goal.returns-clause-lost_first
returns-clause-lost_first g c = subst (λ (n : NodeState). wipes n.items ≤ losses n.number n.past) c.self.view_is c.self.invariant.sound.lost_first
