use Rattle.std.proofs.Common.{sym, subst}
use Rattle.std.specs.Option.{IsSome}
use Rattle.ecp_node.specs.Nodes.{NodeState}
use Rattle.ecp_node.proofs.Steps.{spent_inv, can_spend}
use Rattle.ecp_node.proofs.node.Node.spend.Goals as goal

pub invariant_of-self : goal.invariant_of-self
invariant_of-self g c =
    let there : IsSome c.self.inside.fault = subst (λ (n : NodeState). IsSome n.fault) (sym c.self.view_is) c.requires.fault in
    spent_inv g.S.Store g.N.Names.told g.N.Names.stores c.self.inside.past.log c.self.inside.log c.tag.new.self c.self.inside.past.items c.self.inside.fault c.self.inside.store _
    c.self.invariant (cc) (can_spend c.self.inside.fault _ _ there c.self.invariant.sound.spendable)
