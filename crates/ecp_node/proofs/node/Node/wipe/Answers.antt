use Rattle.std.proofs.Common.{◌<◌, ◌∙◌, ap, sym, subst}
use Rattle.ecp_shape.specs.Losses.{losses}
use Rattle.ecp_node.specs.Held.{wipes}
use Rattle.ecp_node.specs.Nodes.{NodeState}
use Rattle.ecp_node.proofs.Steps.{wiped_inv, removing_moves}
use Rattle.ecp_node.proofs.node.Node.wipe.Goals as goal

pub invariant_of-self : goal.invariant_of-self
invariant_of-self g c =
    let kept = c.replace-old.ensures.after in
    let lost = subst (λ (n : NodeState). wipes n.items < losses n.number c.args.past.items) (sym c.self.view_is) c.requires.lost in
    wiped_inv g.S.Store g.N.Names.told g.N.Names.stores c.self.inside.past.log c.replace-old.new.dest.log c.self.inside.log c.wipe.new.self c.self.inside.past.items c.replace-old.new.dest.items
    c.self.inside.fault _ c.self.inside.store c.remove_all.new.store _ _ c.self.invariant
    (ap (λ k. k.log) kept ∙ c.requires.past) c.wipe.ensures (removing_moves g.S.Store _ _ c.remove_all.ensures.nothing) c.remove_all.ensures.empty
    (subst (λ (k : _). wipes c.self.inside.log.items < losses c.self.inside.log.node k.items) (sym kept) lost)
