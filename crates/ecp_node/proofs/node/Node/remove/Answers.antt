use Rattle.std.proofs.Common.{eqb}
use Rattle.std.specs.HashMap as hash
use Rattle.ecp_node.proofs.Steps.{removed_inv, counted_moves, leaves_others}
use Rattle.ecp_node.proofs.node.Node.remove.Goals as goal

pub invariant_of-self-then-contains_key : goal.invariant_of-self-then-contains_key
invariant_of-self-then-contains_key g c =
    let asked = c.remove-then-contains_key-2.ensures in
    let old = c.self.inside.store in
    let new = c.remove-then-contains_key-2.new.self in
    removed_inv g.S.Store g.N.Names.told g.N.Names.stores c.self.inside.past.log c.self.inside.log c.remove-then-contains_key.new.self c.self.inside.past.items c.self.inside.fault
    c.key-key.result.serial old new (hash.get eqb c.self.inside.index) (hash.get eqb c.remove.new.self) c.self.invariant
    (cc) (counted_moves g.S.Store c.remove-then-contains_key-2.result old new asked.counts asked.same asked.faultless) c.remove.ensures.updates.0
    (λ tells. leaves_others c.remove-then-contains_key-2.result c.key-key.result (g.S.Store.held old) (g.S.Store.held new) (asked.ok tells) (asked.err tells))
