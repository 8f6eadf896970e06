use Rattle.std.proofs.Common.{◌≡◌, ◌∙◌, ℕ, ◌+◌, ◌-◌, ap, subst, arith}
use Rattle.ecp_book.specs.Logs.{Known}
use Rattle.ecp_coord.specs.Coords.{AreNodeLogs}
use Rattle.ecp_cluster.specs.Opening.{AreStarts}
use Rattle.ecp_cluster.proofs.opening.seating.seat_all.Goals as goal

pub loop-seated-preserved : goal.loop-seated-preserved
loop-seated-preserved g c =
    let i = c.loop-seated.invariant in
    let number : c.args.shape.nodes - 1 - c.loop-seated.seated ≡ c.args.shape.nodes - (c.loop-seated.seated + 1) = omega arith in
    record {
      past = ap (λ (k : Known). k.log) c.last_node-node.ensures.past ∙ i.past;
      keepers = subst (λ (n : ℕ). AreNodeLogs n c.last_node-node.new.keepers.items) number c.last_node-node.ensures.keepers;
      stores = subst (λ (n : ℕ). AreStarts g.S.Store.faults g.S.Store.faultless g.N.Names.stores n c.last_node-node.new.stores.items) number c.last_node-node.ensures.stores;
      takers = omega (arith, c.last_helper.ensures.takers, i.takers);
      to_nodes = omega (arith, c.last_helper.ensures.to_nodes, i.to_nodes);
      to_homes = omega (arith, c.last_helper.ensures.to_homes, i.to_homes);
      helpers = omega (arith, c.push_reserved.ensures.len, i.helpers);
      room = omega (arith, c.push_reserved.ensures.capacity, i.room);
      back = c.last_node-node.ensures.room ∙ i.back;
    }
