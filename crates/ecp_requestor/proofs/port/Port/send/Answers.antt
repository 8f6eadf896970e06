use Rattle.std.proofs.Common.{◌<◌, sym, ◌∙◌, arith}
use Rattle.ecp_requestor.proofs.Stops.{to_node}
use Rattle.ecp_requestor.proofs.port.Port.send.Goals as goal

pub index_mut-sender-requires : goal.index_mut-sender-requires
index_mut-sender-requires g c =
    let within : c.in-Node.node < g.N.Names.shape.nodes = to_node g.N.Names.shape g.N.Names.told _ c.in-Node.node c.next.ensures.sound (sym c.next.ensures.next ∙ c.in-Node.is) in
    omega (arith, within, c.from.ensures, c.self.invariant, c.self.inside.to_nodes.ok.0)
