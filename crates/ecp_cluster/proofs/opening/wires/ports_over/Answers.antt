use Rattle.std.proofs.Common.{◌≡◌, vec_len, arith}
use Rattle.std.proofs.lemmas.List.Elements.{All-pop}
use Rattle.ecp_cluster.proofs.opening.wires.ports_over.Goals as goal

pub loop-preserved : goal.loop-preserved
loop-preserved g c =
    let i = c.loop.invariant in
    record {
      senders = omega (arith, c.in-Some-Some.ensures.cases, i.senders);
      takers = omega (arith, c.in-Some-Some.ensures'.cases, i.takers);
      ports = omega (arith, c.in_ok-push.ensures.len, i.ports);
      each = (All-pop (λ v. vec_len v ≡ g.N.Names.shape.nodes) c.loop.senders.items c.pop.new.self.items c.pop.result c.pop.ensures.items i.each).0;
    }
