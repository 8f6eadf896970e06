use Rattle.std.proofs.Common.{◌∙◌, arith}
use Rattle.ecp_cluster.proofs.opening.links.links.Goals as goal

pub loop-preserved : goal.loop-preserved
loop-preserved g c =
    let i = c.loop.invariant in
    record {
      owners = c.in_ok-deal.ensures.owners ∙ i.owners;
      senders = c.in_ok-deal.ensures.senders c.loop.counter i.senders;
      takers = omega (arith, c.in_ok-push.ensures.len, i.takers);
    }
