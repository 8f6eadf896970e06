use Rattle.ecp_link.proofs.Delivered.{makes_as}
use Rattle.ecp_link.proofs.by_queue.taker.Taker.next_sender.Goals as goal

pub another-pass-requires-clause-rule : goal.another-pass-requires-clause-rule
another-pass-requires-clause-rule g c = makes_as _ _ _ c.self.invariant.1
