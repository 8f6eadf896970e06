use Rattle.ecp_link.proofs.Delivered.{sends_as}
use Rattle.ecp_link.proofs.by_queue.sender.Sender.push.Goals as goal

pub push_as-requires-clause-rule : goal.push_as-requires-clause-rule
push_as-requires-clause-rule g c = sends_as _ _ _ _ _ _ c.self.invariant.1.knows
