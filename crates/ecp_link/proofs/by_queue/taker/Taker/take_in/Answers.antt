use Rattle.ecp_link.proofs.Delivered.{ends_as, takes_as, begins_told}
use Rattle.ecp_link.proofs.by_queue.taker.Taker.take_in.Goals as goal

pub absorb-requires-clause-rule : goal.absorb-requires-clause-rule
absorb-requires-clause-rule g c = ends_as _ _ _ _ _ _ _ c.self.invariant.1 c.sender.invariant.1.knows

pub learn_as-requires-clause-rule : goal.learn_as-requires-clause-rule
learn_as-requires-clause-rule g c = (takes_as _ _ _ c.absorb.ensures.rule).1

pub returns-clause-beginning : goal.returns-clause-beginning
returns-clause-beginning g c = begins_told _ _ _ c.learn_as.ensures.queue.1 c.learn_as.ensures.rule
