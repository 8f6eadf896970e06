use Rattle.ecp_link.proofs.Senders.{takes_keeps, none_keeps}
use Rattle.ecp_link.proofs.tests.take.Goals as goal

pub returns-in-Some-pop : goal.returns-in-Some-pop
returns-in-Some-pop g c = λ s h. takes_keeps _ _ _ c.in-Some-pop.ensures.some s (c.loop.invariant s h)

pub loop-preserved : goal.loop-preserved
loop-preserved g c = λ s h. none_keeps _ _ c.in_default.ensures.none s (c.loop.invariant s h)
