use Rattle.crossbeam_queue.specs.Passes.{view}
use Rattle.ecp_link.proofs.Order.{if_none}
use Rattle.ecp_link.proofs.Delivered.{takes_as, takes_told, nothing_told}
use Rattle.ecp_link.proofs.by_queue.taker.Taker.pop.Goals as goal

pub pop_as-requires-clause-rule : goal.pop_as-requires-clause-rule
pop_as-requires-clause-rule g c = takes_as _ _ _ c.self.invariant.1

pub returns-in_err-item-clause-none : goal.returns-in_err-item-clause-none
returns-in_err-item-clause-none g c = if_none _ (nothing_told _ _ _ _ _ _ c.self.view_is c.pop_as.ensures.queue.0 c.in_err-item.ensures.rule)

pub returns-clause-some : goal.returns-clause-some
returns-clause-some g c = takes_told _ _ _ (view c.self.inside.pass) (view c.pop_as.new.pass) c.in_ok-item.field-0 _ c.self.view_is c.pop_as.ensures.queue.0 c.in_ok-item.ensures.rule
