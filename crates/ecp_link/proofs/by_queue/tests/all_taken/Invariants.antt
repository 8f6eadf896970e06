use Rattle.std.proofs.Common.{◌≡◌}
use Rattle.ecp_link.proofs.by_queue.tests.all_taken.Given as goal

abbrev pub invariant-loop : goal.invariant-loop
invariant-loop g l = l.taker.link ≡ l.initial.taker.link
