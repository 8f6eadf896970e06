use Rattle.std.proofs.Common.{◌≡◌}
use Rattle.ecp_link.proofs.by_queue.tests.send.Given as goal

abbrev pub invariant-loop : goal.invariant-loop
invariant-loop g l = l.sender.link ≡ l.initial.sender.link
