use Rattle.std.proofs.Common.{◌≡◌}
use Rattle.ecp_link.proofs.by_queue.tests.sent.Given as goal

abbrev pub invariant-loop-place : goal.invariant-loop-place
invariant-loop-place g l = l.sender.link ≡ l.initial.sender.link
