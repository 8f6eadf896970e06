use Rattle.std.proofs.Common.{◌≡◌}
use Rattle.ecp_rebuild.proofs.tests.OfficeMender.mend.Given as goal

abbrev pub invariant-loop : goal.invariant-loop
invariant-loop g l = record {
  same : l.hand.number ≡ l.initial.hand.number;
  did : l.hand.done.items ≡ l.initial.hand.done.items;
}
