use Rattle.std.proofs.Common.{◌<◌}
use Rattle.std.specs.Prelude.{All}
use Rattle.ecp_rebuild.specs.Tasks.{HasDistinctParts}
use Rattle.ecp_rebuild.proofs.tests.tasks.Given as goal

abbrev pub invariant-loop-part : goal.invariant-loop-part
invariant-loop-part l = record {
  distinct : HasDistinctParts l.tasks.items;
  below : All (λ t. t.part < l.part) l.tasks.items;
}
