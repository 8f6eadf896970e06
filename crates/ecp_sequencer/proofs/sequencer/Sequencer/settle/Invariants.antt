use Rattle.std.proofs.Common.{◌≡◌}
use Rattle.std.specs.Prelude.{All}
use Rattle.ecp_sequencer.specs.Closed.{IsHeard}
use Rattle.ecp_sequencer.proofs.sequencer.Sequencer.settle.Given as goal

abbrev pub invariant-loop-hand : goal.invariant-loop-hand
invariant-loop-hand g l = record {
  same : l.self ≡ l.fn.self;
  heard : All (IsHeard l.fn.self) l.yielded;
}
