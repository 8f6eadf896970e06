use Rattle.std.proofs.Common.{◌≡◌}
use Rattle.std.specs.Prelude.{All}
use Rattle.ecp_sequencer.specs.Closed.{IsSettled}
use Rattle.ecp_sequencer.proofs.sequencer.Sequencer.close.Given as goal

abbrev pub invariant-loop-pass : goal.invariant-loop-pass
invariant-loop-pass g l = record {
  same : l.self ≡ l.initial.self;
  settled : All (IsSettled l.initial.self) l.yielded;
}
