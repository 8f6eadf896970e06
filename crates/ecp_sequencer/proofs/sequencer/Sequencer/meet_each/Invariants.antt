use Rattle.std.proofs.Common.{◌≡◌, take}
use Rattle.std.specs.Prelude.{All}
use Rattle.ecp_sequencer.specs.Closed.{IsHeard}
use Rattle.ecp_sequencer.proofs.sequencer.Sequencer.meet_each.Given as goal

abbrev pub invariant-loop-hand : goal.invariant-loop-hand
invariant-loop-hand g l = record {
  same : l.self ≡ l.fn.self;
  hands : l.hands ≡ l.fn.hands;
  heard : All (IsHeard l.fn.self) (take l.hand-index l.fn.hands);
}
