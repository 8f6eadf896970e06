use Rattle.std.proofs.Common.{◌≡◌, ◌++◌, ℕ, length, map, take, drop}
use Rattle.ecp_sequencer.specs.Branches.{IsNone, released}
use Rattle.ecp_sequencer.specs.Histories.{notes_at}
use Rattle.ecp_sequencer.proofs.sequencer.Sequencer.release_each.Given as goal

abbrev pub invariant-loop-hand : goal.invariant-loop-hand
invariant-loop-hand g l = record {
  history : l.self.history ≡ l.fn.self.history;
  hands : l.hands ≡ map (released (length l.fn.self.history)) (take l.hand-index l.fn.hands) ++ drop l.hand-index l.fn.hands;
  others : (hand : ℕ) → IsNone l.fn.hands hand → notes_at l.self.notes hand ≡ notes_at l.fn.self.notes hand;
}
