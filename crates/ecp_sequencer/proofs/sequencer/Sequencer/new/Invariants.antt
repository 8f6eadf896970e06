use Rattle.std.proofs.Common.{◌≡◌, ◌+◌, ◌*◌}
use Rattle.std.specs.Vec.Iter.{into_iter_items, into_iter_len}
use Rattle.ecp_book.specs.Logs.{empty_log, history_log}
use Rattle.ecp_sequencer.specs.Hands.{own_hand, hands_of}
use Rattle.ecp_sequencer.specs.Passes.{first_passes}
use Rattle.ecp_sequencer.specs.Sequencers.{AreTies, new_desks}
use Rattle.ecp_sequencer.proofs.sequencer.Sequencer.new.Given as goal

abbrev pub invariant-loop-caller : goal.invariant-loop-caller
invariant-loop-caller g l = record {
  history : l.history ≡ empty_log history_log;
  desks : l.desks.items ≡ new_desks (own_hand l.spare l.caller);
  ties : AreTies g.N.Names.shape.nodes (own_hand l.spare l.caller) (into_iter_items l.keepers);
  count : into_iter_len l.keepers + 2 * own_hand l.spare l.caller ≡ 2 * hands_of l.callers l.spare;
  passes : l.passes.items ≡ first_passes l.spare l.caller;
}
