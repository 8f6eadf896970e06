use Rattle.std.proofs.Common.{◌≡◌, ◌+◌, ◌*◌, vec_len}
use Rattle.std.specs.Prelude.{vec_capacity}
use Rattle.std.specs.Vec.Iter.{into_iter_items, into_iter_len}
use Rattle.ecp_sequencer.specs.Hands.{own_hand}
use Rattle.ecp_sequencer.specs.Passes.{new_hands}
use Rattle.ecp_sequencer.specs.Sequencers.{AreTies, new_desks}
use Rattle.ecp_sequencer.proofs.start.next_pass.Given as goal

abbrev pub invariant-loop : goal.invariant-loop
invariant-loop g l = record {
  so_far : vec_len l.desks ≡ own_hand l.spare l.caller + 1 + l.counter;
  desks : l.desks.items ≡ new_desks (vec_len l.desks);
  ties : AreTies g.N.Names.shape.nodes (vec_len l.desks) (into_iter_items l.keepers);
  count : into_iter_len l.keepers + 2 * (1 + l.counter) ≡ into_iter_len l.fn.keepers;
  room : vec_len l.held ≡ l.counter;
  capacity : vec_capacity l.held ≡ l.spare;
  held : l.held.items ≡ new_hands (own_hand l.spare l.caller + 1) l.counter;
}
