use Rattle.std.proofs.Common.{◌≡◌, ◌++◌, ◌+◌, ◌*◌, ◌≤◌, ℕ, length, map, take, drop}
use Rattle.ecp_sequencer.specs.declared.limits.TheConstants.{ROOM}
use Rattle.ecp_sequencer.specs.Branches.{IsNone}
use Rattle.ecp_sequencer.specs.Histories.{notes_at}
use Rattle.ecp_sequencer.specs.Notes.{note, beginning_of}
use Rattle.ecp_sequencer.specs.Passes.{call_seen, with_note}
use Rattle.ecp_sequencer.specs.Sequencers.{IsSequencer, notes_of}
use Rattle.ecp_sequencer.proofs.calling.call_each.Given as goal

abbrev pub invariant-loop-hand : goal.invariant-loop-hand
invariant-loop-hand g l = record {
  sequencer : IsSequencer g.N.Names.shape g.N.Names.told g.N.Names.callers g.N.Names.spare_hands l.keeper.log l.keeper.items l.journal l.desks.items l.taken;
  taken : l.taken ≤ l.fn.taken + ROOM * l.hand-index;
  hands : l.hands ≡ map (λ h. with_note h (note (length l.keeper.items) ROOM (beginning_of (call_seen l.fn.call.number l.fn.call.deed)))) (take l.hand-index l.fn.hands)
      ++ drop l.hand-index l.fn.hands;
  others : (hand : ℕ) → IsNone l.fn.hands hand → notes_at (notes_of l.desks.items) hand ≡ notes_at (notes_of l.fn.desks.items) hand;
}
