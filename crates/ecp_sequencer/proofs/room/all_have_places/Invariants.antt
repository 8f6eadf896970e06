use Rattle.std.proofs.Common.{◌+◌, ◌-◌, ◌^◌, ◌<◌, length, take}
use Rattle.std.specs.Prelude.{All}
use Rattle.ecp_sequencer.specs.declared.limits.TheConstants.{ROOM}
use Rattle.ecp_sequencer.proofs.room.all_have_places.Given as goal

abbrev pub invariant-loop-hand : goal.invariant-loop-hand
invariant-loop-hand g l = All (λ h. length h.notes + 1 + ROOM < 2 ^ 32 - 1) (take l.hand-index l.hands)
