use Rattle.std.proofs.Common.{◌≡◌, take}
use Rattle.ecp_rebuild.specs.Workers.{placed}
use Rattle.ecp_rebuild.proofs.gather.place.Given as goal

abbrev pub invariant-loop-done : goal.invariant-loop-done
invariant-loop-done l = l.outcomes ≡ placed (take l.done-index l.ended) l.initial.outcomes
