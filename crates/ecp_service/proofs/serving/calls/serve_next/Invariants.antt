use Rattle.std.proofs.Common.{◌≡◌, ◌++◌, ◌-◌, List, drop, length}
use Rattle.std.specs.Prelude.{vec_capacity}
use mathlib.Core.List.{IsPrefix}
use Rattle.ecp_cluster.specs.declared.answer.Answer.{Answer}
use Rattle.ecp_sequencer.specs.Passes.{IsWhole}
use Rattle.ecp_service.specs.Callers.{ServedOf}
use Rattle.ecp_service.proofs.serving.calls.serve_next.Given as goal

-- the calls so far are of the phase, and were answered
abbrev pub invariant-loop-planned : goal.invariant-loop-planned
invariant-loop-planned g l =
    (given : List Answer)
    × (l.answers.items ≡ l.fn.answers.items ++ given)
    × ServedOf g.N.Names.shape g.N.Names.told l.phase l.fn.pass (drop (length l.fn.answers.items) l.calls) given l.pass
    × IsPrefix l.fn.pass.front l.pass.front
    × (vec_capacity l.answers ≡ vec_capacity l.fn.answers)
    × IsWhole l.pass

abbrev pub decreases-loop-planned : goal.decreases-loop-planned
decreases-loop-planned g l = length l.calls - length l.answers.items
