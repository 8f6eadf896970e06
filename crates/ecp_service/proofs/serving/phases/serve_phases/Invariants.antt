use Rattle.ecp_service.specs.Callers.{AreAt}
use Rattle.ecp_service.proofs.serving.phases.serve_phases.Given as goal

-- the calls of the phases so far were answered
abbrev pub invariant-loop-phase : goal.invariant-loop-phase
invariant-loop-phase g l = AreAt g.N.Names.shape g.N.Names.told l.phase l.fn.callers l.callers
