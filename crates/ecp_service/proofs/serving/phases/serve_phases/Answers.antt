use Rattle.ecp_service.proofs.PhaseLaws.{all_first, all_next}
use Rattle.ecp_service.proofs.serving.phases.serve_phases.Goals as goal

pub loop-phase-init : goal.loop-phase-init
loop-phase-init g c = all_first g.N.Names.shape g.N.Names.told c.args.callers.now c.requires.ready

pub loop-phase-preserved : goal.loop-phase-preserved
loop-phase-preserved g c =
    all_next g.N.Names.shape g.N.Names.told c.loop-phase.phase c.args.callers.now c.loop-phase.callers c.serve_phase.new.callers c.raise_all.new.callers c.requires.ready c.requires.some
    c.loop-phase.invariant c.serve_phase.ensures.each c.serve_phase.ensures.served c.raise_all.ensures
