use Rattle.ecp_sequencer.proofs.RoundLaws.{worked_both}
use Rattle.ecp_coord.proofs.SpineLaws.{worked_either}
use Rattle.ecp_coord.proofs.tests.spine.work.Goals as goal

pub loop-init : goal.loop-init
loop-init g c = worked_either c.lose.result g.N.Names.shape g.N.Names.told c.args.pass.now c.lose.new.pass c.args.node c.lose.ensures.ok c.lose.ensures.err

pub loop-preserved : goal.loop-preserved
loop-preserved g c =
    worked_both c.args.pass.now c.loop.pass c.lose-in-loop.new.pass c.loop.invariant
    (worked_either c.lose-in-loop.result g.N.Names.shape g.N.Names.told c.loop.pass c.lose-in-loop.new.pass c.args.node c.lose-in-loop.ensures.ok c.lose-in-loop.ensures.err)
