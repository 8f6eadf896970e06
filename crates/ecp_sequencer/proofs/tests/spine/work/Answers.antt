use Rattle.ecp_sequencer.proofs.RoundLaws.{worked_both, worked_either}
use Rattle.ecp_sequencer.proofs.tests.spine.work.Goals as goal

pub loop-preserved : goal.loop-preserved
loop-preserved g c =
    worked_both c.args.pass.now c.loop.pass c.lose_none.new.pass c.loop.invariant
    (worked_either g.N.Names.shape g.N.Names.told c.loop.pass c.lose_none.new.pass c.args.node c.lose_none.result c.lose_none.ensures.ok c.lose_none.ensures.err)
