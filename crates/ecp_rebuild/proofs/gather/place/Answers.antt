use Rattle.ecp_rebuild.proofs.Gathering.{place_one}
use Rattle.ecp_rebuild.proofs.gather.place.Goals as goal

pub loop-done-preserved : goal.loop-done-preserved
loop-done-preserved c = place_one _ _ _ _ _ c.loop-done-test.true c.loop-done.invariant
