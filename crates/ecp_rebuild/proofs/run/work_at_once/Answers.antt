use Rattle.ecp_rebuild.proofs.Finishing.{zips_by_index}
use Rattle.ecp_rebuild.proofs.run.work_at_once.Goals as goal

pub returns : goal.returns
returns g c = zips_by_index _ _ _ c.for_each_mut.auto.s (λ k d lt. let h = (c.for_each_mut.ensures k d lt).1 in rw (← h.argument_is, ← h.left) h.call)
