use Rattle.ecp_plan.proofs.UpNodes.{up_counted}
use Rattle.ecp_coord.proofs.tests.worked.up_count.Goals as goal

pub returns : goal.returns
returns c = up_counted c.args.up c.ranges.up.fits
