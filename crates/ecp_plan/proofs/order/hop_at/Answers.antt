use Rattle.ecp_plan.proofs.OrderLaws.{helper_is}
use Rattle.ecp_plan.proofs.order.hop_at.Goals as goal

pub returns-clause-helper : goal.returns-clause-helper
returns-clause-helper c =
    rw (c.from.ensures, c.from-2.ensures, c.from-3.ensures) (helper_is c.args.lanes c.args.helpers c.args.slice c.args.at c.requires.lanes c.requires.at)
