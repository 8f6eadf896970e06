use Rattle.ecp_history.proofs.PlanLaws.{plan_stays}
use Rattle.ecp_history.proofs.laws.sound_plans_stay.Goals as goal

pub returns : goal.returns
returns c = plan_stays
