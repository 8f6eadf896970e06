use Rattle.ecp_plan.proofs.OrderLaws.{never_twice, each_visited}
use Rattle.ecp_plan.proofs.laws.each_helper_is_visited_once.Goals as goal

pub returns : goal.returns
returns c = record { never_twice = never_twice; each = each_visited }
