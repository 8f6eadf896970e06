use Rattle.ecp_history.proofs.FollowLaws.{begins_once}
use Rattle.ecp_history.proofs.laws.no_call_begins_twice.Goals as goal

pub returns : goal.returns
returns c = begins_once
