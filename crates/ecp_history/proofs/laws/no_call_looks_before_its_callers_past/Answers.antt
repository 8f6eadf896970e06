use Rattle.std.proofs.Common.{arith}
use Rattle.ecp_history.proofs.FollowLaws.{point_behind}
use Rattle.ecp_history.proofs.laws.no_call_looks_before_its_callers_past.Goals as goal

pub returns : goal.returns
returns c = λ shape told before e x j looks legal.
    omega (arith, looks.early, point_behind shape told before e x j legal looks.ends looks.alone looks.stands looks.same)
