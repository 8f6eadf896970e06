use Rattle.std.proofs.Common.{inr, Some}
use Rattle.ecp_helper.proofs.helper.Helper.move_one.Goals as goal

pub returns-in-Some : goal.returns-in-Some
returns-in-Some g c = inr (record { full = Some c.in-Full.to; tried = c.forward.new.self; first = c.in-Full.ensures; served = c.in-Some.ensures.some })
