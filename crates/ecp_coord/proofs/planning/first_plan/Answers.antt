use Rattle.std.proofs.Common.{ap, arith, length}
use Rattle.ecp_coord.proofs.planning.first_plan.Goals as goal

pub lanes-requires : goal.lanes-requires
lanes-requires g c = omega (arith, c.help.ensures.hops.few, ap (λ xs. length xs) c.deref.ensures.value)
