use Rattle.std.proofs.Common.{◌≡◌, map}
use Rattle.ecp_kernel.proofs.PlaneLemmas.{planes}
use Rattle.ecp_kernel.proofs.planes.PlanesMultiplier.products.Given as goal

abbrev pub invariant-loop-i : goal.invariant-loop-i
invariant-loop-i l = l.sum ≡ map (planes l.i l.self.constant) l.bytes
