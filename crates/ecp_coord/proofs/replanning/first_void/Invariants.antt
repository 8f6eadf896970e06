use Rattle.std.proofs.Common.{◌≡◌, map, take}
use Rattle.ecp_catalog.specs.Catalogs.{earliest, first_loss}
use Rattle.ecp_coord.proofs.replanning.first_void.Given as goal

abbrev pub invariant-loop-hop : goal.invariant-loop-hop
invariant-loop-hop g l = l.first ≡ earliest (map (λ h. first_loss l.catalog.nodes l.plan.point h.node) (take l.hop-index l.plan.hops.items))
