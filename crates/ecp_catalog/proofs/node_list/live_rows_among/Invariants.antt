use Rattle.std.proofs.Common.{◌≡◌, take, map}
use Rattle.ecp_catalog.specs.Standing.{standing, live_among}
use Rattle.ecp_catalog.proofs.node_list.live_rows_among.Given as goal

abbrev pub invariant-loop-row : goal.invariant-loop-row
invariant-loop-row g l = l.live ≡ live_among (map (standing (map (λ x. x.node) l.nodes)) (take l.row l.rows))
