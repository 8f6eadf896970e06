use Rattle.std.proofs.Common.{◌+◌, ◌-◌, ◌^◌, ◌<◌, length, take}
use Rattle.std.specs.Prelude.{All}
use Rattle.ecp_catalog.specs.Catalogs.{CountsRows}
use Rattle.ecp_catalog.proofs.node_list.count_rows.Given as goal

abbrev pub invariant-loop-receipt : goal.invariant-loop-receipt
invariant-loop-receipt g l = record {
  counts : CountsRows l.fn.nodes l.nodes (take l.receipt-index l.rows);
  room : All (λ x. x.live + (length l.rows - l.receipt-index) < 2 ^ 32) l.nodes;
}
