use Rattle.std.proofs.Common.{◌≡◌, ◌+◌, vec_len, vec_capacity}
use Rattle.ecp_code.specs.Stripes.{blocks}
use Rattle.ecp_cluster.specs.Keeping.{AddsRows}
use Rattle.ecp_cluster.proofs.service.Service.keep_each.Given as goal

abbrev pub invariant-loop-row : goal.invariant-loop-row
invariant-loop-row g l = record {
  count : vec_len l.rows ≡ vec_len l.initial.rows + l.row;
  room : vec_capacity l.rows ≡ vec_capacity l.initial.rows;
  adds : AddsRows g.N.Names.shape g.N.Names.told l.fn.res l.fn.i (blocks g.N.Names.shape.k g.N.Names.shape.block l.fn.whole) l.initial.rows.items l.row l.rows.items;
}
