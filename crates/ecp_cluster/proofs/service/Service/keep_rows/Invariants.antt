use Rattle.std.proofs.Common.{◌≤◌, ◌*◌, vec_capacity}
use Rattle.ecp_cluster.specs.Keeping.{AreFirstKept}
use Rattle.ecp_cluster.proofs.service.Service.keep_rows.Given as goal

abbrev pub invariant-loop-i : goal.invariant-loop-i
invariant-loop-i g l = record {
  room : l.fn.res.stripes * g.N.Names.shape.n ≤ vec_capacity l.rows;
  first : AreFirstKept g.N.Names.shape g.N.Names.told l.fn.res l.fn.bytes (l.i * g.N.Names.shape.n) l.rows.items;
}
