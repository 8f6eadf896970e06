use Rattle.std.proofs.Common.{◌≡◌, ◌≤◌, ◌+◌, vec_len, vec_capacity}
use Rattle.ecp_cluster.specs.Ended.{AllPaid}
use Rattle.ecp_cluster.proofs.closing.settle_all.Given as goal

abbrev pub invariant-loop-number : goal.invariant-loop-number
invariant-loop-number g l = record {
  same : l.coord ≡ l.initial.coord;
  left : vec_len l.helpers + l.number ≡ g.N.Names.shape.nodes;
  room : g.N.Names.shape.nodes ≤ vec_capacity l.stores;
  paid : AllPaid g.S.Store.faults g.N.Names.stores l.initial.coord.sequence.history l.number l.stores.items;
}
