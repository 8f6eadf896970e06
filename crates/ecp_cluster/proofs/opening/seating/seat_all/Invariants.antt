use Rattle.std.proofs.Common.{◌≡◌, ◌≤◌, ◌+◌, ◌-◌, vec_len, vec_capacity}
use Rattle.ecp_book.specs.Logs.{history_log}
use Rattle.ecp_coord.specs.Coords.{AreNodeLogs}
use Rattle.ecp_cluster.specs.Opening.{AreStarts}
use Rattle.ecp_cluster.proofs.opening.seating.seat_all.Given as goal

abbrev pub invariant-loop-seated : goal.invariant-loop-seated
invariant-loop-seated g l = record {
  past : l.past.log ≡ history_log;
  keepers : AreNodeLogs (l.nodes - l.seated) l.keepers.items;
  stores : AreStarts g.S.Store.faults g.S.Store.faultless g.N.Names.stores (l.nodes - l.seated) l.stores.items;
  takers : vec_len l.wires.takers + l.seated ≡ l.nodes;
  to_nodes : vec_len l.wires.to_nodes + l.seated ≡ l.nodes;
  to_homes : vec_len l.wires.to_homes + l.seated ≡ l.nodes;
  helpers : vec_len l.helpers ≡ l.seated;
  room : l.nodes ≤ vec_capacity l.helpers;
  back : vec_capacity l.stores ≡ vec_capacity l.fn.stores;
}
