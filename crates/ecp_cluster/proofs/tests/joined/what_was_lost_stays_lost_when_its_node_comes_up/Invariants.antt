use Rattle.std.proofs.Common.{[], true, map}
use Rattle.ecp_store.specs.MemStores.{MemStoreState, no_call_fails}
use Rattle.ecp_cluster.specs.Opening.{starting}
use Rattle.ecp_cluster.proofs.tests.joined.what_was_lost_stays_lost_when_its_node_comes_up.Given as goal

-- the book that was just made, the sizes of the tests, and the stores
abbrev pub ghosts-joined : goal.ghosts-joined
ghosts-joined g a = record {
  book = a.blank;
  shape = record { n = 2; k = 1; nodes = 2; block = 1 };
  callers = 2;
  spare_hands = 1;
  told = true;
  stores = map (λ (s : MemStoreState). starting s.calls.faults (no_call_fails s.calls)) a.stores.items;
  puts = [];
  stripes = [];
}
