use Rattle.std.proofs.Common.{[], true, map}
use Rattle.ecp_store.specs.MemStores.{MemStoreState, no_call_fails}
use Rattle.ecp_cluster.specs.Opening.{starting}
use Rattle.ecp_cluster.proofs.tests.lost_in_flight.a_helper_is_lost_in_flight.Given as goal

-- the book that was just made, the sizes of the tests, and the stores
abbrev pub ghosts-in_flight : goal.ghosts-in_flight
ghosts-in_flight g a = record {
  book = a.blank;
  shape = record { n = 4; k = 2; nodes = 4; block = 2 };
  callers = 3;
  spare_hands = 1;
  told = true;
  stores = map (λ (s : MemStoreState). starting s.calls.faults (no_call_fails s.calls)) a.stores.items;
  puts = [];
  stripes = [];
}
