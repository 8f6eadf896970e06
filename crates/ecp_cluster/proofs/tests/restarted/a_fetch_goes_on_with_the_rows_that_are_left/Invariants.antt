use Rattle.std.proofs.Common.{[], true, map}
use Rattle.ecp_store.specs.MemStores.{MemStoreState, no_call_fails}
use Rattle.ecp_cluster.specs.Opening.{starting}
use Rattle.ecp_cluster.proofs.tests.restarted.a_fetch_goes_on_with_the_rows_that_are_left.Given as goal

-- the book that was just made, the sizes of the tests, and the stores
abbrev pub ghosts-goes_on : goal.ghosts-goes_on
ghosts-goes_on g a = record {
  book = a.blank;
  shape = record { n = 4; k = 2; nodes = 4; block = 1 };
  callers = 2;
  spare_hands = 1;
  told = true;
  stores = map (λ (s : MemStoreState). starting s.calls.faults (no_call_fails s.calls)) a.stores.items;
  puts = [];
  stripes = [];
}
