use Rattle.std.proofs.Common.{[], true, map}
use Rattle.ecp_store.specs.MemStores.{MemStoreState, no_call_fails}
use Rattle.ecp_cluster.specs.Opening.{starting}
use Rattle.ecp_cluster.proofs.tests.reads_overlap.two_reads_are_open_at_once.Given as goal

-- the book that was just made, the sizes of the tests, and the stores
abbrev pub ghosts-overlap : goal.ghosts-overlap
ghosts-overlap g a = record {
  book = a.blank;
  shape = record { n = 2; k = 1; nodes = 2; block = 1 };
  callers = 3;
  spare_hands = 1;
  told = true;
  stores = map (λ (s : MemStoreState). starting s.calls.faults (no_call_fails s.calls)) a.stores.items;
  puts = [];
  stripes = [];
}
