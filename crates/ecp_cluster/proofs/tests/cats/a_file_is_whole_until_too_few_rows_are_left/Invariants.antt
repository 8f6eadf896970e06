use Rattle.std.proofs.Common.{[], true, map}
use Rattle.ecp_store.specs.MemStores.{MemStoreState, no_call_fails}
use Rattle.ecp_cluster.specs.Opening.{starting}
use Rattle.ecp_cluster.proofs.tests.cats.a_file_is_whole_until_too_few_rows_are_left.Given as goal

-- the book that was just made, the sizes of the test, and the stores
abbrev pub ghosts-whole : goal.ghosts-whole
ghosts-whole g a = record {
  book = a.blank;
  shape = record { n = 3; k = 2; nodes = 3; block = 2 };
  callers = 2;
  spare_hands = 1;
  told = true;
  stores = map (λ (s : MemStoreState). starting s.calls.faults (no_call_fails s.calls)) a.stores.items;
  puts = [];
  stripes = [];
}
