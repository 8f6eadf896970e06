use Rattle.std.proofs.Common.{[], true, map}
use Rattle.ecp_store.specs.MemStores.{MemStoreState, no_call_fails}
use Rattle.ecp_cluster.specs.Opening.{starting}
use Rattle.ecp_cluster.proofs.tests.puts.a_block_is_read_while_it_is_live_and_when_it_is_lost.Given as goal

-- the book that was just made, the sizes of the tests, and the stores
abbrev pub ghosts-read_twice : goal.ghosts-read_twice
ghosts-read_twice g a = record {
  book = a.blank;
  shape = record { n = 4; k = 2; nodes = 4; block = 1 };
  callers = 2;
  spare_hands = 1;
  told = true;
  stores = map (λ (s : MemStoreState). starting s.calls.faults (no_call_fails s.calls)) a.stores.items;
  puts = [];
  stripes = [];
}
