use Rattle.std.proofs.Common.{[], true, map}
use Rattle.ecp_store.specs.MemStores.{MemStoreState, no_call_fails}
use Rattle.ecp_cluster.specs.Opening.{starting}
use Rattle.ecp_cluster.proofs.tests.sums.a_block_has_its_digest_while_it_is_live_and_when_it_is_lost.Given as goal

-- the book that was just made, the sizes of the test, and the stores
abbrev pub ghosts-summed : goal.ghosts-summed
ghosts-summed g a = record {
  book = a.blank;
  shape = record { n = 2; k = 1; nodes = 2; block = 3 };
  callers = 2;
  spare_hands = 1;
  told = true;
  stores = map (λ (s : MemStoreState). starting s.calls.faults (no_call_fails s.calls)) a.stores.items;
  puts = [];
  stripes = [];
}
