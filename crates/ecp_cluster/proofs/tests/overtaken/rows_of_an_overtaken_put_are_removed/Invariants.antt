use Rattle.std.proofs.Common.{[], false, map}
use Rattle.ecp_cluster.specs.declared.tests.tally.Tally.{Tally}
use Rattle.ecp_cluster.specs.Opening.{starting}
use Rattle.ecp_cluster.proofs.tests.overtaken.rows_of_an_overtaken_put_are_removed.Given as goal

-- the book that was just made, the sizes of the tests, and the stores
abbrev pub ghosts-overtaken : goal.ghosts-overtaken
ghosts-overtaken g a = record {
  book = a.blank;
  shape = record { n = 2; k = 1; nodes = 2; block = 1 };
  callers = 2;
  spare_hands = 1;
  told = false;
  stores = map (λ (s : Tally). starting 0 false) a.stores.items;
  puts = [];
  stripes = [];
}
