use Rattle.std.proofs.Common.{[], false}
use Rattle.ecp_coord.proofs.tests.calls.a_node_is_lost_once_and_only_where_it_is.Given as goal

-- the book that was just made, and the sizes of the tests
abbrev pub ghosts-lost : goal.ghosts-lost
ghosts-lost g a = record { book = a.blank; shape = record { n = 2; k = 1; nodes = 2; block = 1 }; callers = 2; spare_hands = 1; told = false; stores = []; puts = []; stripes = [] }
