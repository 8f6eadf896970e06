use Rattle.std.proofs.Common.{[], false}
use Rattle.ecp_coord.proofs.tests.calls.a_node_comes_up_once_and_only_where_it_is.Given as goal

-- the book that was just made, and the sizes of the tests
abbrev pub ghosts-joined : goal.ghosts-joined
ghosts-joined g a = record { book = a.blank; shape = record { n = 2; k = 1; nodes = 2; block = 1 }; callers = 2; spare_hands = 1; told = false; stores = []; puts = []; stripes = [] }
