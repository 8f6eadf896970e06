use Rattle.std.proofs.Common.{[], false}
use Rattle.ecp_coord.proofs.tests.unsteady.too_few_nodes_come_before_unsteady.Given as goal

-- the book that was just made, and the sizes of the test
abbrev pub ghosts-few : goal.ghosts-few
ghosts-few g a = record { book = a.blank; shape = record { n = 2; k = 1; nodes = 17; block = 1 }; callers = 2; spare_hands = 1; told = false; stores = []; puts = []; stripes = [] }
