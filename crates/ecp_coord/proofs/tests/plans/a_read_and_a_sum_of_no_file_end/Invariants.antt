use Rattle.std.proofs.Common.{[], false}
use Rattle.ecp_coord.proofs.tests.plans.a_read_and_a_sum_of_no_file_end.Given as goal

-- the book that was just made, and the sizes of the tests
abbrev pub ghosts-unplanned : goal.ghosts-unplanned
ghosts-unplanned g a = record { book = a.blank; shape = record { n = 2; k = 1; nodes = 2; block = 1 }; callers = 2; spare_hands = 1; told = false; stores = []; puts = []; stripes = [] }
