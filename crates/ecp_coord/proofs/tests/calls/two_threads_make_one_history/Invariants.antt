use Rattle.std.proofs.Common.{[], false}
use Rattle.ecp_coord.proofs.tests.calls.two_threads_make_one_history.Given as goal

-- the book that was just made, and the sizes of the tests
abbrev pub ghosts-worked : goal.ghosts-worked
ghosts-worked g a = record { book = a.blank; shape = record { n = 2; k = 1; nodes = 2; block = 1 }; callers = 2; spare_hands = 1; told = false; stores = []; puts = []; stripes = [] }
