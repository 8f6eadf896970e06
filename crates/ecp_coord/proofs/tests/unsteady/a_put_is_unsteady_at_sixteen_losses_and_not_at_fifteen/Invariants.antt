use Rattle.std.proofs.Common.{[], false}
use Rattle.ecp_coord.proofs.tests.unsteady.a_put_is_unsteady_at_sixteen_losses_and_not_at_fifteen.Given as goal

-- the book that was just made, and the sizes of the test
abbrev pub ghosts-unsteady : goal.ghosts-unsteady
ghosts-unsteady g a = record { book = a.blank; shape = record { n = 2; k = 1; nodes = 18; block = 1 }; callers = 2; spare_hands = 1; told = false; stores = []; puts = []; stripes = [] }
