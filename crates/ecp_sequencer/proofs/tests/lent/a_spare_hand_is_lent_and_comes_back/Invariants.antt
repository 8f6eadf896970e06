use Rattle.std.proofs.Common.{[], false}
use Rattle.ecp_sequencer.proofs.tests.lent.a_spare_hand_is_lent_and_comes_back.Given as goal

-- the book that was just made, and the callers of the tests
abbrev pub ghosts-lent : goal.ghosts-lent
ghosts-lent g a = record { book = a.blank; shape = record { n = 2; k = 1; nodes = 2; block = 1 }; callers = 2; spare_hands = 1; told = false; stores = []; puts = []; stripes = [] }
