use Rattle.std.proofs.Common.{[], false}
use Rattle.ecp_coord.proofs.tests.puts.an_overtaken_put_is_asked_for_anew.Given as goal

-- the book that was just made, and the sizes of the tests
abbrev pub ghosts-overtaken : goal.ghosts-overtaken
ghosts-overtaken g a = record { book = a.blank; shape = record { n = 2; k = 1; nodes = 2; block = 1 }; callers = 2; spare_hands = 1; told = false; stores = []; puts = []; stripes = [] }
