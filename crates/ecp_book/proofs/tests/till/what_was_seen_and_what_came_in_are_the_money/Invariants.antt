use Rattle.std.proofs.Common.{[], false}
use Rattle.ecp_book.specs.Names.{no_shape}
use Rattle.ecp_book.proofs.tests.till.what_was_seen_and_what_came_in_are_the_money.Given as goal

-- the book that was just made
abbrev pub ghosts-paid_and_watched : goal.ghosts-paid_and_watched
ghosts-paid_and_watched g a = record { book = a.blank; shape = no_shape; callers = 0; spare_hands = 0; told = false; stores = []; puts = []; stripes = [] }
