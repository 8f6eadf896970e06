use Rattle.std.proofs.Common.{[], false}
use Rattle.ecp_book.specs.Names.{no_shape}
use Rattle.ecp_book.proofs.tests.two_logs_keep_their_lengths.Given as goal

-- the book that was just made
abbrev pub ghosts-two_logs : goal.ghosts-two_logs
ghosts-two_logs g a = record { book = a.blank; shape = no_shape; callers = 0; spare_hands = 0; told = false; stores = []; puts = []; stripes = [] }
