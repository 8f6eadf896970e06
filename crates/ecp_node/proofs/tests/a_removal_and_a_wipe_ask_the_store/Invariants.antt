use Rattle.std.proofs.Common.{[], false}
use Rattle.ecp_book.specs.Names.{no_shape}
use Rattle.ecp_node.proofs.tests.a_removal_and_a_wipe_ask_the_store.Given as goal

-- the book that was just made
abbrev pub ghosts-asked : goal.ghosts-asked
ghosts-asked g a = record { book = a.blank; shape = no_shape; callers = 0; spare_hands = 0; told = false; stores = []; puts = []; stripes = [] }
