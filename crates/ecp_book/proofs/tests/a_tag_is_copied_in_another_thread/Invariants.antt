use Rattle.std.proofs.Common.{[], false}
use Rattle.ecp_book.specs.Names.{no_shape}
use Rattle.ecp_book.proofs.tests.a_tag_is_copied_in_another_thread.Given as goal

-- the book that was just made
abbrev pub ghosts-copied_elsewhere : goal.ghosts-copied_elsewhere
ghosts-copied_elsewhere g a = record { book = a.blank; shape = no_shape; callers = 0; spare_hands = 0; told = false; stores = []; puts = []; stripes = [] }
