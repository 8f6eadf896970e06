use Rattle.std.proofs.Common.{[], ◌∷◌, true, false}
use Rattle.ecp_book.specs.Names.{StoreStart}
use Rattle.ecp_coord.proofs.tests.cats.a_file_of_two_blocks_is_opened.Given as goal

-- the book that was just made, the sizes of the test, and three stores that never failed
abbrev pub ghosts-two_blocks : goal.ghosts-two_blocks
ghosts-two_blocks g a =
    let start : StoreStart = record { faults = 0; faultless = true } in
    record { book = a.blank; shape = record { n = 3; k = 2; nodes = 3; block = 1 }; callers = 2; spare_hands = 1; told = false; stores = start ∷ start ∷ start ∷ []; puts = []; stripes = [] }
