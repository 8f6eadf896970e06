use Rattle.std.proofs.Common.{[], ◌∷◌, true, false}
use Rattle.ecp_book.specs.Names.{StoreStart}
use Rattle.ecp_coord.proofs.tests.puts.a_file_of_one_stripe_is_stored.Given as goal

-- the book that was just made, the sizes of the tests, and two stores that never failed
abbrev pub ghosts-stored : goal.ghosts-stored
ghosts-stored g a =
    let start : StoreStart = record { faults = 0; faultless = true } in
    record { book = a.blank; shape = record { n = 2; k = 1; nodes = 2; block = 1 }; callers = 2; spare_hands = 1; told = false; stores = start ∷ start ∷ []; puts = []; stripes = [] }
