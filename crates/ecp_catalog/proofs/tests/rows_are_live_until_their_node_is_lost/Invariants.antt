use Rattle.std.proofs.Common.{[], ◌∷◌, true}
use Rattle.ecp_book.specs.Names.{no_shape, StoreStart}
use Rattle.ecp_catalog.proofs.tests.rows_are_live_until_their_node_is_lost.Given as goal

-- the book that was just made, and three stores that never fail
abbrev pub ghosts-put_and_lost : goal.ghosts-put_and_lost
ghosts-put_and_lost g a =
    let start : StoreStart = record { faults = 0; faultless = true } in
    record { book = a.blank; shape = no_shape; callers = 0; spare_hands = 0; told = true; stores = start ∷ start ∷ start ∷ []; puts = []; stripes = [] }
