use Rattle.std.proofs.Common.{[], ◌∷◌, true}
use Rattle.ecp_book.specs.Names.{no_shape, StoreStart}
use Rattle.ecp_catalog.proofs.tests.a_rebuild_lists_lost_rows_in_order.Given as goal

-- the book that was just made, and three stores that never fail
abbrev pub ghosts-lose_and_list : goal.ghosts-lose_and_list
ghosts-lose_and_list g a =
    let start : StoreStart = record { faults = 0; faultless = true } in
    record { book = a.blank; shape = no_shape; callers = 0; spare_hands = 0; told = true; stores = start ∷ start ∷ start ∷ []; puts = []; stripes = [] }
