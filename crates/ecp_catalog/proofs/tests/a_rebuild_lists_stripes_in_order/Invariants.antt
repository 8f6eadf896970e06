use Rattle.std.proofs.Common.{[], ◌∷◌, true}
use Rattle.ecp_book.specs.Names.{no_shape, StoreStart}
use Rattle.ecp_catalog.proofs.tests.a_rebuild_lists_stripes_in_order.Given as goal

-- the book that was just made, and three stores that never fail
abbrev pub ghosts-lose_two_stripes : goal.ghosts-lose_two_stripes
ghosts-lose_two_stripes g a =
    let start : StoreStart = record { faults = 0; faultless = true } in
    record { book = a.blank; shape = no_shape; callers = 0; spare_hands = 0; told = true; stores = start ∷ start ∷ start ∷ []; puts = []; stripes = [] }
