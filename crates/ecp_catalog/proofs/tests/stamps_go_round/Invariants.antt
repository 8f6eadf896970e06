use Rattle.std.proofs.Common.{[], ◌∷◌, true}
use Rattle.ecp_book.specs.Names.{no_shape, StoreStart}
use Rattle.ecp_catalog.proofs.tests.stamps_go_round.Given as goal

-- the book that was just made, and three stores that never fail
abbrev pub ghosts-three_helps : goal.ghosts-three_helps
ghosts-three_helps g a =
    let start : StoreStart = record { faults = 0; faultless = true } in
    record { book = a.blank; shape = no_shape; callers = 0; spare_hands = 0; told = true; stores = start ∷ start ∷ start ∷ []; puts = []; stripes = [] }
