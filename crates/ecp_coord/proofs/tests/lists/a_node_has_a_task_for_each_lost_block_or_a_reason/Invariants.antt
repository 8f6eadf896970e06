use Rattle.std.proofs.Common.{[], ◌∷◌, true, false}
use Rattle.ecp_book.specs.Names.{StoreStart}
use Rattle.ecp_coord.proofs.tests.lists.a_node_has_a_task_for_each_lost_block_or_a_reason.Given as goal

-- the book that was just made, the sizes of the test, and three stores that never failed
abbrev pub ghosts-listed : goal.ghosts-listed
ghosts-listed g a =
    let start : StoreStart = record { faults = 0; faultless = true } in
    record { book = a.blank; shape = record { n = 2; k = 1; nodes = 3; block = 1 }; callers = 2; spare_hands = 1; told = false; stores = start ∷ start ∷ start ∷ []; puts = []; stripes = [] }
