use Rattle.std.proofs.Common.{[], ◌∷◌, true}
use Rattle.ecp_book.specs.Names.{StoreStart}
use Rattle.ecp_store.specs.MemStores.{no_call_fails}
use Rattle.ecp_coord.proofs.tests.calls.a_node_is_settled.Given as goal

-- the book that was just made, the sizes of the tests, and the store of node 1
abbrev pub ghosts-settled : goal.ghosts-settled
ghosts-settled g a =
    let start : StoreStart = record { faults = a.store.calls.faults; faultless = no_call_fails a.store.calls } in
    record { book = a.blank; shape = record { n = 2; k = 1; nodes = 2; block = 1 }; callers = 2; spare_hands = 1; told = true; stores = start ∷ start ∷ []; puts = []; stripes = [] }
