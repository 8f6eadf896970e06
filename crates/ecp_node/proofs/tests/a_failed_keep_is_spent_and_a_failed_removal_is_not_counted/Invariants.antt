use Rattle.std.proofs.Common.{[], ◌∷◌, true}
use Rattle.ecp_book.specs.Names.{no_shape, StoreStart}
use Rattle.ecp_store.specs.MemStores.{no_call_fails}
use Rattle.ecp_node.proofs.tests.a_failed_keep_is_spent_and_a_failed_removal_is_not_counted.Given as goal

-- the book that was just made, and the store of node 4
abbrev pub ghosts-failed_keep : goal.ghosts-failed_keep
ghosts-failed_keep g a =
    let start : StoreStart = record { faults = a.store.calls.faults; faultless = no_call_fails a.store.calls } in
    record { book = a.blank; shape = no_shape; callers = 0; spare_hands = 0; told = true; stores = start ∷ start ∷ start ∷ start ∷ start ∷ []; puts = []; stripes = [] }
