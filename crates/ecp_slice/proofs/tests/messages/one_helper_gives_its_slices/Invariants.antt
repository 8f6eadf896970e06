use Rattle.std.proofs.Common.{[], ◌∷◌, true}
use Rattle.ecp_book.specs.Names.{StoreStart}
use Rattle.ecp_store.specs.MemStores.{no_call_fails}
use Rattle.ecp_slice.specs.OneFile.{three_rows}
use Rattle.ecp_slice.proofs.tests.messages.one_helper_gives_its_slices.Given as goal

-- the book that was just made, and the store of node 1
abbrev pub ghosts-own_slices : goal.ghosts-own_slices
ghosts-own_slices g a =
    let start : StoreStart = record { faults = a.store.calls.faults; faultless = no_call_fails a.store.calls } in
    record { book = a.blank; shape = three_rows 5; callers = 0; spare_hands = 0; told = true; stores = start ∷ start ∷ []; puts = []; stripes = [] }
