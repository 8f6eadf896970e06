use Rattle.std.proofs.Common.{[], ◌∷◌, true}
use Rattle.ecp_book.specs.Names.{StoreStart}
use Rattle.ecp_slice.specs.OneFile.{three_rows}
use Rattle.ecp_store.specs.MemStores.{no_call_fails}
use Rattle.ecp_requestor.proofs.tests.fetching.a_block_comes_home_slice_by_slice.Given as goal

-- the book that was just made, and the store of node 0
abbrev pub ghosts-slice_by_slice : goal.ghosts-slice_by_slice
ghosts-slice_by_slice g a =
    let start : StoreStart = record { faults = a.store.calls.faults; faultless = no_call_fails a.store.calls } in
    record { book = a.blank; shape = three_rows 2; callers = 0; spare_hands = 0; told = true; stores = start ∷ []; puts = []; stripes = [] }
