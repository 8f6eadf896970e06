use Rattle.std.proofs.Common.{[], ◌∷◌, true}
use Rattle.ecp_book.specs.Names.{StoreStart}
use Rattle.ecp_store.specs.MemStores.{no_call_fails}
use Rattle.ecp_slice.specs.OneFile.{three_rows}
use Rattle.ecp_helper.proofs.tests.scene.played.Given as goal

-- the book that was just made, and the stores of nodes 1 and 2
abbrev pub ghosts-set : goal.ghosts-set
ghosts-set g a =
    let one : StoreStart = record { faults = a.one.calls.faults; faultless = no_call_fails a.one.calls } in
    let two : StoreStart = record { faults = a.two.calls.faults; faultless = no_call_fails a.two.calls } in
    record { book = a.blank; shape = three_rows 1; callers = 0; spare_hands = 0; told = true; stores = one ∷ one ∷ two ∷ []; puts = []; stripes = [] }
