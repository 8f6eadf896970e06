-- A file of four bytes in a history, for the tests: its first block is row 0 of stripe 0.
use Rattle.std.specs.Prelude.{◌≡◌, ℕ, List, [], ◌∷◌}
use Rattle.ecp_book.specs.Logs.{Log, Known, history_log}
use Rattle.ecp_plan.specs.declared.plan.Plan.{Plan}
use Rattle.ecp_slice.specs.OneFile.{file_item}

-- the file, and its first block
abbrev pub file_bytes : List ℕ
file_bytes = 65 ∷ 66 ∷ 67 ∷ 68 ∷ []

abbrev pub first_block : List ℕ
first_block = 65 ∷ 66 ∷ []

-- a history that stores the file, and nothing else
abbrev pub file_log : Log
file_log = file_item file_bytes ∷ []

abbrev pub file_front : Known
file_front = record { log = history_log; items = file_log }

-- a plan of this repair for that block, in two slices
pub record IsOfFirst {N : Type 0} (repair : ℕ) (plan : Plan N) : Type 0 where
  pub repair_is : plan.repair ≡ repair
  pub stripe : plan.stripe ≡ 0
  pub row : plan.row ≡ 0
  pub block : plan.block ≡ 2
  pub size : plan.slice ≡ 1
