-- The blocks of a catalog that are lost and stand on a node, and the tasks of a rebuild of it.
use Rattle.std.specs.Prelude.{ℕ, ◌+◌, ◌-◌, max, List, [], ◌∷◌, ◌++◌, flat_map, length, map}
use Rattle.std.specs.List.{enumerate_from, range_with_len}
use Rattle.ecp_node.specs.Receipts.{ReceiptState}
use Rattle.ecp_history.specs.declared.table.block_name.BlockName.{BlockName}
use Rattle.ecp_history.specs.declared.table.node.Node.{Node}
use Rattle.ecp_history.specs.declared.task.Task.{Task}
use Rattle.ecp_history.specs.table.Tables.{lost_rows}
use Rattle.ecp_catalog.specs.Standing.{FileSeen, receipts_in, rows_in, standing}
use Rattle.ecp_catalog.specs.Catalogs.{CatalogState, plain}

-- the number behind those of all stripes of these files
abbrev pub numbers_end : List FileSeen → ℕ
numbers_end [] = 0
numbers_end (f ∷ files) = max (f.file.first + f.file.stripes) (numbers_end files)

-- the rows of a stripe that are lost and stand on a node, in rising order, by their receipts
abbrev pub lost_by : List Node → ℕ → ℕ → List ReceiptState → List BlockName
lost_by nodes m s rows = lost_rows m (record { number = s; blocks = []; rows = map (standing nodes) rows })

-- the same of the stripes of one file that are numbered from a number on and up to another, each of n rows
abbrev pub lost_between : List Node → ℕ → ℕ → FileSeen → ℕ → ℕ → List BlockName
lost_between nodes m n f first end = flat_map (λ s. lost_by nodes m s (rows_in n s f)) (range_with_len first (end - first))

-- the same of all stripes of some files that have n rows each, in rising order of their numbers
abbrev pub lost_among : List Node → ℕ → ℕ → List FileSeen → List BlockName
lost_among nodes m n files = flat_map (λ s. lost_by nodes m s (receipts_in n files s)) (range_with_len 0 (numbers_end files))

-- the blocks of a catalog that are lost and stand on a node, in rising order of stripe and then of row
abbrev pub lost_in : CatalogState → ℕ → List BlockName
lost_in c m = lost_among (plain c).nodes m c.shape.n c.files

-- the task of this part that restores a block
abbrev pub task_of : ℕ → BlockName → Task
task_of part b = record { part = part; stripe = b.stripe; row = b.row }

-- tasks, and behind them those of these blocks, each of the next part
abbrev pub with_tasks : List Task → List BlockName → List Task
with_tasks tasks blocks = tasks ++ map (λ p. task_of p.0 p.1) (enumerate_from (length tasks + 1) blocks)

-- the tasks of these blocks, whose parts are numbered from 1
abbrev pub tasks_of : List BlockName → List Task
tasks_of blocks = with_tasks [] blocks
