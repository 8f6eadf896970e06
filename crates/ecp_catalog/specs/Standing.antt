-- Where the rows of a stripe stand, by their receipts.
use Rattle.std.specs.Prelude.{ℕ, ◌+◌, ◌-◌, ◌*◌, ◌==◌, nat_le, nat_lt, Bool, false, ◌&&◌, List, [], map, filter, find, take, drop, slice_get, Option}
use Rattle.std.specs.List.{enumerate_from}
use Rattle.std.specs.Option.{option_map_or}
use Rattle.ecp_node.specs.Receipts.{ReceiptState}
use Rattle.ecp_history.specs.declared.table.file.File.{File}
use Rattle.ecp_history.specs.declared.table.node.Node.{Node}
use Rattle.ecp_history.specs.declared.table.standing.Standing.{Standing}
use Rattle.ecp_plan.specs.declared.live_row.LiveRow.{LiveRow}

-- a stored file, and the receipts of its rows: number i * n + r is that of row r of its stripe i
pub record FileSeen : Type 0 where
  pub file : File
  pub rows : List ReceiptState

-- whether a file has the stripe with this number
abbrev pub has_number : ℕ → FileSeen → Bool
has_number s f = nat_le f.file.first s && nat_lt s (f.file.first + f.file.stripes)

-- the file that has a stripe
abbrev pub file_with : List FileSeen → ℕ → Option FileSeen
file_with files s = find (has_number s) files

-- the receipts of the n rows of a stripe of a file
abbrev pub rows_in : ℕ → ℕ → FileSeen → List ReceiptState
rows_in n s f = take n (drop ((s - f.file.first) * n) f.rows)

-- the receipts of the n rows of a stripe, in their order
abbrev pub receipts_in : ℕ → List FileSeen → ℕ → List ReceiptState
receipts_in n files s = option_map_or (rows_in n s) (file_with files s) []

-- whether a node is up in this incarnation
abbrev pub is_up_in : ℕ → Node → Bool
is_up_in inc x = x.up && (x.inc == inc)

-- where the row of a receipt stands: on the receipt's node, and live where that node is up in the receipt's incarnation
abbrev pub standing : List Node → ReceiptState → Standing
standing nodes x = record { node = x.node; live = option_map_or (is_up_in x.inc) (slice_get nodes x.node) false }

-- the rows that are live, in rising order, each with its node
abbrev pub live_among : List Standing → List LiveRow
live_among rows = map (λ p. record { row = p.0; node = p.1.node }) (filter (λ p. p.1.live) (enumerate_from 0 rows))
