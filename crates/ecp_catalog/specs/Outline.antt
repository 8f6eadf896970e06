-- When a catalog is the outline of a history: it says what the history's table says but for the bytes, its receipts name
-- the bytes, and it has the positions of the losses.
use Rattle.std.specs.Prelude.{◌≡◌, ℕ, ◌+◌, ◌*◌, ◌<◌, ◌≤◌, Bool, true, false, List, length, map, filter, slice_get, is_some, Some}
use Rattle.std.specs.List.{enumerate_from}
use Rattle.ecp_shape.specs.declared.shape.Shape.{Shape}
use Rattle.ecp_code.specs.Rows.{row}
use Rattle.ecp_code.specs.Stripes.{stripes}
use Rattle.ecp_node.specs.Receipts.{ReceiptState}
use Rattle.ecp_entry.specs.declared.act.Act.{Act}
use Rattle.ecp_entry.specs.declared.act.Act.TheVariants.{Stored, Lost, Joined, Restored, Drop}
use Rattle.ecp_entry.specs.declared.entry.Entry.{Entry}
use Rattle.ecp_entry.specs.Entries.{is_loss}
use Rattle.ecp_history.specs.table.Placement.{place}
use Rattle.ecp_history.specs.declared.table.file.File.{File}
use Rattle.ecp_history.specs.table.Tables.{PlainTable, stripe_of, rows_of, live_on, inc_of}
use Rattle.ecp_history.specs.table.Steps.{table_of}
use Rattle.ecp_history.specs.Fronts.{AreOfBlock}
use Rattle.ecp_history.specs.Legal.{IsLegal, MayFollow}
use Rattle.ecp_catalog.specs.Standing.{file_with}
use Rattle.ecp_catalog.specs.Catalogs.{CatalogState, Restores, Stores, plain, receipts_of, standings_of, live_of, losses_of}

-- the positions of the losses of a node in a history, rising
abbrev pub loss_positions : ℕ → List Entry → List ℕ
loss_positions m history = map (λ p. p.0) (filter (λ p. is_loss m p.1) (enumerate_from 0 history))

-- a receipt is that of this row of this stripe of the table: it names both, and the bytes of the block
pub record IsReceiptOf (shape : Shape) (told : Bool) (t : PlainTable) (s r : ℕ) (x : ReceiptState) : Type 0 where
  pub of_stripe : x.stripe ≡ s
  pub of_row : x.row ≡ r
  pub bytes : AreOfBlock shape told t s r x.bytes

-- The catalog has the files, the stripes and the nodes of a table. Each row stands as there, and its receipt names the
-- bytes that it has there, and is of no later incarnation than its node. Of each node its live blocks are counted, and the
-- positions of its losses are these
pub record IsOutlineOf (shape : Shape) (told : Bool) (c : CatalogState) (t : PlainTable) (lost : ℕ → List ℕ) : Type 0 where
  pub sizes : c.shape ≡ shape
  pub files : (plain c).files ≡ t.files
  pub nodes : (plain c).nodes ≡ t.nodes
  pub stripes : (s : ℕ) → is_some (file_with c.files s) ≡ is_some (stripe_of t s)
  pub rows : (s : ℕ) → standings_of c s ≡ rows_of t s
  pub receipts : (s r : ℕ) (x : ReceiptState) → slice_get (receipts_of c s) r ≡ Some x → IsReceiptOf shape told t s r x
  pub past : (s r : ℕ) (x : ReceiptState) → slice_get (receipts_of c s) r ≡ Some x → x.inc ≤ inc_of t x.node
  pub live : (m : ℕ) → m < length c.nodes → live_of c.nodes m ≡ live_on t m
  pub losses : (m : ℕ) → m < length c.nodes → losses_of c.nodes m ≡ lost m

-- the catalog is the outline of a history: that of its table, with the positions of its losses
abbrev pub IsOutline : Shape → Bool → CatalogState → List Entry → Type 0
IsOutline shape told c history = IsOutlineOf shape told c (table_of shape history) (λ m. loss_positions m history)

-- whether an act changes the table
abbrev pub changes : Act → Bool
changes (Stored first stripes up) = true
changes (Lost count) = true
changes (Joined inc) = true
changes (Restored stripe row node inc) = true
changes (Drop stripe row) = true
changes _ = false

-- these bytes are this row of the data blocks of a stripe; where payloads are not told, they are as long as a block
abbrev pub AreOfRow : Shape → Bool → List (List ℕ) → ℕ → List ℕ → Type 0
AreOfRow shape true blocks r bytes = bytes ≡ row blocks r
AreOfRow shape false blocks r bytes = length bytes ≡ shape.block

-- a receipt is that of a row of a new stripe with these data blocks: it names the stripe, the row and its bytes, and the
-- row's place among the nodes of the mask, where it is live
pub record IsKeptAt (shape : Shape) (told : Bool) (t : PlainTable) (up s r : ℕ) (blocks : List (List ℕ)) (x : ReceiptState) : Type 0 where
  pub of_stripe : x.stripe ≡ s
  pub of_row : x.row ≡ r
  pub placed : x.node ≡ place up s r
  pub alive : slice_get t.nodes x.node ≡ Some (record { up = true; inc = x.inc })
  pub bytes : AreOfRow shape told blocks r x.bytes

-- receipt i * n + r is that of row r of stripe i of a content, whose stripes are numbered from this number on
abbrev pub AreKept : Shape → Bool → PlainTable → ℕ → ℕ → List ℕ → List ReceiptState → Type 0
AreKept shape told t first up content rows =
    (i r : ℕ) (blocks : List (List ℕ)) (x : ReceiptState) → slice_get (stripes shape.k shape.block content) i ≡ Some blocks →
    r < shape.n → slice_get rows (i * shape.n + r) ≡ Some x → IsKeptAt shape told t up (first + i) r blocks x

-- the file that an entry stores, which has as many stripes as its content
abbrev pub file_stored : Entry → ℕ → ℕ → File
file_stored e first count = record { name = e.name; len = length e.bytes; first = first; stripes = count }

-- An entry may follow a history and stores a file: the catalog, which was the history's outline, stored the file with the receipts of its
-- rows, and so became this one
pub record TakesFile (shape : Shape) (told : Bool) (old new : CatalogState) (history : List Entry) (e : Entry) : Type 0 where
  pub first : ℕ
  pub count : ℕ
  pub up : ℕ
  pub rows : List ReceiptState
  pub legal : IsLegal shape told history
  pub outlined : IsOutline shape told old history
  pub follows : MayFollow shape told history e
  pub says : e.line.act ≡ Stored first count up
  pub kept : AreKept shape told (table_of shape history) first up e.bytes rows
  pub full : length rows ≡ count * shape.n
  pub taken : Stores old new (record { file = file_stored e first count; rows = rows })

-- An entry may follow a history and restores a block: the catalog, which was the history's outline, took the receipt of the
-- block, and so became this one
pub record TakesBlock (shape : Shape) (told : Bool) (old new : CatalogState) (history : List Entry) (e : Entry) : Type 0 where
  pub receipt : ReceiptState
  pub legal : IsLegal shape told history
  pub outlined : IsOutline shape told old history
  pub follows : MayFollow shape told history e
  pub says : e.line.act ≡ Restored receipt.stripe receipt.row receipt.node receipt.inc
  pub bytes : AreOfBlock shape told (table_of shape history) receipt.stripe receipt.row receipt.bytes
  pub taken : Restores old new receipt
