-- The plain table of files, blocks and nodes.
use Rattle.std.specs.Prelude.{ℕ, ◌+◌, ◌-◌, ◌/◌, ◌%◌, ◌==◌, Bool, true, false, not, ◌&&◌, List, [], map, filter, find, flat_map, count_by, sum_by, replicate, slice_get, bytes_eq, Option, IsSome}
use Rattle.std.specs.List.{range_with_len, enumerate_from}
use Rattle.std.specs.Option.{option_map_or}
use Rattle.ecp_code.specs.Rows.{row}
pub use Rattle.ecp_history.specs.declared.table.block_name.BlockName.{BlockName}
pub use Rattle.ecp_history.specs.declared.table.file.File.{File}
pub use Rattle.ecp_history.specs.declared.table.node.Node.{Node}
pub use Rattle.ecp_history.specs.declared.table.standing.Standing.{Standing}
use Rattle.ecp_shape.specs.declared.shape.Shape.{Shape}
use Rattle.ecp_history.specs.table.Placement.{mask_of}

-- a stripe: its number, its data blocks, and where each of its rows stands
pub record Stripe : Type 0 where
  pub number : ℕ
  pub blocks : List (List ℕ)
  pub rows : List Standing

-- a plain table: its files, the newest first, its stripes in rising order of their numbers, its nodes
pub record PlainTable : Type 0 where
  pub files : List File
  pub stripes : List Stripe
  pub nodes : List Node

-- a table, and the shape that it was made with
pub record Shaped : Type 0 where
  pub shape : Shape
  pub table : PlainTable

-- the table at the start: no file, and all nodes up
abbrev pub start : Shape → PlainTable
start shape = record { files = []; stripes = []; nodes = replicate shape.nodes (record { up = true; inc = 0 }) }

-- the newest file with this name, if there is one
abbrev pub file_of : PlainTable → List ℕ → Option File
file_of t name = find (λ f. bytes_eq f.name name) t.files

-- the stripe with this number, if there is one
abbrev pub stripe_of : PlainTable → ℕ → Option Stripe
stripe_of t s = find (λ x. x.number == s) t.stripes

-- there is a stripe with this number
abbrev pub HasStripe : PlainTable → ℕ → Type 0
HasStripe t s = IsSome (stripe_of t s)

-- where the rows of a stripe stand
abbrev pub rows_of : PlainTable → ℕ → List Standing
rows_of t s = option_map_or (λ x. x.rows) (stripe_of t s) []

-- where a row of a stripe stands, if there is such a row
abbrev pub standing_of : PlainTable → ℕ → ℕ → Option Standing
standing_of t s r = slice_get (rows_of t s) r

-- whether a block is live
abbrev pub is_live : PlainTable → ℕ → ℕ → Bool
is_live t s r = option_map_or (λ x. x.live) (standing_of t s r) false

-- whether a block is there and lost
abbrev pub is_lost : PlainTable → ℕ → ℕ → Bool
is_lost t s r = option_map_or (λ x. not x.live) (standing_of t s r) false

-- whether a row is live on a node
abbrev pub stands_live : ℕ → Standing → Bool
stands_live m x = x.live && (x.node == m)

-- whether a row is lost, and stands on a node
abbrev pub stands_lost : ℕ → Standing → Bool
stands_lost m x = not x.live && (x.node == m)

-- whether a block is live on a node
abbrev pub is_live_on : PlainTable → ℕ → ℕ → ℕ → Bool
is_live_on t s r m = option_map_or (stands_live m) (standing_of t s r) false

-- how many rows of a stripe are live
abbrev pub live_rows : PlainTable → ℕ → ℕ
live_rows t s = count_by (λ x. x.live) (rows_of t s)

-- how many blocks are live on a node
abbrev pub live_on : PlainTable → ℕ → ℕ
live_on t m = sum_by (λ x. count_by (stands_live m) x.rows) t.stripes

-- the rows of a stripe that are lost and stand on a node, in rising order
abbrev pub lost_rows : ℕ → Stripe → List BlockName
lost_rows m x = map (λ p. record { stripe = x.number; row = p.0 }) (filter (λ p. stands_lost m p.1) (enumerate_from 0 x.rows))

-- the blocks that are lost and stand on a node, in rising order of stripe and then of row
abbrev pub lost_on : PlainTable → ℕ → List BlockName
lost_on t m = flat_map (lost_rows m) t.stripes

-- the data blocks of a stripe
abbrev pub data_of : PlainTable → ℕ → List (List ℕ)
data_of t s = option_map_or (λ x. x.blocks) (stripe_of t s) []

-- the bytes of a block: the row of its stripe's data
abbrev pub block : PlainTable → ℕ → ℕ → List ℕ
block t s r = row (data_of t s) r

-- how many file blocks a file has
abbrev pub block_count : Shape → File → ℕ
block_count shape f = (f.len + shape.block - 1) / shape.block

-- the block of a stripe that this file block is
abbrev pub file_block : Shape → File → ℕ → BlockName
file_block shape f j = record { stripe = f.first + j / shape.k; row = j % shape.k }

-- how many blocks are live over all rows of all stripes of a file
abbrev pub file_live : PlainTable → File → ℕ
file_live t f = sum_by (live_rows t) (range_with_len f.first f.stripes)

-- whether a node is up
abbrev pub is_up : PlainTable → ℕ → Bool
is_up t m = option_map_or (λ x. x.up) (slice_get t.nodes m) false

-- whether a node is there and down
abbrev pub is_down : PlainTable → ℕ → Bool
is_down t m = option_map_or (λ x. not x.up) (slice_get t.nodes m) false

-- the incarnation of a node
abbrev pub inc_of : PlainTable → ℕ → ℕ
inc_of t m = option_map_or (λ x. x.inc) (slice_get t.nodes m) 0

-- how many nodes are up
abbrev pub up_count : PlainTable → ℕ
up_count t = count_by (λ x. x.up) t.nodes

-- the mask of the nodes that are up
abbrev pub up_mask : PlainTable → ℕ
up_mask t = mask_of (map (λ x. x.up) t.nodes)
