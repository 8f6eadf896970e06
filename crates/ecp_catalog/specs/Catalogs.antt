-- What is seen of a catalog: its files with their receipts, and its nodes.
use Rattle.std.specs.Prelude.{◌≡◌, ℕ, ◌+◌, ◌-◌, ◌*◌, ◌<◌, ◌≤◌, ◌==◌, zero, suc, Bool, true, false, not, ◌||◌, List, [], ◌∷◌, ◌++◌, length, map, max, min, replicate, count_by, find, slice_get, slice_set, bytes_eq, nat_le, nat_lt, if◌then◌else◌, option_and_then, Option, Some, None}
use Rattle.std.specs.List.{list_any}
use Rattle.std.specs.Option.{option_map_or}
use Rattle.ecp_shape.specs.declared.shape.Shape.{Shape}
use Rattle.ecp_code.specs.Stripes.{stripe_count}
use Rattle.ecp_node.specs.Receipts.{ReceiptState}
use Rattle.ecp_history.specs.table.Placement.{nodes_in}
use Rattle.ecp_history.specs.declared.table.block_name.BlockName.{BlockName}
use Rattle.ecp_history.specs.declared.table.file.File.{File}
use Rattle.ecp_history.specs.declared.table.node.Node.{Node}
use Rattle.ecp_history.specs.declared.table.standing.Standing.{Standing}
use Rattle.ecp_history.specs.table.Tables.{PlainTable, block_count, file_block, stands_live}
use Rattle.ecp_catalog.specs.declared.limits.TheConstants.{END_OF_STRIPES}
use Rattle.ecp_catalog.specs.Standing.{FileSeen, file_with, receipts_in, standing}

-- a node: whether it is up and in which incarnation, how many live blocks stand on it, the positions of its losses in
-- the history, and for how many more of them there is room
pub record NodeSeen : Type 0 where
  pub node : Node
  pub live : ℕ
  pub losses : List ℕ
  pub spare : ℕ

-- the sizes, the files, the newest first, the nodes, the names that are entered, and how many files can be stored
-- without memory
pub record CatalogState : Type 0 where
  pub shape : Shape
  pub files : List FileSeen
  pub nodes : List NodeSeen
  pub names : List (List ℕ)
  pub room : ℕ

-- the files alone, as a catalog has them
pub record FilesSeen : Type 0 where
  pub shape : Shape
  pub files : List FileSeen
  pub names : List (List ℕ)
  pub room : ℕ

-- a node that has not been lost yet
abbrev pub new_node : NodeSeen
new_node = record { node = record { up = true; inc = 0 }; live = 0; losses = []; spare = 0 }

-- no file, and all nodes up
abbrev pub empty : Shape → CatalogState
empty shape = record { shape = shape; files = []; nodes = replicate shape.nodes new_node; names = []; room = 0 }

-- what a catalog says of its files
abbrev pub files_of : CatalogState → FilesSeen
files_of c = record { shape = c.shape; files = c.files; names = c.names; room = c.room }

-- what a catalog says of files and nodes, as a plain table that has no stripes
abbrev pub plain : CatalogState → PlainTable
plain c = record { files = map (λ f. f.file) c.files; stripes = []; nodes = map (λ x. x.node) c.nodes }

-- the file of this name among some files, the newest first
abbrev pub file_named : List FileSeen → List ℕ → Option File
file_named files name = find (λ f. bytes_eq f.name name) (map (λ f. f.file) files)

-- the block of a stripe that block j of the file of this name is, if that file is there and has so many
abbrev pub block_named : Shape → List FileSeen → List ℕ → ℕ → Option BlockName
block_named shape files name j =
    option_and_then (λ f. if nat_lt j (block_count shape f) then Some (file_block shape f j) else None) (file_named files name)

-- whether a name is entered among these: a file of this name is there, or can be stored
abbrev pub is_entered : List (List ℕ) → List ℕ → Bool
is_entered names name = list_any (bytes_eq name) names

-- how many live blocks stand on a node
abbrev pub live_of : List NodeSeen → ℕ → ℕ
live_of nodes m = option_map_or (λ x. x.live) (slice_get nodes m) 0

-- the positions of a node's losses, rising
abbrev pub losses_of : List NodeSeen → ℕ → List ℕ
losses_of nodes m = option_map_or (λ x. x.losses) (slice_get nodes m) []

-- for how many more losses of a node there is room
abbrev pub spare_of : List NodeSeen → ℕ → ℕ
spare_of nodes m = option_map_or (λ x. x.spare) (slice_get nodes m) 0

-- the first of a node's losses that is not before a position
abbrev pub first_loss : List NodeSeen → ℕ → ℕ → Option ℕ
first_loss nodes point m = find (nat_le point) (losses_of nodes m)

-- the earlier of two positions, as far as there are any
abbrev pub earlier : Option ℕ → Option ℕ → Option ℕ
earlier None b = b
earlier (Some a) None = Some a
earlier (Some a) (Some b) = Some (min a b)

-- the earliest of these positions
abbrev pub earliest : List (Option ℕ) → Option ℕ
earliest [] = None
earliest (o ∷ os) = earlier o (earliest os)

-- the first loss of a node of a mask that is not before a position
abbrev pub first_loss_among : List NodeSeen → ℕ → ℕ → Option ℕ
first_loss_among nodes mask point = earliest (map (first_loss nodes point) (nodes_in mask))

-- the node with this number, changed
abbrev pub changed_at : (NodeSeen → NodeSeen) → ℕ → List NodeSeen → List NodeSeen
changed_at change m [] = []
changed_at change zero (x ∷ xs) = change x ∷ xs
changed_at change (suc m) (x ∷ xs) = x ∷ changed_at change m xs

-- a node that is down: none of its blocks is live, and this position stands behind those of its other losses
abbrev pub lost_at : ℕ → NodeSeen → NodeSeen
lost_at position x = record {
  node = record { up = false; inc = x.node.inc };
  live = 0;
  losses = x.losses ++ position ∷ [];
  spare = x.spare - 1;
}

-- a node that came up in its next incarnation
abbrev pub joined_node : NodeSeen → NodeSeen
joined_node x = record { node = record { up = true; inc = x.node.inc + 1 }; live = x.live; losses = x.losses; spare = x.spare }

-- a node on which one live block more stands
abbrev pub counted : NodeSeen → NodeSeen
counted x = record { node = x.node; live = x.live + 1; losses = x.losses; spare = x.spare }

-- a node with room for at least so many losses
abbrev pub with_spare : ℕ → NodeSeen → NodeSeen
with_spare hands x = record { node = x.node; live = x.live; losses = x.losses; spare = max x.spare hands }

-- a node, but for its count of live blocks
abbrev pub uncounted : NodeSeen → NodeSeen
uncounted x = record { node = x.node; live = 0; losses = x.losses; spare = x.spare }

-- the name is entered, and there is room for so many files
pub record Reserves (old new : FilesSeen) (name : List ℕ) (hands : ℕ) : Type 0 where
  pub shape : new.shape ≡ old.shape
  pub files : new.files ≡ old.files
  pub entered : (q : List ℕ) → is_entered new.names q ≡ (bytes_eq name q || is_entered old.names q)
  pub room : new.room ≡ max old.room hands

-- the file can be stored: its name is entered and free, there is room, its stripes are as many as its bytes fill and
-- have numbers that no other file has, and there is a receipt for each of their rows
pub record CanStore (c : FilesSeen) (f : FileSeen) : Type 0 where
  pub entered : is_entered c.names f.file.name ≡ true
  pub free : file_named c.files f.file.name ≡ None
  pub room : 1 ≤ c.room
  pub counted : f.file.stripes ≡ stripe_count c.shape.k c.shape.block f.file.len
  pub below : f.file.first + f.file.stripes ≤ END_OF_STRIPES
  pub fresh : (s : ℕ) → f.file.first ≤ s → s < f.file.first + f.file.stripes → file_with c.files s ≡ None
  pub full : length f.rows ≡ f.file.stripes * c.shape.n

-- the files with one more, which takes the place of a reserved one
pub record AddsFile (old new : FilesSeen) (f : FileSeen) : Type 0 where
  pub shape : new.shape ≡ old.shape
  pub files : new.files ≡ f ∷ old.files
  pub names : new.names ≡ old.names
  pub room : new.room + 1 ≡ old.room

-- the nodes, with the live ones among these rows counted
pub record CountsRows (old new : List NodeSeen) (rows : List ReceiptState) : Type 0 where
  pub same : map uncounted new ≡ map uncounted old
  pub live : (m : ℕ) → live_of new m ≡ live_of old m + count_by (λ x. stands_live m (standing (map (λ y. y.node) old) x)) rows

-- the catalog with one file more
pub record Stores (old new : CatalogState) (f : FileSeen) : Type 0 where
  pub file : AddsFile (files_of old) (files_of new) f
  pub counts : CountsRows old.nodes new.nodes f.rows

-- the receipts of the rows of a stripe
abbrev pub receipts_of : CatalogState → ℕ → List ReceiptState
receipts_of c s = receipts_in c.shape.n c.files s

-- where the rows of a stripe stand
abbrev pub standings_of : CatalogState → ℕ → List Standing
standings_of c s = map (standing (plain c).nodes) (receipts_of c s)

-- the receipts of the rows of stripe s, with this one in the place of that of its row, if it is of the stripe
abbrev pub with_receipt : ReceiptState → ℕ → List ReceiptState → List ReceiptState
with_receipt x s rows = if s == x.stripe then slice_set rows x.row x else rows

-- the files are the same, but for the receipt of one row, in whose place this one stands
pub record Replaces (old new : FilesSeen) (x : ReceiptState) : Type 0 where
  pub shape : new.shape ≡ old.shape
  pub files : map (λ f. f.file) new.files ≡ map (λ f. f.file) old.files
  pub receipts : (s : ℕ) → receipts_in old.shape.n new.files s ≡ with_receipt x s (receipts_in old.shape.n old.files s)
  pub names : new.names ≡ old.names
  pub room : new.room ≡ old.room

-- the catalog with this receipt in the place of the one of its row, and with one live block more on its node
pub record Restores (old new : CatalogState) (x : ReceiptState) : Type 0 where
  pub files : Replaces (files_of old) (files_of new) x
  pub nodes : new.nodes ≡ changed_at counted x.node old.nodes

-- whether a row of a stripe is there and lost
abbrev pub is_lost_in : CatalogState → ℕ → ℕ → Bool
is_lost_in c s r = option_map_or (λ x. not x.live) (slice_get (standings_of c s) r) false

-- whether a row of a stripe is live
abbrev pub is_live_in : CatalogState → ℕ → ℕ → Bool
is_live_in c s r = option_map_or (λ x. x.live) (slice_get (standings_of c s) r) false
