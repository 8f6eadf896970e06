-- What an assembly of a block says, and what holds of each.
use Rattle.std.specs.Prelude.{◌≡◌, ℕ, ◌<◌, ◌≤◌, ◌==◌, ◌&&◌, Bool, false, List, length, replicate, slice_index_or, All, IsTrue}
use Rattle.ecp_book.specs.Logs.{Log}
use Rattle.ecp_store.specs.Stores.{part}
use Rattle.ecp_shape.specs.declared.shape.Shape.{Shape}
use Rattle.ecp_shape.specs.Range.{IsInRange}
use Rattle.ecp_history.specs.Fronts.{told_table}
use Rattle.ecp_history.specs.Legal.{TellsLegal}
use Rattle.ecp_history.specs.table.Tables.{HasStripe, block as block_of}
use Rattle.ecp_plan.specs.Order.{slice_count, slice_start}
use Rattle.ecp_plan.specs.declared.plan.Plan.{Plan}
use Rattle.ecp_slice.specs.Messages.{Message, IsFull, slice_len}
use Rattle.ecp_slice.specs.Sound.{IsSound}

-- all that an assembly says: of which repair and attempt it is, which row of which stripe it makes, of how long a block
-- and slice; the history when the repair was planned; which slices are there; and the bytes, of which those slices count
pub record AssemblyState : Type 0 where
  pub repair : ℕ
  pub attempt : ℕ
  pub stripe : ℕ
  pub row : ℕ
  pub block : ℕ
  pub size : ℕ
  pub front : Log
  pub there : List Bool
  pub bytes : List ℕ

-- the assembly that begins for a plan: with no slice, and zeros
abbrev pub begun : {N : Type 0} → Plan N → AssemblyState
begun plan = record {
  repair = plan.repair;
  attempt = plan.attempt;
  stripe = plan.stripe;
  row = plan.row;
  block = plan.block;
  size = plan.slice;
  front = plan.front.items;
  there = replicate (slice_count plan.block plan.slice) false;
  bytes = replicate plan.block 0;
}

-- whether a slice is there
abbrev pub is_there : AssemblyState → ℕ → Bool
is_there a slice = slice_index_or a.there slice false

-- every slice is there
abbrev pub IsComplete : AssemblyState → Type 0
IsComplete a = All IsTrue a.there

-- the bytes of a slice, out of those of a block
abbrev pub slice_of : AssemblyState → ℕ → List ℕ → List ℕ
slice_of a slice bytes = part bytes (slice_start a.size slice) (slice_len a.block a.size slice)

-- the message is of the same repair, stripe and row, and of as long a block and slice
abbrev pub is_of : AssemblyState → Message → Bool
is_of a m = (m.repair == a.repair) && (m.stripe == a.stripe) && (m.row == a.row) && (m.block == a.block) && (m.size == a.size)

-- the slice came from one message of this repair, to which every helper was added once
pub record CameWhole (shape : Shape) (told : Bool) (a : AssemblyState) (slice : ℕ) : Type 0 where
  pub by : Message
  pub sound : IsSound shape told by
  pub full : IsFull by
  pub of_repair : IsTrue (is_of a by)
  pub of_slice : by.slice ≡ slice
  pub bytes : slice_of a slice a.bytes ≡ by.payload

-- where payloads are told, the slice has the bytes of the block in the table that the front tells
abbrev pub IsRight : Shape → Bool → AssemblyState → ℕ → Type 0
IsRight shape told a slice =
    IsTrue told → slice_of a slice a.bytes ≡ slice_of a slice (block_of (told_table shape a.front) a.stripe a.row)

-- What each assembly keeps: its front tells a legal history, whose table has the stripe; the row is one of the stripe; it
-- has the shape's block length and a place a slice; and each slice that is there came whole, and is right
pub record IsAssembly (shape : Shape) (told : Bool) (a : AssemblyState) : Type 0 where
  pub in_range : IsInRange shape
  pub of_row : a.row < shape.n
  pub legal : TellsLegal shape told a.front
  pub of_stripe : HasStripe (told_table shape a.front) a.stripe
  pub len_is : a.block ≡ shape.block
  pub some : 1 ≤ a.size
  pub within : a.size ≤ a.block
  pub places : length a.there ≡ slice_count a.block a.size
  pub roomy : length a.bytes ≡ a.block
  pub whole : (slice : ℕ) → IsTrue (is_there a slice) → CameWhole shape told a slice
  pub right : (slice : ℕ) → IsTrue (is_there a slice) → IsRight shape told a slice
