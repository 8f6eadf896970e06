-- What the message of a slice says, and what its calls leave of it.
use Rattle.std.specs.Prelude.{◌≡◌, ℕ, ◌+◌, ◌-◌, ◌^◌, ◌<◌, nat_lt, if◌then◌else◌, List, [], length, map, replicate, bit_or, slice_index, slice_index_or}
use Rattle.ecp_field.specs.Lists.{sums, scaled}
use Rattle.ecp_store.specs.Stores.{part}
use Rattle.ecp_book.specs.Logs.{Log}
use Rattle.ecp_node.specs.Receipts.{ReceiptState}
use Rattle.ecp_plan.specs.Order.{slice_start, slice_end, helper_after}
use Rattle.ecp_plan.specs.declared.plan.Plan.{Plan}
use Rattle.ecp_slice.specs.Cancels.{Cancelling, copied}
use Rattle.ecp_slice.specs.declared.next.Next.{Next}
use Rattle.ecp_slice.specs.declared.next.Next.TheVariants.{Node, Home}

-- all that a message says: of which repair and attempt it is, which slice of which row it sums, which helpers were
-- added and how many they are, where it goes in the end, which bytes of a block the slice has, and of how long a block
-- and slice; the rows that help, their nodes and weights; the sum; the receipts of the helpers' blocks; the history when
-- the attempt was planned; and the handle on its cancel word
pub record Message : Type 0 where
  pub repair : ℕ
  pub attempt : ℕ
  pub slice : ℕ
  pub summed : ℕ
  pub stripe : ℕ
  pub row : ℕ
  pub lanes : ℕ
  pub at : ℕ
  pub home : ℕ
  pub off : ℕ
  pub len : ℕ
  pub block : ℕ
  pub size : ℕ
  pub rows : List ℕ
  pub nodes : List ℕ
  pub weights : List ℕ
  pub payload : List ℕ
  pub route : List ReceiptState
  pub front : Log
  pub cancel : Cancelling

-- how many helpers there are
abbrev pub helpers : Message → ℕ
helpers m = length m.rows

-- the helper that the slice visits after so many others
abbrev pub visited : Message → ℕ → ℕ
visited m t = helper_after m.lanes (helpers m) m.slice t

-- the helper that comes next
abbrev pub next_hop : Message → ℕ
next_hop m = visited m m.at

-- every helper was added
abbrev pub IsFull : Message → Type 0
IsFull m = m.at ≡ helpers m

-- a helper was not added yet
abbrev pub HasNext : Message → Type 0
HasNext m = m.at < helpers m

-- where the message goes next: to the node of the next helper, or home
abbrev pub next_of : Message → Next
next_of m = if nat_lt m.at (helpers m) then Node (slice_index m.nodes (next_hop m)) else Home m.home

-- what stands where there is no receipt
abbrev pub no_receipt : ReceiptState
no_receipt = record { stripe = 0; row = 0; serial = 0; inc = 0; node = 0; bytes = []; items = [] }

-- the receipt of a helper
abbrev pub receipt_at : Message → ℕ → ReceiptState
receipt_at m hop = slice_index_or m.route hop no_receipt

-- the receipt of the helper that comes next
abbrev pub next_receipt : Message → ReceiptState
next_receipt m = receipt_at m (next_hop m)

-- the message's slice of a block
abbrev pub slice_of : Message → List ℕ → List ℕ
slice_of m bytes = part bytes m.off m.len

-- how many bytes slice j has, of a block of so many bytes in slices of this size
abbrev pub slice_len : ℕ → ℕ → ℕ → ℕ
slice_len block size j = slice_end block size j - slice_start size j

-- the message that begins a slice of a plan, by a copy of this handle: with no helper added, and zeros
abbrev pub started : {N : Type 0} → Plan N → ℕ → Cancelling → ℕ → Message
started plan slice cancel home = record {
  repair = plan.repair;
  attempt = plan.attempt;
  slice = slice;
  summed = 0;
  stripe = plan.stripe;
  row = plan.row;
  lanes = plan.lanes;
  at = 0;
  home = home;
  off = slice_start plan.slice slice;
  len = slice_len plan.block plan.slice slice;
  block = plan.block;
  size = plan.slice;
  rows = map (λ hop. hop.row) plan.hops.items;
  nodes = map (λ hop. hop.node) plan.hops.items;
  weights = map (λ hop. hop.weight) plan.hops.items;
  payload = replicate (slice_len plan.block plan.slice slice) 0;
  route = map (λ hop. hop.receipt) plan.hops.items;
  front = plan.front.items;
  cancel = copied cancel;
}

-- the message that begins another slice of the same attempt
abbrev pub restarted : Message → ℕ → Message
restarted m slice = record m {
  slice = slice;
  summed = 0;
  at = 0;
  off = slice_start m.size slice;
  len = slice_len m.block m.size slice;
  payload = replicate (slice_len m.block m.size slice) 0;
}

-- the message once these bytes of a helper were added: times its weight, and the helper's bit is set
abbrev pub after_add : Message → ℕ → List ℕ → Message
after_add m hop bytes = record m {
  summed = bit_or m.summed (2 ^ hop);
  at = m.at + 1;
  payload = sums m.payload (scaled (slice_index m.weights hop) bytes);
}
