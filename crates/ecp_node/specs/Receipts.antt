-- What contracts see of a receipt.
use Rattle.std.specs.Prelude.{◌≡◌, ℕ, List, [], ◌∷◌, ◌++◌, length, take, drop, slice_index_or}
use Rattle.ecp_book.specs.Logs.{Log, node_log}
use Rattle.ecp_node.specs.Items.{Kept, kept_item}
use Rattle.ecp_node.specs.Held.{IsKept, wipes}

-- a block, the node that kept it, in which incarnation, and the beginning of the node's log that the receipt has
pub record ReceiptState : Type 0 where
  pub stripe : ℕ
  pub row : ℕ
  pub serial : ℕ
  pub inc : ℕ
  pub node : ℕ
  pub bytes : List ℕ
  pub items : Log

-- the bytes of the item that says that the block with this serial was kept: they stand behind its mark and three numbers
abbrev pub bytes_kept : Log → ℕ → List ℕ
bytes_kept log serial = drop 4 (slice_index_or log serial [])

-- the receipt of a block that was kept, from its tag's items
abbrev pub receipt_seen : ℕ → ℕ → ℕ → ℕ → ℕ → Log → ReceiptState
receipt_seen stripe row serial inc node items =
    record { stripe = stripe; row = row; serial = serial; inc = inc; node = node; bytes = bytes_kept items serial; items = items }

-- the block that it names
abbrev pub named : ReceiptState → Kept
named receipt = record { stripe = receipt.stripe; row = receipt.row; serial = receipt.serial; bytes = receipt.bytes }

-- The receipt's list is of this log, its node's, and has the `Kept` that it names, of its incarnation
pub record IsReceipt (log : ℕ) (receipt : ReceiptState) : Type 0 where
  pub own : log ≡ node_log receipt.node
  pub kept : IsKept receipt.items (named receipt)
  pub during : receipt.inc ≡ wipes (take receipt.serial receipt.items)

-- the block that a log of these items would keep next
abbrev pub next_kept : Log → ℕ → ℕ → List ℕ → Kept
next_kept items stripe row bytes = record { stripe = stripe; row = row; serial = length items; bytes = bytes }

-- the receipt of a block that a node has just kept, whose log had these items before
abbrev pub receipt_for : ℕ → Log → Kept → ReceiptState
receipt_for node items kept = record {
  stripe = kept.stripe;
  row = kept.row;
  serial = kept.serial;
  inc = wipes items;
  node = node;
  bytes = kept.bytes;
  items = items ++ kept_item kept ∷ [];
}
