-- The item of each value that is entered into a node's log.
use Rattle.std.specs.Prelude.{ℕ, List}
use Rattle.ecp_node.specs.declared.item.NodeItem.{NodeItem}
use Rattle.ecp_node.specs.declared.item.NodeItem.TheVariants.{Kept, Removed, Wiped, Faulted, Spent}
use Rattle.ecp_node.specs.Items.{kept_item, removed_item, wiped_item, faulted_item, spent_item}

abbrev pub item_of : NodeItem → List ℕ
item_of (Kept stripe row serial bytes) = kept_item (record { stripe = stripe; row = row; serial = serial; bytes = bytes.now })
item_of (Removed serial) = removed_item serial
item_of (Wiped inc) = wiped_item inc
item_of Faulted = faulted_item
item_of Spent = spent_item
