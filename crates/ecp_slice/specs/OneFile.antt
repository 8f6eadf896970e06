-- A history that stores one file as one stripe, for the tests.
use Rattle.std.specs.Prelude.{◌≡◌, ℕ, List, [], ◌∷◌, length, Some}
use Rattle.ecp_shape.specs.declared.shape.Shape.{Shape}
use Rattle.ecp_entry.specs.declared.act.Act.TheVariants.{Stored}
use Rattle.ecp_entry.specs.declared.deed.Deed.TheVariants.{Put}
use Rattle.ecp_entry.specs.declared.entry.Entry.{Entry}
use Rattle.ecp_entry.specs.declared.part.Part.TheVariants.{End}
use Rattle.ecp_entry.specs.Items.{item}
use Rattle.ecp_node.specs.Receipts.{ReceiptState}

-- three rows, two of them data, on three nodes
abbrev pub three_rows : ℕ → Shape
three_rows block = record { n = 3; k = 2; nodes = 3; block = block }

-- the entry that stores a file of these bytes, named `a`, as stripe 0
abbrev pub stores_file : List ℕ → Entry
stores_file bytes = record {
  line = record { caller = 0; call = 0; part = End; point = 0; act = Stored 0 1 7 };
  deed = Some (Put (97 ∷ []) (length bytes));
  name = 97 ∷ [];
  bytes = bytes;
}

-- its item
abbrev pub file_item : List ℕ → List ℕ
file_item bytes = item 0 (stores_file bytes)

-- a receipt of these bytes, as this row of stripe 0, on this node
pub record IsReceiptOf (receipt : ReceiptState) (of_row on_node : ℕ) (has : List ℕ) : Type 0 where
  pub stripe : receipt.stripe ≡ 0
  pub row : receipt.row ≡ of_row
  pub node : receipt.node ≡ on_node
  pub bytes : receipt.bytes ≡ has
