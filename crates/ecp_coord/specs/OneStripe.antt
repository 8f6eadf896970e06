-- A worked put: the two rows of one stripe of one byte, each on the node of its number.
use Rattle.std.specs.Prelude.{◌≡◌, ℕ, List, [], ◌∷◌, length}
use Rattle.ecp_node.specs.Receipts.{ReceiptState}

-- the receipt is that of a row of stripe 0, on its node, which was not lost
pub record IsRow (r : ℕ) (x : ReceiptState) : Type 0 where
  pub stripe : x.stripe ≡ 0
  pub row : x.row ≡ r
  pub node : x.node ≡ r
  pub inc : x.inc ≡ 0
  pub bytes : length x.bytes ≡ 1

-- the receipts are those of both rows
pub record AreRows (rows : List ReceiptState) : Type 0 where
  pub zero_row : ReceiptState
  pub one_row : ReceiptState
  pub both : rows ≡ zero_row ∷ one_row ∷ []
  pub zero_is : IsRow 0 zero_row
  pub one_is : IsRow 1 one_row
