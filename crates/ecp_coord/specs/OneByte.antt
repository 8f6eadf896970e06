-- A worked put of one byte: the rows of its one stripe, each on the place that its reservation gives it.
use Rattle.std.specs.Prelude.{◌≡◌, ℕ, List, length, slice_get, slice_index, Some, ⊤}
use Rattle.ecp_node.specs.Receipts.{ReceiptState}
use Rattle.ecp_history.specs.table.Placement.{place}
use Rattle.ecp_coord.specs.declared.published.Published.{Published}
use Rattle.ecp_coord.specs.declared.published.Published.TheVariants.{Stored, NameTaken, Overtaken}
use Rattle.ecp_coord.specs.declared.reservation.Reservation.{Reservation}

-- the receipt is that of a row of the first stripe, one byte on its place, in the incarnation that the reservation has of the node
pub record IsRowOf {N : Type 0} (res : Reservation N) (r : ℕ) (x : ReceiptState) : Type 0 where
  pub stripe : x.stripe ≡ res.first
  pub row : x.row ≡ r
  pub node : x.node ≡ place res.up res.first r
  pub inc : x.inc ≡ slice_index res.incs x.node
  pub bytes : length x.bytes ≡ 1

-- the receipts are those of so many rows, in rising order
pub record AreRowsOf {N : Type 0} (res : Reservation N) (n : ℕ) (rows : List ReceiptState) : Type 0 where
  pub count : length rows ≡ n
  pub each : (r : ℕ) (x : ReceiptState) → slice_get rows r ≡ Some x → IsRowOf res r x

-- a claim where the answer is that a loss overtook the put
abbrev pub IfOvertaken : {N : Type 0} → Published N → Type 0 → Type 0
IfOvertaken (Stored first stripes) claim = ⊤
IfOvertaken (NameTaken receipts) claim = ⊤
IfOvertaken (Overtaken at receipts) claim = claim
