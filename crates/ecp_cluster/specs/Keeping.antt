-- The rows of a put at their nodes.
use Rattle.std.specs.Prelude.{◌≡◌, ℕ, ◌+◌, ◌*◌, Bool, List, length, slice_get, Some}
use Rattle.ecp_shape.specs.declared.shape.Shape.{Shape}
use Rattle.ecp_code.specs.Stripes.{stripes}
use Rattle.ecp_node.specs.Receipts.{ReceiptState}
use Rattle.ecp_history.specs.Fronts.{told_table}
use Rattle.ecp_catalog.specs.Outline.{AreKept, AreOfRow, IsKeptAt}
use Rattle.ecp_coord.specs.declared.reservation.Reservation.{Reservation}
use Rattle.ecp_coord.specs.Puts.{ArePlaces}

-- a receipt is that of these bytes as a row of a stripe, which a node keeps in an incarnation
pub record IsKeptAs (node inc stripe row : ℕ) (bytes : List ℕ) (x : ReceiptState) : Type 0 where
  pub on_node : x.node ≡ node
  pub during : x.inc ≡ inc
  pub of_stripe : x.stripe ≡ stripe
  pub of_row : x.row ≡ row
  pub its_bytes : x.bytes ≡ bytes

-- the places of a reservation are those that the table of its front has
abbrev pub HasPlaces : {N : Type 0} → Shape → Reservation N → Type 0
HasPlaces shape res = ArePlaces shape (told_table shape res.front.items) res

-- a receipt is that of a row of a stripe with these data blocks, on the place that a reservation has for it
abbrev pub IsKeptFor : {N : Type 0} → Shape → Bool → Reservation N → ℕ → ℕ → List (List ℕ) → ReceiptState → Type 0
IsKeptFor shape told res stripe row blocks x = IsKeptAt shape told (told_table shape res.front.items) res.up stripe row blocks x

-- whatever the stripe's data blocks are, of which these bytes are the row
abbrev pub KeepsRow : {N : Type 0} → Shape → Bool → Reservation N → ℕ → ℕ → List ℕ → ReceiptState → Type 0
KeepsRow shape told res stripe row bytes x =
    (blocks : List (List ℕ)) → AreOfRow shape told blocks row bytes → IsKeptFor shape told res stripe row blocks x

-- the receipts are those of the first so many rows of a content, on the places that a reservation has for them
pub record AreFirstKept (shape : Shape) (told : Bool) {N : Type 0} (res : Reservation N) (content : List ℕ) (count : ℕ) (rows : List ReceiptState) : Type 0 where
  pub each : length rows ≡ count
  pub kept : AreKept shape told (told_table shape res.front.items) res.first res.up content rows

-- behind the receipts of the stripes before it there are those of the first so many rows of stripe i, which has these data blocks
abbrev pub AddsRows : {N : Type 0} → Shape → Bool → Reservation N → ℕ → List (List ℕ) → List ReceiptState → ℕ → List ReceiptState → Type 0
AddsRows shape told res i blocks old count new =
    (content : List ℕ) → slice_get (stripes shape.k shape.block content) i ≡ Some blocks →
    AreFirstKept shape told res content (i * shape.n) old → AreFirstKept shape told res content (i * shape.n + count) new
