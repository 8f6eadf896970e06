-- Which histories are legal.
use Rattle.std.specs.Prelude.{◌≡◌, ℕ, Bool, List, take, slice_get, Some}
use Rattle.ecp_entry.specs.declared.entry.Entry.{Entry}
use Rattle.ecp_shape.specs.declared.shape.Shape.{Shape}
use Rattle.ecp_history.specs.table.Steps.{table_of, table_at}
use Rattle.ecp_history.specs.Follows.{PointFits}
use Rattle.ecp_history.specs.Calls.{Agrees}
use Rattle.ecp_history.specs.Parts.{PartFits}
use Rattle.ecp_history.specs.Acts.{HoldsIn}
use Rattle.ecp_history.specs.Files.{StoresBytes}
use Rattle.ecp_entry.specs.Told.{Tells, made_of, history_of}

-- an entry may come next, after the entries before it: its point, its call and part, and what its act says
pub record MayFollow (shape : Shape) (told : Bool) (before : List Entry) (e : Entry) : Type 0 where
  pub point : PointFits before e
  pub agrees : Agrees e
  pub part : PartFits shape before e e.line.part
  pub holds : HoldsIn shape told before (table_of shape before) (table_at shape before e.line.point) e e.line.act

-- each entry of the history may follow those before it. Where payloads are not told, nothing is said of the bytes that were read
abbrev pub IsLegal : Shape → Bool → List Entry → Type 0
IsLegal shape told history =
    (i : ℕ) (e : Entry) → slice_get history i ≡ Some e → MayFollow shape told (take i history) e

-- these are the items of a legal history, whose files have bytes
pub record TellsLegal (shape : Shape) (told : Bool) (items : List (List ℕ)) : Type 0 where
  pub tells : Tells items (made_of items)
  pub legal : IsLegal shape told (history_of items)
  pub bytes : StoresBytes (history_of items)
