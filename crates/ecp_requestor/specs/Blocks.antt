-- A block whose slices are all there.
use Rattle.std.specs.Prelude.{◌≡◌, ℕ, ◌<◌, Bool, List, length}
use Rattle.ecp_book.specs.Logs.{Log}
use Rattle.ecp_shape.specs.declared.shape.Shape.{Shape}
use Rattle.ecp_history.specs.Fronts.{IsBlockIn}
use Rattle.ecp_history.specs.Legal.{TellsLegal}
use Rattle.ecp_requestor.specs.Assemblies.{AssemblyState}

-- its stripe and row, the history by which it was planned, and its bytes
pub record AssembledState : Type 0 where
  pub stripe : ℕ
  pub row : ℕ
  pub front : Log
  pub bytes : List ℕ

-- the block of an assembly
abbrev pub assembled : AssemblyState → AssembledState
assembled a = record { stripe = a.stripe; row = a.row; front = a.front; bytes = a.bytes }

-- What each keeps: its front tells a legal history, by whose table its bytes are the block of its stripe and row
pub record IsAssembled (shape : Shape) (told : Bool) (b : AssembledState) : Type 0 where
  pub of_row : b.row < shape.n
  pub legal : TellsLegal shape told b.front
  pub len : length b.bytes ≡ shape.block
  pub block : IsBlockIn shape told b.front b.stripe b.row b.bytes
