-- What a block keeps in its fields.
use Rattle.std.specs.Prelude.{◌≡◌, Bool}
use Rattle.ecp_shape.specs.declared.shape.Shape.{Shape}
use Rattle.ecp_book.specs.Logs.{history_log}
use Rattle.ecp_requestor.specs.declared.assembled.Assembled.TheInside.{Inside}
use Rattle.ecp_requestor.specs.Blocks.{AssembledState, IsAssembled}

-- what the fields say
abbrev pub block_seen : {N : Type 0} → Inside N → AssembledState
block_seen fields = record { stripe = fields.stripe; row = fields.row; front = fields.front.items; bytes = fields.bytes.items }

-- the front is of the history, and the block keeps what each does
pub record IsBlockKept {N : Type 0} (shape : Shape) (told : Bool) (fields : Inside N) : Type 0 where
  pub of_history : fields.front.log ≡ history_log
  pub whole : IsAssembled shape told (block_seen fields)
