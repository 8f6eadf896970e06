-- The table that the items of a log tell.
use Rattle.std.specs.Prelude.{◌≡◌, ℕ, Bool, true, false, List, length}
use Rattle.ecp_field.specs.Lists.{AreBytes}
use Rattle.ecp_shape.specs.declared.shape.Shape.{Shape}
use Rattle.ecp_entry.specs.Told.{history_of}
use Rattle.ecp_history.specs.table.Tables.{PlainTable, HasStripe, block}
use Rattle.ecp_history.specs.table.Steps.{table_of}

-- the table of the history that items tell
abbrev pub told_table : Shape → List (List ℕ) → PlainTable
told_table shape items = table_of shape (history_of items)

-- these bytes are the block of a stripe and row; where payloads are not told, they are as long as one
abbrev pub AreOfBlock : Shape → Bool → PlainTable → ℕ → ℕ → List ℕ → Type 0
AreOfBlock shape true t stripe row bytes = bytes ≡ block t stripe row
AreOfBlock shape false t stripe row bytes = length bytes ≡ shape.block

-- the table that a front tells has the stripe, and these bytes are the block of this row of it
pub record IsBlockIn (shape : Shape) (told : Bool) (front : List (List ℕ)) (stripe row : ℕ) (bytes : List ℕ) : Type 0 where
  pub there : HasStripe (told_table shape front) stripe
  pub named : AreOfBlock shape told (told_table shape front) stripe row bytes

-- a list of bytes, as long as a block
pub record IsBlock (shape : Shape) (bytes : List ℕ) : Type 0 where
  pub len : length bytes ≡ shape.block
  pub bytes_are : AreBytes bytes
