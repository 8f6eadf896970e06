-- What a message keeps in its fields.
use Rattle.std.specs.Prelude.{◌≡◌, ◌≤◌, Bool, length, take}
use Rattle.ecp_shape.specs.declared.limits.TheConstants.{MAX_ROWS}
use Rattle.ecp_shape.specs.declared.shape.Shape.{Shape}
use Rattle.ecp_book.specs.Logs.{history_log}
use Rattle.ecp_slice.specs.declared.message.Parts.{Parts}
use Rattle.ecp_slice.specs.Messages.{Message}
use Rattle.ecp_slice.specs.Sound.{IsSound}

-- what the fields say: the payload is as much of the room as the slice has bytes
abbrev pub message_seen : {N : Type 0} → Parts N → Message
message_seen fields = record {
  repair = fields.repair;
  attempt = fields.attempt;
  slice = fields.slice;
  summed = fields.summed;
  stripe = fields.stripe;
  row = fields.row;
  lanes = fields.lanes;
  at = fields.at;
  home = fields.home;
  off = fields.span.off;
  len = fields.span.len;
  block = fields.block;
  size = fields.size;
  rows = fields.rows.items;
  nodes = fields.nodes.items;
  weights = fields.weights.items;
  payload = take fields.span.len fields.room.items;
  route = fields.route.items;
  front = fields.front.items;
  cancel = fields.cancel;
}

-- the front is of the history, the room takes each slice, the helpers have a bit each, and the message is sound
pub record IsMessage {N : Type 0} (shape : Shape) (told : Bool) (fields : Parts N) : Type 0 where
  pub of_history : fields.front.log ≡ history_log
  pub roomy : length fields.room.items ≡ fields.size
  pub few : length fields.rows.items ≤ MAX_ROWS
  pub sound : IsSound shape told (message_seen fields)
