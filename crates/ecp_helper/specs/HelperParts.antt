-- What a helper keeps in its fields.
use Rattle.std.specs.Prelude.{◌≡◌, ◌≤◌, Bool, length, All}
use Rattle.std.specs.VecDeque.{deque_capacity}
use Rattle.ecp_shape.specs.declared.shape.Shape.{Shape}
use Rattle.ecp_slice.specs.Messages.{next_of}
use Rattle.ecp_helper.specs.declared.helper.Helper.TheInside.{Inside}
use Rattle.ecp_helper.specs.Helpers.{HelperState, held, HoldsSound}
use Rattle.ecp_helper.specs.Senders.{HasSender}

abbrev pub helper_seen : {N S : Type 0} → Inside N S → HelperState
helper_seen fields = record {
  node = fields.node;
  taker = fields.taker;
  senders = fields.senders;
  added = fields.room.added.items;
  waiting = fields.room.waiting.items;
  holds = fields.holds;
  block = length fields.room.buffer.items;
}

-- the buffer takes a block; there is room for every message that it may hold; each that was added here has a sender to its
-- next stop; and the messages are sound
pub record IsHelper {N S : Type 0} (shape : Shape) (told : Bool) (fields : Inside N S) : Type 0 where
  pub sized : length fields.room.buffer.items ≡ shape.block
  pub some : 1 ≤ fields.holds
  pub within : held (helper_seen fields) ≤ fields.holds
  pub room_added : fields.holds ≤ deque_capacity fields.room.added
  pub room_waiting : fields.holds ≤ deque_capacity fields.room.waiting
  pub onward : All (λ m. HasSender fields.senders (next_of m)) fields.room.added.items
  pub sound : HoldsSound shape told (helper_seen fields)
