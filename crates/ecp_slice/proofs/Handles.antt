-- A message whose handle on its cancel word goes on is a message still.
use Rattle.std.proofs.Common.{Bool}
use Rattle.ecp_shape.specs.declared.shape.Shape.{Shape}
use Rattle.ecp_slice.specs.Cancels.{Cancelling}
use Rattle.ecp_slice.specs.declared.message.Parts.{Parts}
use Rattle.ecp_slice.specs.MessageParts.{IsMessage}

pub with_handle : {N : Type 0} (shape : Shape) (told : Bool) (parts : Parts N) (cancel : Cancelling) → IsMessage shape told parts → IsMessage shape told (record parts { cancel = cancel })
with_handle shape told parts cancel met = record {
  of_history = met.of_history;
  roomy = met.roomy;
  few = met.few;
  sound = record {
    planned = met.sound.planned;
    named = record { of_stripe = met.sound.named.of_stripe; of_rows = met.sound.named.of_rows; of_nodes = met.sound.named.of_nodes };
    placed = record { of_block = met.sound.placed.of_block; begins = met.sound.placed.begins; ends = met.sound.placed.ends };
    added = record { within = met.sound.added.within; counted = met.sound.added.counted; bits = met.sound.added.bits };
    summed_up = record { whole = met.sound.summed_up.whole; empty = met.sound.summed_up.empty; exact = met.sound.summed_up.exact };
  };
}
