-- The senders of a helper, and what a push by one of them leaves.
use Rattle.std.specs.Prelude.{◌≡◌, ◌<◌, List, length, slice_get, slice_set, Option, Some}
use Rattle.ecp_link.specs.Links.{Sending, Goes, IsRefused}
use Rattle.ecp_slice.specs.Messages.{Message}
use Rattle.ecp_slice.specs.declared.next.Next.{Next}
use Rattle.ecp_slice.specs.declared.next.Next.TheVariants.{Node, Home}

-- those to the nodes and those to the ports, by their numbers
pub record Senders : Type 0 where
  pub to_nodes : List (Sending Message)
  pub to_homes : List (Sending Message)

-- there is one to this stop
abbrev pub HasSender : Senders → Next → Type 0
HasSender s (Node node) = node < length s.to_nodes
HasSender s (Home port) = port < length s.to_homes

-- the sender to a stop
abbrev pub sender_to : Senders → Next → Option (Sending Message)
sender_to s (Node node) = slice_get s.to_nodes node
sender_to s (Home port) = slice_get s.to_homes port

-- the senders with this one to the stop
abbrev pub with_sender : Senders → Next → Sending Message → Senders
with_sender s (Node node) one = record s { to_nodes = slice_set s.to_nodes node one }
with_sender s (Home port) one = record s { to_homes = slice_set s.to_homes port one }

-- the sender to the stop, before and after a call of it; the others stay
pub record ChangesOne (old new : Senders) (to : Next) (was now : Sending Message) : Type 0 where
  pub there : sender_to old to ≡ Some was
  pub others : new ≡ with_sender old to now

-- the message went onto the link to the stop
pub record Sends (old new : Senders) (to : Next) (m : Message) : Type 0 where
  pub was : Sending Message
  pub now : Sending Message
  pub one : ChangesOne old new to was now
  pub goes : Goes was now m

-- the link to the stop takes no message: it is full, or its sender has pushed as many as it may
pub record IsShut (old new : Senders) (to : Next) : Type 0 where
  pub was : Sending Message
  pub now : Sending Message
  pub one : ChangesOne old new to was now
  pub refused : IsRefused was now
