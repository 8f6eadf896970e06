-- What a turn does with one message, from the links and lists that it comes from to those that it goes to.
use Rattle.std.specs.Prelude.{◌≡◌, ℕ, ◌+◌, ◌≤◌, Bool, IsTrue, List, [], ◌∷◌, ◌++◌, length, Option, Some, None, Result, Ok}
use Rattle.ecp_node.specs.Nodes.{NodeState, after_read as read_node, ReadAnswers}
use Rattle.ecp_node.specs.Receipts.{named}
use Rattle.ecp_node.specs.declared.node_read.NodeRead.{NodeRead}
use Rattle.ecp_link.specs.Links.{Takes, FindsNothing}
use Rattle.ecp_slice.specs.Cancels.{after_read as after_look, after_set}
use Rattle.ecp_slice.specs.Messages.{Message, next_hop, next_of, next_receipt, slice_of, after_add}
use Rattle.ecp_slice.specs.declared.next.Next.{Next}
use Rattle.ecp_slice.specs.declared.next.Next.TheVariants.{Node}
use Rattle.ecp_helper.specs.Gates.{Question}
use Rattle.ecp_helper.specs.Helpers.{HelperState, held, HasRoom}
use Rattle.ecp_helper.specs.Senders.{HasSender, Sends, IsShut}

-- what a turn goes by: whether payloads are told, whether the store tells, whether the gate is open, and what it may hold up
pub record Terms : Type 0 where
  pub told : Bool
  pub tells : Bool
  pub is_open : Bool
  pub shuts : Question → Bool

-- the oldest message that was added here goes on
pub record GoesOn (old new : HelperState) : Type 0 where
  pub message : Message
  pub rest : List Message
  pub oldest : old.added ≡ message ∷ rest
  pub sent : Sends old.senders new.senders (next_of message) message
  pub is : new ≡ record old { senders = new.senders; added = rest }

-- the oldest message that was added here finds its link full, and stays where it was
pub record StaysHeld (old new : HelperState) (to : Next) : Type 0 where
  pub message : Message
  pub rest : List Message
  pub oldest : old.added ≡ message ∷ rest
  pub next : to ≡ next_of message
  pub full : IsShut old.senders new.senders to
  pub is : new ≡ record old { senders = new.senders }

-- no message goes on first: none was added here, or the oldest that was finds the link to this stop full
abbrev pub NoneGoesOn : HelperState → HelperState → Option Next → Type 0
NoneGoesOn old new None = (old.added ≡ []) × (new ≡ old)
NoneGoesOn old new (Some to) = StaysHeld old new to

-- where there was room the link was empty
pub record NoneComes (old new : HelperState) : Type 0 where
  pub asked : HasRoom old → FindsNothing old.taker new.taker
  pub not_asked : old.holds ≤ held old → new.taker ≡ old.taker

-- the message comes from the link, for which there was room
pub record Comes (old new : HelperState) (m : Message) : Type 0 where
  pub room : HasRoom old
  pub taken : Takes old.taker new.taker m
  pub is : new ≡ record old { taker = new.taker }

-- none comes, and the message is the oldest that waits
pub record WaitedLongest (old new : HelperState) (m : Message) : Type 0 where
  pub none : NoneComes old new
  pub oldest : old.waiting ≡ m ∷ new.waiting
  pub is : new ≡ record old { taker = new.taker; waiting = new.waiting }

-- there is no message
pub record HasNone (old new : HelperState) : Type 0 where
  pub none : NoneComes old new
  pub nobody : old.waiting ≡ []
  pub is : new ≡ record old { taker = new.taker }

-- a message that was added here goes on
pub record GoesOut (old new : HelperState) (m : Message) : Type 0 where
  pub sent : Sends old.senders new.senders (next_of m) m
  pub is : new ≡ record old { senders = new.senders }

-- a message that was added here finds its link full, and is held as the newest of those
pub record IsKept (old new : HelperState) (m : Message) (to : Next) : Type 0 where
  pub next : to ≡ next_of m
  pub full : IsShut old.senders new.senders to
  pub is : new ≡ record old { senders = new.senders; added = old.added ++ m ∷ [] }

-- the message after a look at its cancel word that found this
abbrev pub looked : Message → ℕ → Message
looked m found = record m { cancel = after_look m.cancel found }

-- the message after a set of its cancel word to this reason that found this
abbrev pub given_up : Message → ℕ → ℕ → Message
given_up m reason found = record m { cancel = after_set m.cancel reason found }

-- where the message goes after the stop that comes next
abbrev pub stop_after : Message → Next
stop_after m = next_of (record m { at = m.at + 1 })

-- the message comes to this node next, and there is a sender to the stop after it
pub record IsHere (h : HelperState) (m : Message) : Type 0 where
  pub here : next_of m ≡ Node h.node.number
  pub onward : HasSender h.senders (stop_after m)

-- the message is wanted, and is here
pub record IsToAdd (h : HelperState) (m : Message) : Type 0 where
  pub wanted : m.cancel.known ≡ 0
  pub here : IsHere h m

-- what the gate is asked for the message at this node
abbrev pub question : ℕ → Message → Question
question node m = record { node = node; repair = m.repair; attempt = m.attempt; slice = m.slice }

-- the node before and after a read of the message's slice with this answer
pub record Reads (result : Result (Unit {0}) NodeRead) (old new : NodeState) (m : Message) : Type 0 where
  pub answer : ReadAnswers result old (next_receipt m).serial new.store_faults
  pub node : new ≡ read_node result old (named (next_receipt m)) m.len new.store_faults

-- the node reads the slice that the message's receipt names, and just that is added to the message
pub record Adds (told tells : Bool) (old new : NodeState) (m added : Message) : Type 0 where
  pub read : Reads (Ok tt) old new m
  pub bytes : List ℕ
  pub whole : length bytes ≡ m.len
  pub by_told : IsTrue told → bytes ≡ slice_of m (next_receipt m).bytes
  pub by_tells : IsTrue tells → bytes ≡ slice_of m (next_receipt m).bytes
  pub is : added ≡ after_add m (next_hop m) bytes
