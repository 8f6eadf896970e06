-- What contracts see of a helper.
use Rattle.std.specs.Prelude.{ℕ, ◌+◌, ◌<◌, Bool, List, [], length, All}
use Rattle.ecp_shape.specs.declared.shape.Shape.{Shape}
use Rattle.ecp_node.specs.Nodes.{NodeState}
use Rattle.ecp_link.specs.Links.{Takings}
use Rattle.ecp_slice.specs.Messages.{Message}
use Rattle.ecp_slice.specs.Sound.{IsSound}
use Rattle.ecp_helper.specs.Senders.{Senders}

-- its node; what it knows of the link that it takes from, and of those that it sends on; the messages that it holds, each
-- list the oldest first: those whose slice was added here, and those that wait for that; how many it may hold together;
-- and how many bytes a block has
pub record HelperState : Type 0 where
  pub node : NodeState
  pub taker : Takings Message
  pub senders : Senders
  pub added : List Message
  pub waiting : List Message
  pub holds : ℕ
  pub block : ℕ

-- how many messages it holds
abbrev pub held : HelperState → ℕ
held h = length h.added + length h.waiting

-- there is room for one more
abbrev pub HasRoom : HelperState → Type 0
HasRoom h = held h < h.holds

-- every message that it holds is sound
pub record HoldsSound (shape : Shape) (told : Bool) (h : HelperState) : Type 0 where
  pub added : All (IsSound shape told) h.added
  pub waiting : All (IsSound shape told) h.waiting

-- a helper that holds nothing
abbrev pub new_helper : NodeState → Takings Message → Senders → ℕ → ℕ → HelperState
new_helper node taker senders holds block =
    record { node = node; taker = taker; senders = senders; added = []; waiting = []; holds = holds; block = block }
