-- The ends of the links by which messages leave for the nodes and come home.
use Rattle.std.specs.Prelude.{ℕ, List}
use Rattle.ecp_link.specs.Links.{Sending, Takings}
use Rattle.ecp_slice.specs.Messages.{Message}

-- the senders to the nodes, by their numbers, the taker of what comes home, and the number by which messages find it
pub record PortState : Type 0 where
  pub to_nodes : List (Sending Message)
  pub taker : Takings Message
  pub slot : ℕ
