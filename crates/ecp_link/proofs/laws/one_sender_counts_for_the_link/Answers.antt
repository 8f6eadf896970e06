use Rattle.ecp_link.proofs.Counts.{held_of_one, pushed_of_one}
use Rattle.ecp_link.proofs.laws.one_sender_counts_for_the_link.Goals as goal

pub returns : goal.returns
returns c = record { held = held_of_one; pushed = pushed_of_one }
