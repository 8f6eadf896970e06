use Rattle.ecp_history.specs.table.Steps.{table_of}
use Rattle.ecp_catalog.specs.Outline.{loss_positions}
use Rattle.ecp_catalog.proofs.OutlineLaws.{same_parts, other_spare}
use Rattle.ecp_catalog.proofs.laws.room_is_no_part.Goals as goal

pub returns : goal.returns
returns c = record {
  files = λ shape told old new history name hands is reserves nodes.
      same_parts shape told (table_of shape history) (λ m. loss_positions m history) old new is reserves.shape reserves.files nodes;
  losses = other_spare;
}
