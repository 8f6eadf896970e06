use Rattle.ecp_catalog.proofs.LostBlockLaws.{each-task, length-numbered}
use Rattle.ecp_catalog.proofs.laws.tasks_are_those_of_the_blocks.Goals as goal

pub returns : goal.returns
returns c = record {
  count = λ blocks. length-numbered 1 blocks;
  each = λ blocks j. each-task blocks j;
}
