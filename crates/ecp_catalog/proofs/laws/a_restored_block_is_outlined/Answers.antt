use Rattle.ecp_catalog.proofs.RestoreLaws.{restored_outline, restores_lost, restores_up, live_few}
use Rattle.ecp_catalog.proofs.laws.a_restored_block_is_outlined.Goals as goal

pub returns : goal.returns
returns c = record {
  outline = λ shape told old new history e of.
      restored_outline shape told old new history e of.receipt of.legal of.outlined of.follows of.says of.bytes of.taken;
  lost = restores_lost;
  up = restores_up;
  few = live_few;
}
