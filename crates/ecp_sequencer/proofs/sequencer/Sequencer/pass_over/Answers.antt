use Rattle.std.proofs.Common.{arith}
use Rattle.ecp_sequencer.proofs.StepLaws.{pass_counts}
use Rattle.ecp_sequencer.proofs.sequencer.Sequencer.pass_over.Goals as goal

pub invariant_of-pass : goal.invariant_of-pass
invariant_of-pass g c = (
  pass_counts g.N.Names.callers g.N.Names.spare_hands c.pass.inside.front.log c.pass.inside.caller c.pass.inside.calls c.saturating_add-pass-inside.result c.pass.inside.front.items
      c.pass.inside.hand c.pass.inside.spare.items c.pass.invariant.0 (omega (arith, c.saturating_add-pass-inside.ensures)),
  c.pass.invariant.1,
  c.pass.invariant.2,
)
