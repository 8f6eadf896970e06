use Rattle.std.proofs.Common.{◌∙◌, ap}
use Rattle.ecp_rebuild.proofs.Handing.{begins, puts}
use Rattle.ecp_rebuild.proofs.Numbering.{fills_one}
use Rattle.ecp_rebuild.proofs.start.filled.Goals as goal

pub ruled-requires-clause-rule : goal.ruled-requires-clause-rule
ruled-requires-clause-rule g c = begins

pub push_as-requires-clause-rule : goal.push_as-requires-clause-rule
push_as-requires-clause-rule g c = (puts _ _ _ _ (ap (λ v. v.parts) c.loop-number.invariant.jobs), λ items views h at. tt)

pub loop-number-preserved : goal.loop-number-preserved
loop-number-preserved g c =
    let i = c.loop-number.invariant in record {
      pass = (c.push_as.ensures.queue.0 ∙ i.pass.0, c.push_as.ensures.queue.2 ∙ i.pass.1);
      jobs = fills_one _ _ _ _ _ c.loop-number-test.true i.jobs c.in-Ok.ensures.rule;
    }
