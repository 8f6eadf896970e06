use Rattle.std.proofs.Common.{sym, ◌∙◌}
use Rattle.ecp_cluster.proofs.ReadLaws.{given_by}
use Rattle.ecp_cluster.proofs.service.Service.give.Goals as goal

pub returns-clause-read : goal.returns-clause-read
returns-clause-read g c = λ v asked from.
    given_by g.N.Names.shape g.N.Names.told v c.args.pass.now asked c.args.plan from _ _ c.new.result c.bytes.result.now c.finish.new.pass
    (c.bytes.ensures.bytes ∙ sym (c.new.ensures ∙ c.into_bytes.ensures)) c.finish.ensures.done
