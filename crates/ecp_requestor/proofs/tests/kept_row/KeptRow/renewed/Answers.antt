use Rattle.std.proofs.Common.{sym, subst}
use Rattle.ecp_requestor.specs.Assemblies.{AssemblyState}
use Rattle.ecp_requestor.specs.Renewing.{IsOfBlock}
use Rattle.ecp_requestor.proofs.OneBlocks.{another_attempt}
use Rattle.ecp_requestor.proofs.Renewed.{is_of_block_after}
use Rattle.ecp_requestor.proofs.tests.kept_row.KeptRow.renewed.Goals as goal

pub renew-requires-clause-block : goal.renew-requires-clause-block
renew-requires-clause-block g c =
    let next = c.in_ok-next.next in
    let begun_is : IsOfBlock next c.in_ok-assembly.assembly =
    subst (IsOfBlock next) (sym c.in_ok-assembly.ensures.assembly) (another_attempt c.args.repair c.in_ok-plan.plan next c.in_ok-plan.ensures.first c.in_ok-next.ensures.first) in
    subst (IsOfBlock next) (sym c.accept.ensures.state) (is_of_block_after next c.accept.result c.in_ok-assembly.assembly _ begun_is)
