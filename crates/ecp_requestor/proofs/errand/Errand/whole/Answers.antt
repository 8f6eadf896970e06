use Rattle.std.proofs.Common.{sym, subst}
use Rattle.std.proofs.lemmas.Bool.{false≢true}
use Rattle.ecp_requestor.specs.Assemblies.{IsComplete}
use Rattle.ecp_requestor.specs.Errands.{ErrandState}
use Rattle.ecp_requestor.proofs.errand.Errand.whole.Goals as goal

pub unreachable-requires : goal.unreachable-requires
unreachable-requires g c =
    let all : IsComplete c.self.inside.assembly = subst (λ (e : ErrandState g.row.N.Denot). IsComplete e.assembly) (sym c.self.view_is) c.requires in
    false≢true (c.in-Err.ensures.cause.1 all)
