use Rattle.std.proofs.Common.{IsTrue, ◌↔◌, subst}
use Rattle.ecp_requestor.specs.Assemblies.{IsComplete}
use Rattle.ecp_requestor.specs.Errands.{ErrandState}
use Rattle.ecp_requestor.proofs.errand.Errand.is_complete.Goals as goal

pub returns : goal.returns
returns g c = subst (λ (e : ErrandState g.row.N.Denot). IsTrue c.is_complete.result ↔ IsComplete e.assembly) c.self.view_is c.is_complete.ensures.complete
