use Rattle.std.proofs.Common.{eq-eqb, sym, subst, arith}
use Rattle.std.proofs.lemmas.Bool.{eqb-true}
use Rattle.ecp_requestor.specs.Assemblies.{AssemblyState, IsComplete}
use Rattle.ecp_requestor.specs.AssemblyParts.{assembly_seen}
use Rattle.ecp_requestor.proofs.Counting.{all_so, so_all}
use Rattle.ecp_requestor.proofs.assembly.Assembly.is_complete.Goals as goal

pub returns-clause-complete : goal.returns-clause-complete
returns-clause-complete g c =
    let a : AssemblyState = assembly_seen c.self.inside in (
      λ e. subst IsComplete c.self.view_is (all_so a.there (omega (arith, eqb-true c.self.inside.count c.len.result e, c.len.ensures, c.self.inside.there.ok.0, c.self.invariant.counted))),
      λ all. eq-eqb c.self.inside.count c.len.result (omega (arith, c.len.ensures, c.self.inside.there.ok.0, c.self.invariant.counted, so_all a.there (subst IsComplete (sym c.self.view_is) all))),
    )
