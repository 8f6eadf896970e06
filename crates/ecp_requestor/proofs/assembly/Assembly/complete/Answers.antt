use Rattle.std.proofs.Common.{sym, subst}
use Rattle.ecp_requestor.specs.Assemblies.{AssemblyState, IsComplete}
use Rattle.ecp_requestor.specs.AssemblyParts.{assembly_seen}
use Rattle.ecp_requestor.proofs.Whole.{whole_block}
use Rattle.ecp_requestor.proofs.assembly.Assembly.complete.Goals as goal

pub invariant_of-result : goal.invariant_of-result
invariant_of-result g c =
    let a : AssemblyState = assembly_seen c.self.inside in
    let all : IsComplete a = subst IsComplete (sym c.self.view_is) (c.is_complete.ensures.complete.0 c.if-not-is_complete.false) in
    record { of_history = c.self.invariant.of_history; whole = whole_block g.N.Names.shape g.N.Names.told a c.self.invariant.sound all }

pub returns-clause-right : goal.returns-clause-right
returns-clause-right g c =
    let a : AssemblyState = assembly_seen c.self.inside in
    let all : IsComplete a = subst IsComplete (sym c.self.view_is) (c.is_complete.ensures.complete.0 c.if-not-is_complete.false) in
    whole_block g.N.Names.shape g.N.Names.told a c.self.invariant.sound all
