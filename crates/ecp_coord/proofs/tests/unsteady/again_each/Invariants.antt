use Rattle.ecp_sequencer.specs.Passes.{IsWhole}
use Rattle.ecp_coord.specs.Puts.{IsReserved}
use Rattle.ecp_coord.proofs.tests.unsteady.again_each.Given as goal

abbrev pub invariant-loop-node : goal.invariant-loop-node
invariant-loop-node g l = record {
  reserved : IsReserved g.N.Names.shape g.N.Names.told l.pass l.res;
  other : IsWhole l.other;
}
