use Rattle.std.proofs.Common.{◌<◌}
use Rattle.ecp_requestor.specs.Fetching.{Advances}
use Rattle.ecp_requestor.proofs.fetching.fetch.Given as goal

abbrev pub invariant-loop : goal.invariant-loop
invariant-loop g l = record {
  advances : Advances g.N.Names.shape g.N.Names.told l.initial.pass l.fn.plan l.errand.plan l.pass;
  node : l.node < g.N.Names.shape.nodes;
}
