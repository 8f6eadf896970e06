use Rattle.ecp_node.specs.Shelves.{ServesNothing}
use Rattle.ecp_node.proofs.shelf.remove_all.Given as goal

abbrev pub invariant-loop-serial : goal.invariant-loop-serial
invariant-loop-serial g l = ServesNothing g.S.Store l.fn.store l.store
