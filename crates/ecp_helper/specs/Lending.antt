-- What a helper is once its node was lent.
use Rattle.std.specs.Borrow.{Fml, RattleType, MutBor, Lends}
use Rattle.ecp_book.specs.declared.names.Names.{Ghosts as NamesGhosts}
use Rattle.ecp_store.specs.declared.store.Store.{Ghosts as StoreGhosts}
use Rattle.ecp_node.specs.Nodes.{NodeState}
use Rattle.ecp_node.specs.contracts.node.Node.{the_row as node_row}
use Rattle.ecp_helper.specs.contracts.helper.Helper.{the_row as helper_row}
use Rattle.ecp_helper.specs.Helpers.{HelperState}

module _ (N S : RattleType) (names : NamesGhosts N.Denot) (store : StoreGhosts S.Denot) where
  -- its node is the last one behind r
  abbrev pub lends_node : MutBor HelperState → MutBor NodeState → Fml
  lends_node h r = Lends (helper_row N S names store) (node_row N S names store) h r (λ n. record h.now { node = n })
