use Rattle.std.proofs.Common.{List, map, nat_eq, sym, subst}
use Rattle.std.specs.List.{IsDistinct}
use Rattle.ecp_history.specs.declared.table.standing.Standing.{Standing}
use Rattle.ecp_history.specs.table.Tables.{rows_of}
use Rattle.ecp_history.specs.table.Steps.{table_of}
use Rattle.ecp_catalog.specs.Standing.{live_among}
use Rattle.ecp_catalog.specs.Catalogs.{standings_of}
use Rattle.ecp_catalog.proofs.ApartLaws.{distinct_rows, distinct_nodes, all_apart}
use Rattle.ecp_catalog.proofs.laws.live_rows_stand_apart.Goals as goal

pub returns : goal.returns
returns c = record {
  rows = λ c s. distinct_rows (standings_of c s);
  nodes = λ shape told c history s in_range legal is.
      subst (λ (xs : List Standing). IsDistinct nat_eq (map (λ x. x.node) (live_among xs))) (sym (is.rows s))
      (distinct_nodes (rows_of (table_of shape history) s) (all_apart shape told history in_range legal s));
}
