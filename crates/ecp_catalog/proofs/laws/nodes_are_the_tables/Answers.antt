use Rattle.std.proofs.Common.{List, ap, map, slice_get, count_by, false}
use Rattle.std.specs.Option.{option_map_or}
use Rattle.ecp_history.specs.table.Placement.{mask_of}
use Rattle.ecp_history.specs.declared.table.node.Node.{Node}
use Rattle.ecp_catalog.proofs.laws.nodes_are_the_tables.Goals as goal

pub returns : goal.returns
returns c = record {
  mask = λ shape told c history is. ap (λ (ns : List Node). mask_of (map (λ x. x.up) ns)) is.nodes;
  count = λ shape told c history is. ap (count_by (λ (x : Node). x.up)) is.nodes;
  up = λ shape told c history m is. ap (λ (ns : List Node). option_map_or (λ x. x.up) (slice_get ns m) false) is.nodes;
  inc = λ shape told c history m is. ap (λ (ns : List Node). option_map_or (λ x. x.inc) (slice_get ns m) 0) is.nodes;
}
