use Rattle.std.proofs.Common.{◌≡◌, ◌<◌, List, length, set, ◌∙◌, ap, arith}
use Rattle.ecp_catalog.specs.Catalogs.{NodeSeen, CatalogState, changed_at, joined_node}
use Rattle.ecp_catalog.proofs.NodeLaws.{changed_at-read}
use Rattle.ecp_catalog.proofs.catalog.Catalog.join.Goals as goal

pub returns : goal.returns
returns g c =
    let xs : List NodeSeen = c.self.inside.nodes.items in
    let m = c.args.node in
    let within : m < length xs = omega (arith, c.requires.there, ap (λ (x : CatalogState). x.shape.nodes) c.self.view_is, c.self.invariant.count) in
    let nodes : set xs m c.join.new.self ≡ changed_at joined_node m xs =
    ap (set xs m) c.join.ensures ∙ changed_at-read joined_node m xs c.index_mut.result.now within c.index_mut.ensures.value in
    ap (λ (ns : List NodeSeen). let y : CatalogState = record { shape = c.self.inside.files.shape; files = c.self.inside.files.files; nodes = ns; names = c.self.inside.files.names; room = c.self.inside.files.room } in y) nodes
    ∙ ap (λ (x : CatalogState). let y : CatalogState = record x { nodes = changed_at joined_node m x.nodes } in y) c.self.view_is
