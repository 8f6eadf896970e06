use Rattle.std.proofs.Common.{subst, sym, ◌<◌, ◌≤◌, List, length, set, ◌∙◌, ap, arith}
use Rattle.ecp_catalog.specs.Catalogs.{NodeSeen, CatalogState, changed_at, spare_of, with_spare}
use Rattle.ecp_catalog.proofs.NodeLaws.{changed_at-read, on_ok_then, spare-room}
use Rattle.ecp_catalog.proofs.catalog.Catalog.reserve_loss.Goals as goal

pub returns-clause-ok : goal.returns-clause-ok
returns-clause-ok g c =
    let xs : List NodeSeen = c.self.inside.nodes.items in
    let m = c.args.node in
    let within : m < length xs = omega (arith, c.requires, ap (λ (x : CatalogState). x.shape.nodes) c.self.view_is, c.self.invariant.count) in
    on_ok_then c.reserve.result _ _ c.reserve.ensures.ok (λ is.
    ap (λ (ns : List NodeSeen). let y : CatalogState = record { shape = c.self.inside.files.shape; files = c.self.inside.files.files; nodes = ns; names = c.self.inside.files.names; room = c.self.inside.files.room } in y)
    (ap (set xs m) is ∙ changed_at-read (with_spare c.args.hands) m xs c.index_mut.result.now within c.index_mut.ensures.value)
    ∙ ap (λ (x : CatalogState). let y : CatalogState = record x { nodes = changed_at (with_spare c.args.hands) m x.nodes } in y) c.self.view_is)

pub returns-clause-room : goal.returns-clause-room
returns-clause-room g c =
    let xs : List NodeSeen = c.self.inside.nodes.items in
    let m = c.args.node in
    let within : m < length xs = omega (arith, c.requires, ap (λ (x : CatalogState). x.shape.nodes) c.self.view_is, c.self.invariant.count) in
    on_ok_then c.reserve.result _ _ c.reserve.ensures.ok (λ is.
    subst (λ (ns : List NodeSeen). c.args.hands ≤ spare_of ns m)
    (sym (ap (set xs m) is ∙ changed_at-read (with_spare c.args.hands) m xs c.index_mut.result.now within c.index_mut.ensures.value)) (spare-room c.args.hands m xs within))
