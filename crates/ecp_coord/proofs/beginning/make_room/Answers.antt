use Rattle.std.proofs.Common.{◌≡◌, ℕ, ◌≤◌, List, length, sym, ◌∙◌, ap, arith}
use Rattle.ecp_shape.specs.declared.shape.Shape.{Shape}
use Rattle.ecp_entry.specs.declared.deed.Deed.{Deed}
use Rattle.ecp_entry.specs.declared.deed.Deed.TheVariants.{Lose}
use Rattle.ecp_catalog.specs.Catalogs.{NodeSeen, CatalogState, with_spare}
use Rattle.ecp_coord.specs.Coords.{with_room}
use Rattle.ecp_coord.proofs.RoomLaws.{changed_at-past}
use Rattle.ecp_coord.proofs.beginning.make_room.Goals as goal

pub returns-then-node-shape-clause-ok : goal.returns-then-node-shape-clause-ok
returns-then-node-shape-clause-ok g c =
    let was : CatalogState = c.args.catalog.now in
    let m : ℕ = c.in-Lose.node in
    let past : length was.nodes ≤ m = omega (arith, c.if-node-shape.true, c.shape.ensures.nodes, ap (λ (s : Shape). s.nodes) c.shape.ensures.shape) in
    let same : with_room (Lose m) c.args.hands was ≡ was =
    ap (λ (ns : List NodeSeen). let y : CatalogState = record was { nodes = ns } in y) (changed_at-past (with_spare c.args.hands) m was.nodes past) in
    sym (ap (λ (d : Deed). with_room d c.args.hands was) c.in-Lose.is ∙ same)
