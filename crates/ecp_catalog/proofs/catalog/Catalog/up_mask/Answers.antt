use Rattle.std.proofs.Common.{List, map, ◌∙◌, ap}
use Rattle.ecp_history.specs.table.Placement.{mask_of}
use Rattle.ecp_history.specs.table.Tables.{up_mask}
use Rattle.ecp_catalog.specs.Catalogs.{NodeSeen, CatalogState, plain}
use Rattle.ecp_catalog.proofs.NodeLaws.{flags}
use Rattle.ecp_catalog.proofs.catalog.Catalog.up_mask.Goals as goal

pub returns : goal.returns
returns g c =
    c.up_among.ensures ∙ ap (λ (xs : List NodeSeen). mask_of (map (λ x. x.node.up) xs)) c.deref.ensures.value ∙ ap mask_of (flags c.self.inside.nodes.items)
    ∙ ap (λ (x : CatalogState). up_mask (plain x)) c.self.view_is
