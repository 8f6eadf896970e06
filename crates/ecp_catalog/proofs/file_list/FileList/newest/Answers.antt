use Rattle.std.proofs.Common.{◌≤◌, subst}
use Rattle.std.specs.BTreeMap.{get}
use Rattle.ecp_history.specs.table.Kept.{name_cmp}
use Rattle.ecp_catalog.specs.declared.limits.TheConstants.{END_OF_STRIPES}
use Rattle.ecp_catalog.specs.Catalogs.{FilesSeen}
use Rattle.ecp_catalog.specs.Kept.{joined, stripes_stored}
use Rattle.ecp_catalog.proofs.FileLaws.{stripes-below}
use Rattle.ecp_catalog.proofs.file_list.FileList.newest.Goals as goal

pub returns-clause-most : goal.returns-clause-most
returns-clause-most g c =
    subst (λ (x : FilesSeen). stripes_stored x.files ≤ END_OF_STRIPES) c.self.view_is
    (stripes-below c.self.inside.shape c.self.inside.files.items (λ q. joined (get name_cmp c.self.inside.names q)) c.self.inside.spans.items c.self.invariant.0)
