use Rattle.std.proofs.Common.{◌≡◌, List, Some, sym, ◌∙◌, ap, subst, arith}
use Rattle.std.specs.BTreeMap.{get}
use Rattle.ecp_history.specs.table.Kept.{name_cmp}
use Rattle.ecp_catalog.specs.Catalogs.{FilesSeen, file_named}
use Rattle.ecp_catalog.specs.Standing.{FileSeen}
use Rattle.ecp_catalog.specs.Kept.{IsFile, joined}
use Rattle.ecp_catalog.proofs.FileLaws.{name-within, name-leads}
use Rattle.ecp_catalog.proofs.file_list.FileList.stored.Goals as goal

pub index-requires : goal.index-requires
index-requires g c =
    let files : List FileSeen = c.self.inside.files.items in
    let leads : joined (get name_cmp c.self.inside.names c.args.name.now) ≡ Some c.in-Some.at = sym (ap joined c.in_ok-at.ensures.value) ∙ c.in-Some.is in
    omega (arith, c.self.inside.files.ok.0, name-within c.self.inside.shape files (λ q. joined (get name_cmp c.self.inside.names q)) c.self.inside.spans.items c.args.name.now c.in-Some.at c.self.invariant.0 leads)

pub returns-in-Some-clause-named : goal.returns-in-Some-clause-named
returns-in-Some-clause-named g c =
    let files : List FileSeen = c.self.inside.files.items in
    let leads : joined (get name_cmp c.self.inside.names c.args.name.now) ≡ Some c.in-Some.at = sym (ap joined c.in_ok-at.ensures.value) ∙ c.in-Some.is in
    (name-leads c.self.inside.shape files (λ q. joined (get name_cmp c.self.inside.names q)) c.self.inside.spans.items c.args.name.now c.in-Some.at c.index.result.now c.self.invariant.0 leads c.index.ensures).0
    ∙ ap (λ (x : FilesSeen). file_named x.files c.args.name.now) c.self.view_is

pub returns-in-Some-clause-kept : goal.returns-in-Some-clause-kept
returns-in-Some-clause-kept g c =
    let files : List FileSeen = c.self.inside.files.items in
    let leads : joined (get name_cmp c.self.inside.names c.args.name.now) ≡ Some c.in-Some.at = sym (ap joined c.in_ok-at.ensures.value) ∙ c.in-Some.is in
    subst (λ (x : FilesSeen). IsFile x.shape c.index.result.now) c.self.view_is
    (name-leads c.self.inside.shape files (λ q. joined (get name_cmp c.self.inside.names q)) c.self.inside.spans.items c.args.name.now c.in-Some.at c.index.result.now c.self.invariant.0 leads c.index.ensures).1
