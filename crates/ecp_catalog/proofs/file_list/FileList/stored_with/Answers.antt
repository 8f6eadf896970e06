use Rattle.std.proofs.Common.{◌≡◌, find, Some, sym, ◌∙◌, ap, subst, arith}
use Rattle.std.specs.BTreeMap.{get}
use Rattle.ecp_history.specs.table.Kept.{name_cmp}
use Rattle.ecp_catalog.specs.Catalogs.{FilesSeen}
use Rattle.ecp_catalog.specs.Standing.{file_with}
use Rattle.ecp_catalog.specs.Kept.{IsFile, covers, joined}
use Rattle.ecp_catalog.proofs.FileLaws.{span-within, span-leads}
use Rattle.ecp_catalog.proofs.file_list.FileList.stored_with.Goals as goal

pub index-requires : goal.index-requires
index-requires g c =
    let found : find (covers c.args.stripe) c.self.inside.spans.items ≡ Some c.in_ok-span.span =
    sym (c.in_ok-span.ensures ∙ ap (find (covers c.args.stripe)) c.deref.ensures.value) in
    omega (arith, c.self.inside.files.ok.0, span-within c.self.inside.shape c.self.inside.files.items (λ q. joined (get name_cmp c.self.inside.names q)) c.self.inside.spans.items c.args.stripe c.in_ok-span.span c.self.invariant.0 found)

pub returns-clause-found : goal.returns-clause-found
returns-clause-found g c =
    let found : find (covers c.args.stripe) c.self.inside.spans.items ≡ Some c.in_ok-span.span =
    sym (c.in_ok-span.ensures ∙ ap (find (covers c.args.stripe)) c.deref.ensures.value) in
    sym (span-leads c.self.inside.shape c.self.inside.files.items (λ q. joined (get name_cmp c.self.inside.names q)) c.self.inside.spans.items c.args.stripe c.in_ok-span.span c.index.result.now c.self.invariant.0 found c.index.ensures).found
    ∙ ap (λ (x : FilesSeen). file_with x.files c.args.stripe) c.self.view_is

pub returns-clause-has : goal.returns-clause-has
returns-clause-has g c =
    let found : find (covers c.args.stripe) c.self.inside.spans.items ≡ Some c.in_ok-span.span =
    sym (c.in_ok-span.ensures ∙ ap (find (covers c.args.stripe)) c.deref.ensures.value) in
    (span-leads c.self.inside.shape c.self.inside.files.items (λ q. joined (get name_cmp c.self.inside.names q)) c.self.inside.spans.items c.args.stripe c.in_ok-span.span c.index.result.now c.self.invariant.0 found c.index.ensures).has

pub returns-clause-kept : goal.returns-clause-kept
returns-clause-kept g c =
    let found : find (covers c.args.stripe) c.self.inside.spans.items ≡ Some c.in_ok-span.span =
    sym (c.in_ok-span.ensures ∙ ap (find (covers c.args.stripe)) c.deref.ensures.value) in
    subst (λ (x : FilesSeen). IsFile x.shape c.index.result.now) c.self.view_is
    (span-leads c.self.inside.shape c.self.inside.files.items (λ q. joined (get name_cmp c.self.inside.names q)) c.self.inside.spans.items c.args.stripe c.in_ok-span.span c.index.result.now c.self.invariant.0 found c.index.ensures).place.kept
