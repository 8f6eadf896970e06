use Rattle.std.proofs.Common.{◌≡◌, ◌+◌, ◌-◌, ◌*◌, ℕ, List, set, slice_get, Some, find, reverse, IsSome, sym, ◌∙◌, ap, subst}
use Rattle.std.specs.BTreeMap.{get}
use Rattle.std.proofs.lemmas.List.{set-get_or}
use Rattle.ecp_history.specs.table.Kept.{name_cmp}
use Rattle.ecp_catalog.specs.Catalogs.{FilesSeen}
use Rattle.ecp_catalog.specs.Standing.{FileSeen, receipts_in}
use Rattle.ecp_catalog.specs.Kept.{AreFiles, covers, joined}
use Rattle.ecp_catalog.proofs.FileLaws.{HasStripe, span-leads, receipt-at}
use Rattle.ecp_catalog.proofs.file_list.FileList.receipt.Goals as goal

pub overflow_sub-at : goal.overflow_sub-at
overflow_sub-at g c =
    let found : find (covers c.args.stripe) c.self.inside.spans.items ≡ Some c.in-Some.span = sym (c.in-Some.ensures ∙ ap (find (covers c.args.stripe)) c.deref.ensures.value) in
    let has : HasStripe c.self.inside.shape c.self.inside.files.items c.args.stripe c.in-Some.span.file c.index_mut-file.result.now =
    span-leads c.self.inside.shape c.self.inside.files.items (λ q. joined (get name_cmp c.self.inside.names q)) c.self.inside.spans.items c.args.stripe c.in-Some.span c.index_mut-file.result.now c.self.invariant.0 found c.index_mut-file.ensures.value in
    rw (ap (λ x. x.first) c.file.ensures) has.from

pub receipt-requires : goal.receipt-requires
receipt-requires g c =
    let found : find (covers c.args.stripe) c.self.inside.spans.items ≡ Some c.in-Some.span = sym (c.in-Some.ensures ∙ ap (find (covers c.args.stripe)) c.deref.ensures.value) in
    let f : FileSeen = c.index_mut-file.result.now in
    let has : HasStripe c.self.inside.shape c.self.inside.files.items c.args.stripe c.in-Some.span.file f =
    span-leads c.self.inside.shape c.self.inside.files.items (λ q. joined (get name_cmp c.self.inside.names q)) c.self.inside.spans.items c.args.stripe c.in-Some.span f c.self.invariant.0 found c.index_mut-file.ensures.value in
    let there : IsSome (slice_get (receipts_in c.self.inside.shape.n (reverse c.self.inside.files.items) c.args.stripe) c.args.row) =
    subst (λ (x : FilesSeen). IsSome (slice_get (receipts_in x.shape.n x.files c.args.stripe) c.args.row)) (sym c.self.view_is) c.requires in
    rw (ap (λ x. x.first) c.file.ensures, c.from.ensures) (receipt-at c.self.inside.shape c.args.stripe c.args.row (reverse c.self.inside.files.items) f has.found has.has has.place.kept there).0

pub invariant_of-self : goal.invariant_of-self
invariant_of-self g c =
    let files : List FileSeen = c.self.inside.files.items in
    let i = c.in-Some.span.file in
    let f : FileSeen = c.index_mut-file.result.now in
    let same : set files i c.receipt.new.self ≡ files = ap (set files i) (c.receipt.ensures.kept ∙ c.index_mut-file.ensures.value) ∙ set-get_or files i f in (
      subst (λ (fs : List FileSeen). AreFiles c.self.inside.shape fs (λ q. joined (get name_cmp c.self.inside.names q)) c.self.inside.spans.items) (sym same) c.self.invariant.0,
      c.self.invariant.1,
    )

pub returns-clause-receipt : goal.returns-clause-receipt
returns-clause-receipt g c =
    let found : find (covers c.args.stripe) c.self.inside.spans.items ≡ Some c.in-Some.span = sym (c.in-Some.ensures ∙ ap (find (covers c.args.stripe)) c.deref.ensures.value) in
    let f : FileSeen = c.index_mut-file.result.now in
    let has : HasStripe c.self.inside.shape c.self.inside.files.items c.args.stripe c.in-Some.span.file f =
    span-leads c.self.inside.shape c.self.inside.files.items (λ q. joined (get name_cmp c.self.inside.names q)) c.self.inside.spans.items c.args.stripe c.in-Some.span f c.self.invariant.0 found c.index_mut-file.ensures.value in
    let there : IsSome (slice_get (receipts_in c.self.inside.shape.n (reverse c.self.inside.files.items) c.args.stripe) c.args.row) =
    subst (λ (x : FilesSeen). IsSome (slice_get (receipts_in x.shape.n x.files c.args.stripe) c.args.row)) (sym c.self.view_is) c.requires in
    let first : c.file.result.first ≡ f.file.first = ap (λ x. x.first) c.file.ensures in
    sym (ap (λ (x : FilesSeen). slice_get (receipts_in x.shape.n x.files c.args.stripe) c.args.row) c.self.view_is)
    ∙ (receipt-at c.self.inside.shape c.args.stripe c.args.row (reverse c.self.inside.files.items) f has.found has.has has.place.kept there).1
    ∙ ap (λ (k : ℕ). slice_get f.rows ((c.args.stripe - k) * c.self.inside.shape.n + c.args.row)) (sym first)
    ∙ ap (λ (k : ℕ). slice_get f.rows ((c.args.stripe - c.file.result.first) * c.self.inside.shape.n + k)) (sym c.from.ensures)
    ∙ c.receipt.ensures.receipt
