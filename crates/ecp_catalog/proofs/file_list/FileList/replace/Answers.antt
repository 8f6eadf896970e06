use Rattle.std.proofs.Common.{◌≡◌, ◌+◌, ◌-◌, ◌*◌, ℕ, List, set, slice_get, Some, find, reverse, IsSome, refl, sym, ◌∙◌, ap, subst}
use Rattle.std.specs.BTreeMap.{get, keys}
use Rattle.ecp_history.specs.table.Kept.{name_cmp}
use Rattle.ecp_node.specs.Receipts.{ReceiptState}
use Rattle.ecp_catalog.specs.Catalogs.{FilesSeen, Replaces}
use Rattle.ecp_catalog.specs.Standing.{FileSeen, receipts_in}
use Rattle.ecp_catalog.specs.Kept.{covers, joined}
use Rattle.ecp_catalog.proofs.FileLaws.{HasStripe, span-leads, receipt-at, stripes-below}
use Rattle.ecp_catalog.proofs.ReplaceLaws.{IsReplaced, replaced, replacing, reverse-same}
use Rattle.ecp_catalog.proofs.file_list.FileList.replace.Goals as goal

pub overflow_sub-at : goal.overflow_sub-at
overflow_sub-at g c =
    let found : find (covers c.stripe-stripe.result) c.self.inside.spans.items ≡ Some c.in-Some.span = sym (c.in-Some.ensures ∙ ap (find (covers c.stripe-stripe.result)) c.deref.ensures.value) in
    let has : HasStripe c.self.inside.shape c.self.inside.files.items c.stripe-stripe.result c.in-Some.span.file c.index_mut-file.result.now =
    span-leads c.self.inside.shape c.self.inside.files.items (λ q. joined (get name_cmp c.self.inside.names q)) c.self.inside.spans.items c.stripe-stripe.result c.in-Some.span c.index_mut-file.result.now c.self.invariant.0 found c.index_mut-file.ensures.value in
    rw (ap (λ x. x.first) c.file.ensures) has.from

pub replace-requires : goal.replace-requires
replace-requires g c =
    let x : ReceiptState = c.args.receipt in
    let stripe : c.stripe-stripe.result ≡ x.stripe = c.stripe-stripe.ensures in
    let f : FileSeen = c.index_mut-file.result.now in
    let found : find (covers x.stripe) c.self.inside.spans.items ≡ Some c.in-Some.span =
    subst (λ (s : ℕ). find (covers s) c.self.inside.spans.items ≡ Some c.in-Some.span) stripe (sym (c.in-Some.ensures ∙ ap (find (covers c.stripe-stripe.result)) c.deref.ensures.value)) in
    let has : HasStripe c.self.inside.shape c.self.inside.files.items x.stripe c.in-Some.span.file f =
    span-leads c.self.inside.shape c.self.inside.files.items (λ q. joined (get name_cmp c.self.inside.names q)) c.self.inside.spans.items x.stripe c.in-Some.span f c.self.invariant.0 found c.index_mut-file.ensures.value in
    let there : IsSome (slice_get (receipts_in c.self.inside.shape.n (reverse c.self.inside.files.items) x.stripe) x.row) =
    subst (λ (y : FilesSeen). IsSome (slice_get (receipts_in y.shape.n y.files x.stripe) x.row)) (sym c.self.view_is) c.requires in
    rw (ap (λ y. y.first) c.file.ensures, c.from.ensures, c.row.ensures, stripe) (receipt-at c.self.inside.shape x.stripe x.row (reverse c.self.inside.files.items) f has.found has.has has.place.kept there).0

pub invariant_of-self : goal.invariant_of-self
invariant_of-self g c =
    let files : List FileSeen = c.self.inside.files.items in
    let x : ReceiptState = c.args.receipt in
    let f : FileSeen = c.index_mut-file.result.now in
    let found : find (covers x.stripe) c.self.inside.spans.items ≡ Some c.in-Some.span =
    subst (λ (s : ℕ). find (covers s) c.self.inside.spans.items ≡ Some c.in-Some.span) c.stripe-stripe.ensures
    (sym (c.in-Some.ensures ∙ ap (find (covers c.stripe-stripe.result)) c.deref.ensures.value)) in
    let there : IsSome (slice_get (receipts_in c.self.inside.shape.n (reverse files) x.stripe) x.row) =
    subst (λ (y : FilesSeen). IsSome (slice_get (receipts_in y.shape.n y.files x.stripe) x.row)) (sym c.self.view_is) c.requires in
    let at : (c.stripe-stripe.result - c.file.result.first) * c.self.inside.shape.n + c.from.result ≡ (x.stripe - f.file.first) * c.self.inside.shape.n + x.row =
    ap (λ (k : ℕ). (k - c.file.result.first) * c.self.inside.shape.n + c.from.result) c.stripe-stripe.ensures
    ∙ ap (λ (k : ℕ). (x.stripe - k) * c.self.inside.shape.n + c.from.result) (ap (λ y. y.first) c.file.ensures)
    ∙ ap (λ (k : ℕ). (x.stripe - f.file.first) * c.self.inside.shape.n + k) (c.from.ensures ∙ c.row.ensures) in
    let is : IsReplaced c.self.inside.shape files (set files c.in-Some.span.file c.replace.new.self) (λ q. joined (get name_cmp c.self.inside.names q)) c.self.inside.spans.items x =
    replacing c.self.inside.shape files (λ q. joined (get name_cmp c.self.inside.names q)) c.self.inside.spans.items c.in-Some.span f c.replace.new.self x c.self.invariant.0 found
    c.index_mut-file.ensures.value (c.replace.ensures ∙ ap (λ (k : ℕ). replaced f k x) at) there in
    (is.are, c.self.invariant.1)

pub returns-clause-files : goal.returns-clause-files
returns-clause-files g c =
    let files : List FileSeen = c.self.inside.files.items in
    let x : ReceiptState = c.args.receipt in
    let f : FileSeen = c.index_mut-file.result.now in
    let found : find (covers x.stripe) c.self.inside.spans.items ≡ Some c.in-Some.span =
    subst (λ (s : ℕ). find (covers s) c.self.inside.spans.items ≡ Some c.in-Some.span) c.stripe-stripe.ensures
    (sym (c.in-Some.ensures ∙ ap (find (covers c.stripe-stripe.result)) c.deref.ensures.value)) in
    let there : IsSome (slice_get (receipts_in c.self.inside.shape.n (reverse files) x.stripe) x.row) =
    subst (λ (y : FilesSeen). IsSome (slice_get (receipts_in y.shape.n y.files x.stripe) x.row)) (sym c.self.view_is) c.requires in
    let at : (c.stripe-stripe.result - c.file.result.first) * c.self.inside.shape.n + c.from.result ≡ (x.stripe - f.file.first) * c.self.inside.shape.n + x.row =
    ap (λ (k : ℕ). (k - c.file.result.first) * c.self.inside.shape.n + c.from.result) c.stripe-stripe.ensures
    ∙ ap (λ (k : ℕ). (x.stripe - k) * c.self.inside.shape.n + c.from.result) (ap (λ y. y.first) c.file.ensures)
    ∙ ap (λ (k : ℕ). (x.stripe - f.file.first) * c.self.inside.shape.n + k) (c.from.ensures ∙ c.row.ensures) in
    let is : IsReplaced c.self.inside.shape files (set files c.in-Some.span.file c.replace.new.self) (λ q. joined (get name_cmp c.self.inside.names q)) c.self.inside.spans.items x =
    replacing c.self.inside.shape files (λ q. joined (get name_cmp c.self.inside.names q)) c.self.inside.spans.items c.in-Some.span f c.replace.new.self x c.self.invariant.0 found
    c.index_mut-file.ensures.value (c.replace.ensures ∙ ap (λ (k : ℕ). replaced f k x) at) there in
    let new : List FileSeen = reverse (set files c.in-Some.span.file c.replace.new.self) in
    let seen : FilesSeen = record { shape = c.self.inside.shape; files = new; names = keys c.self.inside.names; room = c.self.inside.room } in
    subst (λ (y : FilesSeen). Replaces y seen x) c.self.view_is
    (record { shape = refl; files = reverse-same files (set files c.in-Some.span.file c.replace.new.self) is.same; receipts = is.receipts; names = refl; room = refl })

pub returns-clause-most : goal.returns-clause-most
returns-clause-most g c =
    let files : List FileSeen = c.self.inside.files.items in
    let x : ReceiptState = c.args.receipt in
    let f : FileSeen = c.index_mut-file.result.now in
    let found : find (covers x.stripe) c.self.inside.spans.items ≡ Some c.in-Some.span =
    subst (λ (s : ℕ). find (covers s) c.self.inside.spans.items ≡ Some c.in-Some.span) c.stripe-stripe.ensures
    (sym (c.in-Some.ensures ∙ ap (find (covers c.stripe-stripe.result)) c.deref.ensures.value)) in
    let there : IsSome (slice_get (receipts_in c.self.inside.shape.n (reverse files) x.stripe) x.row) =
    subst (λ (y : FilesSeen). IsSome (slice_get (receipts_in y.shape.n y.files x.stripe) x.row)) (sym c.self.view_is) c.requires in
    let at : (c.stripe-stripe.result - c.file.result.first) * c.self.inside.shape.n + c.from.result ≡ (x.stripe - f.file.first) * c.self.inside.shape.n + x.row =
    ap (λ (k : ℕ). (k - c.file.result.first) * c.self.inside.shape.n + c.from.result) c.stripe-stripe.ensures
    ∙ ap (λ (k : ℕ). (x.stripe - k) * c.self.inside.shape.n + c.from.result) (ap (λ y. y.first) c.file.ensures)
    ∙ ap (λ (k : ℕ). (x.stripe - f.file.first) * c.self.inside.shape.n + k) (c.from.ensures ∙ c.row.ensures) in
    let is : IsReplaced c.self.inside.shape files (set files c.in-Some.span.file c.replace.new.self) (λ q. joined (get name_cmp c.self.inside.names q)) c.self.inside.spans.items x =
    replacing c.self.inside.shape files (λ q. joined (get name_cmp c.self.inside.names q)) c.self.inside.spans.items c.in-Some.span f c.replace.new.self x c.self.invariant.0 found
    c.index_mut-file.ensures.value (c.replace.ensures ∙ ap (λ (k : ℕ). replaced f k x) at) there in
    stripes-below c.self.inside.shape (set files c.in-Some.span.file c.replace.new.self) (λ q. joined (get name_cmp c.self.inside.names q)) c.self.inside.spans.items is.are
