use Rattle.std.proofs.Common.{◌≡◌, ◌+◌, ◌*◌, ◌^◌, ◌<◌, ◌≤◌, ℕ, List, ◌∷◌, ◌++◌, length, take, drop, get_or, sym, ◌∙◌, ap, subst}
use Rattle.std.specs.Prelude.{All}
use Rattle.ecp_shape.specs.declared.shape.Shape.{Shape}
use Rattle.ecp_node.specs.Receipts.{ReceiptState}
use Rattle.ecp_catalog.specs.declared.limits.TheConstants.{END_OF_STRIPES}
use Rattle.ecp_catalog.specs.Catalogs.{NodeSeen, CatalogState, CountsRows}
use Rattle.ecp_catalog.specs.Standing.{FileSeen}
use Rattle.ecp_catalog.specs.Kept.{AreNodes, rows_stored, stripes_stored}
use Rattle.ecp_catalog.proofs.NodeLaws.{length-uncounted}
use Rattle.ecp_catalog.proofs.CountLaws.{fits, few-more, rows_stored-more, written, newest_rows}
use Rattle.ecp_catalog.proofs.catalog.Catalog.store.Goals as goal

pub count_rows-requires : goal.count_rows-requires
count_rows-requires g c =
    let f : FileSeen = record { file = c.args.file; rows = c.args.rows.items } in
    let shape = c.self.inside.files.shape in
    let old : List FileSeen = c.self.inside.files.files in
    let rows : c.newest.result.now ≡ f.rows = newest_rows c.store.new.self.files old f c.newest.result.now c.store.ensures.files c.newest.ensures.rows in
    let full : length f.rows ≡ f.file.stripes * shape.n = c.requires.full ∙ ap (λ (x : CatalogState). c.args.file.stripes * x.shape.n) (sym c.self.view_is) in
    let most : stripes_stored (f ∷ old) ≤ END_OF_STRIPES = subst (λ (fs : List FileSeen). stripes_stored fs ≤ END_OF_STRIPES) c.store.ensures.files c.newest.ensures.most in
    subst (λ (ns : List NodeSeen). All (λ x. x.live + length c.newest.result.now < 2 ^ 32) ns) (sym c.deref_mut.ensures.value)
    (subst (λ (rs : List ReceiptState). All (λ x. x.live + length rs < 2 ^ 32) c.self.inside.nodes.items) (sym rows)
    (λ k d h. fits shape old f (get_or c.self.inside.nodes.items k d).live c.self.invariant.in_range (c.self.invariant.few k d h) full most))

pub invariant_of-self : goal.invariant_of-self
invariant_of-self g c =
    let f : FileSeen = record { file = c.args.file; rows = c.args.rows.items } in
    let shape = c.self.inside.files.shape in
    let old : List FileSeen = c.self.inside.files.files in
    let nodes : List NodeSeen = c.self.inside.nodes.items in
    let new : List NodeSeen = c.count_rows.new.nodes in
    let rows : c.newest.result.now ≡ f.rows = newest_rows c.store.new.self.files old f c.newest.result.now c.store.ensures.files c.newest.ensures.rows in
    let full : length f.rows ≡ f.file.stripes * shape.n = c.requires.full ∙ ap (λ (x : CatalogState). c.args.file.stripes * x.shape.n) (sym c.self.view_is) in
    let counts : CountsRows nodes new f.rows =
    subst (λ (rs : List ReceiptState). CountsRows nodes new rs) rows (subst (λ (ns : List NodeSeen). CountsRows ns new c.newest.result.now) c.deref_mut.ensures.value c.count_rows.ensures) in
    let over = written c.self.inside.nodes.len new nodes (c.count_rows.auto.nodes ∙ c.deref_mut.ensures.len) in
    let size : length new ≡ length nodes = length-uncounted new ∙ ap length counts.same ∙ sym (length-uncounted nodes) in
    let bound : rows_stored shape old + length f.rows ≡ rows_stored shape (f ∷ old) = ap (λ (n : ℕ). rows_stored shape old + n) full ∙ sym (rows_stored-more shape old f) in
    let made : AreNodes shape (f ∷ old) new = record {
      in_range = c.self.invariant.in_range;
      count = size ∙ c.self.invariant.count;
      few = subst (λ (n : ℕ). All (λ x. x.live ≤ n) new) bound (few-more nodes new f.rows (rows_stored shape old) counts c.self.invariant.few);
    } in
    let put : List NodeSeen = take c.self.inside.nodes.len (new ++ drop (length new) nodes) in
    let whole : AreNodes shape (f ∷ old) put = subst (AreNodes shape (f ∷ old)) (sym over) made in
    let here : AreNodes shape c.store.new.self.files put = subst (λ (fs : List FileSeen). AreNodes shape fs put) (sym c.store.ensures.files) whole in
    subst (λ (s : Shape). AreNodes s c.store.new.self.files put) (sym c.store.ensures.shape) here
