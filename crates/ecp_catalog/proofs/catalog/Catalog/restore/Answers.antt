use Rattle.std.proofs.Common.{◌≡◌, ◌*◌, ◌<◌, ◌≤◌, ℕ, List, set, length, map, sym, ◌∙◌, ap, subst, true, arith}
use Rattle.std.specs.Prelude.{All}
use Rattle.std.proofs.lemmas.List.{length-map, length-set}
use Rattle.ecp_shape.specs.Range.{IsInRange}
use Rattle.ecp_shape.specs.declared.shape.Shape.{Shape}
use Rattle.ecp_node.specs.Receipts.{ReceiptState}
use Rattle.ecp_catalog.specs.Catalogs.{NodeSeen, CatalogState, Restores, changed_at, counted, live_of}
use Rattle.ecp_catalog.specs.Standing.{FileSeen, standing}
use Rattle.ecp_catalog.specs.Kept.{AreNodes, rows_stored, stripes_stored}
use Rattle.ecp_catalog.proofs.NodeLaws.{changed_at-read}
use Rattle.ecp_catalog.proofs.CountLaws.{few-counted, live-read, live-within, rows-fit}
use Rattle.ecp_catalog.proofs.ReplaceLaws.{stripes-same}
use Rattle.ecp_catalog.proofs.catalog.Catalog.restore.Goals as goal

pub index_mut-requires : goal.index_mut-requires
index_mut-requires g c =
    let nodes : List NodeSeen = c.self.inside.nodes.items in
    let x : ReceiptState = c.args.receipt in
    let live : (standing (map (λ y. y.node) nodes) x).live ≡ true = subst (λ (y : CatalogState). (standing (map (λ z. z.node) y.nodes) x).live ≡ true) (sym c.self.view_is) c.requires.up in
    omega (arith, live-within (map (λ y. y.node) nodes) x live, length-map nodes (λ (y : NodeSeen). y.node), c.from-node.ensures, c.node.ensures, c.self.inside.nodes.ok.0)

pub count-requires : goal.count-requires
count-requires g c =
    let nodes : List NodeSeen = c.self.inside.nodes.items in
    let x : ReceiptState = c.args.receipt in
    let shape : Shape = c.self.inside.files.shape in
    let old : List FileSeen = c.self.inside.files.files in
    let node : c.from-node.result ≡ x.node = c.from-node.ensures ∙ c.node.ensures in
    let live : (standing (map (λ y. y.node) nodes) x).live ≡ true = subst (λ (y : CatalogState). (standing (map (λ z. z.node) y.nodes) x).live ≡ true) (sym c.self.view_is) c.requires.up in
    let within : c.from-node.result < length nodes = omega (arith, live-within (map (λ y. y.node) nodes) x live, length-map nodes (λ (y : NodeSeen). y.node), node) in
    let few : live_of nodes x.node < rows_stored shape old = subst (λ (y : CatalogState). live_of y.nodes x.node < rows_stored y.shape y.files) (sym c.self.view_is) c.requires.few in
    let read : live_of nodes c.from-node.result ≡ c.index_mut.result.now.live = live-read nodes c.from-node.result c.index_mut.result.now within c.index_mut.ensures.value in
    let same : stripes_stored c.replace.new.self.files ≡ stripes_stored old = stripes-same old c.replace.new.self.files c.replace.ensures.files.files in
    omega (arith, ap (live_of nodes) node, few, read, rows-fit shape old c.self.invariant.in_range (omega (arith, same, c.replace.ensures.most)))

pub invariant_of-self : goal.invariant_of-self
invariant_of-self g c =
    let nodes : List NodeSeen = c.self.inside.nodes.items in
    let x : ReceiptState = c.args.receipt in
    let shape : Shape = c.self.inside.files.shape in
    let old : List FileSeen = c.self.inside.files.files in
    let node : c.from-node.result ≡ x.node = c.from-node.ensures ∙ c.node.ensures in
    let live : (standing (map (λ y. y.node) nodes) x).live ≡ true = subst (λ (y : CatalogState). (standing (map (λ z. z.node) y.nodes) x).live ≡ true) (sym c.self.view_is) c.requires.up in
    let within : c.from-node.result < length nodes = omega (arith, live-within (map (λ y. y.node) nodes) x live, length-map nodes (λ (y : NodeSeen). y.node), node) in
    let few : live_of nodes x.node < rows_stored shape old = subst (λ (y : CatalogState). live_of y.nodes x.node < rows_stored y.shape y.files) (sym c.self.view_is) c.requires.few in
    let read : live_of nodes c.from-node.result ≡ c.index_mut.result.now.live = live-read nodes c.from-node.result c.index_mut.result.now within c.index_mut.ensures.value in
    let same : stripes_stored c.replace.new.self.files ≡ stripes_stored old = stripes-same old c.replace.new.self.files c.replace.ensures.files.files in
    let more : AreNodes shape old (set nodes c.from-node.result (counted c.index_mut.result.now)) = record {
      in_range = c.self.invariant.in_range;
      count = length-set nodes c.from-node.result (counted c.index_mut.result.now) ∙ c.self.invariant.count;
      few = few-counted nodes c.from-node.result (rows_stored shape old) c.index_mut.result.now (omega (arith, ap (live_of nodes) node, few, read)) c.self.invariant.few;
    } in
    let bound : rows_stored c.replace.new.self.shape c.replace.new.self.files ≡ rows_stored shape old =
    ap (λ (s : Shape). stripes_stored c.replace.new.self.files * s.n) c.replace.ensures.files.shape ∙ ap (λ (n : ℕ). n * shape.n) same in
    subst (λ (y : NodeSeen). AreNodes c.replace.new.self.shape c.replace.new.self.files (set nodes c.from-node.result y)) (sym c.count.ensures)
    (record {
      in_range = subst IsInRange (sym c.replace.ensures.files.shape) more.in_range;
      count = more.count ∙ sym (ap (λ (s : Shape). s.nodes) c.replace.ensures.files.shape);
      few = subst (λ (most : ℕ). All (λ y. y.live ≤ most) (set nodes c.from-node.result (counted c.index_mut.result.now))) (sym bound) more.few;
    })

pub returns : goal.returns
returns g c =
    let nodes : List NodeSeen = c.self.inside.nodes.items in
    let x : ReceiptState = c.args.receipt in
    let node : c.from-node.result ≡ x.node = c.from-node.ensures ∙ c.node.ensures in
    let live : (standing (map (λ y. y.node) nodes) x).live ≡ true = subst (λ (y : CatalogState). (standing (map (λ z. z.node) y.nodes) x).live ≡ true) (sym c.self.view_is) c.requires.up in
    let within : c.from-node.result < length nodes = omega (arith, live-within (map (λ y. y.node) nodes) x live, length-map nodes (λ (y : NodeSeen). y.node), node) in
    let seen : CatalogState =
    record { shape = c.replace.new.self.shape; files = c.replace.new.self.files; nodes = set nodes c.from-node.result c.count.new.self; names = c.replace.new.self.names; room = c.replace.new.self.room } in
    subst (λ (y : CatalogState). Restores y seen x) c.self.view_is
    (record {
      files = c.replace.ensures.files;
      nodes = ap (set nodes c.from-node.result) c.count.ensures ∙ changed_at-read counted c.from-node.result nodes c.index_mut.result.now within c.index_mut.ensures.value
          ∙ ap (λ (m : ℕ). changed_at counted m nodes) node;
    })
