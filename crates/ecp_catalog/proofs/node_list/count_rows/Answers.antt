use Rattle.std.proofs.Common.{◌≡◌, ◌+◌, ◌-◌, ◌^◌, ◌<◌, ℕ, List, length, map, take, set, get_or, true, false, sym, ◌∙◌, ap, subst, arith}
use Rattle.std.specs.Prelude.{All}
use Rattle.std.proofs.lemmas.List.{length-map}
use Rattle.ecp_node.specs.Receipts.{ReceiptState}
use Rattle.ecp_catalog.specs.Catalogs.{NodeSeen, CountsRows, counted}
use Rattle.ecp_catalog.specs.Standing.{standing}
use Rattle.ecp_catalog.proofs.CountLaws.{counts-live, counts-lost, live-within, room-live, room-lost}
use Rattle.ecp_catalog.proofs.node_list.count_rows.Goals as goal
use Rattle.ecp_catalog.proofs.node_list.count_rows.Goals.{then-stands, else-stands}

pub loop-receipt-preserved : goal.loop-receipt-preserved
loop-receipt-preserved g c =
    let old : List NodeSeen = c.args.nodes.now in
    let nodes : List NodeSeen = c.loop-receipt.nodes in
    let rows : List ReceiptState = c.args.rows.now in
    let i = c.loop-receipt.receipt-index in
    let x : ReceiptState = c.receipt-item.result in
    let low : i < length rows = c.loop-receipt-test.true in
    elim c.if-stands.branch [
      | then-stands w ↦
          let y : NodeSeen = w.index-nodes-from.result in
          let j : w.from.result ≡ x.node = w.from.ensures ∙ w.node.ensures in
          let at : y ≡ get_or nodes x.node y = w.index-nodes-from.is ∙ ap (λ (k : ℕ). get_or nodes k y) j in
          let live : (standing (map (λ z. z.node) nodes) x).live ≡ true = sym c.stands.ensures ∙ w.if-stands.true in
          let there : x.node < length nodes = omega (arith, live-within (map (λ z. z.node) nodes) x live, length-map nodes (λ (z : NodeSeen). z.node)) in
          let is : c.if-stands.nodes ≡ set nodes x.node (counted y) =
          w.nodes-is ∙ ap (λ (k : ℕ). set nodes k w.count.new.self) j ∙ ap (set nodes x.node) (w.count.ensures ∙ ap counted (sym w.index-nodes-from.is)) in
          record {
            counts = subst (λ (ns : List NodeSeen). CountsRows old ns (take (i + 1) rows)) (sym is)
                (counts-live old nodes rows i x low c.receipt-item.is y c.loop-receipt.invariant.counts live there at);
            room = subst (All (λ z. z.live + (length rows - (i + 1)) < 2 ^ 32)) (sym is) (room-live nodes (length rows) i x.node y low there at c.loop-receipt.invariant.room);
          }
      | else-stands w ↦
          let lost : (standing (map (λ z. z.node) nodes) x).live ≡ false = sym c.stands.ensures ∙ w.if-stands.false in
          record {
            counts = subst (λ (ns : List NodeSeen). CountsRows old ns (take (i + 1) rows)) (sym w.nodes-is)
                (counts-lost old nodes rows i x low c.receipt-item.is c.loop-receipt.invariant.counts lost);
            room = subst (All (λ z. z.live + (length rows - (i + 1)) < 2 ^ 32)) (sym w.nodes-is) (room-lost nodes (length rows) i c.loop-receipt.invariant.room);
          }
    ]
