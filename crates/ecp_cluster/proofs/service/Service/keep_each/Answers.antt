use Rattle.std.proofs.Common.{◌≡◌, ℕ, ◌+◌, ◌<◌, List, sym, subst, arith}
use Rattle.ecp_code.specs.Stripes.{blocks}
use Rattle.ecp_node.specs.Receipts.{ReceiptState}
use Rattle.ecp_cluster.specs.Keeping.{AddsRows}
use Rattle.ecp_cluster.proofs.KeepLaws.{one_added}
use Rattle.ecp_cluster.proofs.service.Service.keep_each.Goals as goal

pub loop-row-preserved : goal.loop-row-preserved
loop-row-preserved g c =
    let shape = g.N.Names.shape in
    let told = g.N.Names.told in
    let i = c.loop-row.invariant in
    let bs : List (List ℕ) = blocks shape.k shape.block c.args.whole.now in
    let low : c.loop-row.row < shape.n = omega (arith, c.loop-row-test.true, c.n-row-end.ensures.n, c.requires.code.0) in
    record {
      count = omega (arith, i.count, c.push_reserved.ensures.len);
      room = omega (arith, i.room, c.push_reserved.ensures.capacity);
      adds = subst (λ (rows : List ReceiptState). AddsRows shape told c.args.res.now c.args.i bs c.args.rows.now.items (c.loop-row.row + 1) rows) (sym c.push_reserved.ensures.items)
          (one_added shape told c.args.res.now c.args.i c.args.stripe bs c.args.rows.now.items c.loop-row.rows.items c.loop-row.row c.in_ok-receipt.receipt c.requires.number low c.in_ok-receipt.ensures i.adds);
    }

pub returns-clause-ok : goal.returns-clause-ok
returns-clause-ok g c =
    let shape = g.N.Names.shape in
    let all : c.loop-row.row ≡ shape.n = omega (arith, c.loop-row-test.false, c.loop-row.auto.row-end, c.n-row-end.ensures.n, c.requires.code.0) in
    subst (λ (n : ℕ). AddsRows shape g.N.Names.told c.args.res.now c.args.i (blocks shape.k shape.block c.args.whole.now) c.args.rows.now.items n c.loop-row.rows.items) all c.loop-row.invariant.adds
