use Rattle.std.proofs.Common.{◌∙◌, ℕ, ◌+◌, sym, subst, arith}
use Rattle.ecp_book.specs.Logs.{Log}
use Rattle.ecp_node.specs.Nodes.{start_of}
use Rattle.ecp_coord.specs.Coords.{CoordState}
use Rattle.ecp_cluster.specs.Ended.{AllPaid, HasPaid}
use Rattle.ecp_cluster.proofs.PaidLaws.{one_paid}
use Rattle.ecp_cluster.proofs.closing.settle_all.Goals as goal

pub loop-number-preserved : goal.loop-number-preserved
loop-number-preserved g c =
    let i = c.loop-number.invariant in
    let history : Log = c.args.coord.now.sequence.history in
    let x = c.settle.result in
    let here : HasPaid c.loop-number.coord.sequence.history (start_of g.N.Names.stores c.placed-node.result.number) c.placed-node.result.number (g.S.Store.faults x) = c.settle.ensures.paid in
    let of_coord = subst (λ (q : CoordState). HasPaid q.sequence.history (start_of g.N.Names.stores c.placed-node.result.number) c.placed-node.result.number (g.S.Store.faults x)) i.same here in
    let one : HasPaid history (start_of g.N.Names.stores c.loop-number.number) c.loop-number.number (g.S.Store.faults x) =
    subst (λ (k : ℕ). HasPaid history (start_of g.N.Names.stores k) k (g.S.Store.faults x)) c.placed-node.ensures.number of_coord in
    record {
      same = c.settle.ensures.same ∙ i.same;
      left = omega (arith, i.left, c.in-Some.ensures.cases);
      room = omega (arith, i.room, c.push_reserved.ensures.capacity);
      paid = subst (AllPaid g.S.Store.faults g.N.Names.stores history (c.loop-number.number + 1)) (sym c.push_reserved.ensures.items)
          (one_paid g.S.Store.faults g.N.Names.stores history c.loop-number.number c.loop-number.stores.items x i.paid one);
    }
