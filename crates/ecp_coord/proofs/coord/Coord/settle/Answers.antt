use Rattle.std.proofs.Common.{◌≡◌, ℕ, get_or, sym, ◌∙◌, ap, arith}
use Rattle.ecp_book.specs.Logs.{Known}
use Rattle.ecp_entry.specs.Told.{history_of}
use Rattle.ecp_history.specs.Counted.{faults_spent}
use Rattle.ecp_node.specs.Items.{is_spent}
use Rattle.ecp_node.specs.Held.{spends}
use Rattle.ecp_node.proofs.Laws.{count_in_whole}
use Rattle.ecp_coord.specs.Coords.{CoordState}
use Rattle.ecp_coord.proofs.coord.Coord.settle.Goals as goal

pub returns-clause-paid : goal.returns-clause-paid
returns-clause-paid g c =
    let m : ℕ = c.args.node.now.number in
    let t : Known = c.index_mut.result.now in
    let at : c.from-number.result ≡ m = omega (arith, c.from-number.ensures, c.number.ensures.number) in
    let paid = c.self.invariant.tagged.paid m t c.requires in
    let is : (get_or c.self.inside.nodes.items m t).items ≡ t.items =
    ap (λ (i : ℕ). (get_or c.self.inside.nodes.items i t).items) (sym at) ∙ ap (λ (k : Known). k.items) (sym c.index_mut.ensures.value) in
    let more = count_in_whole is_spent t.items c.args.node.now.items c.meet.ensures.prefix in
    record {
      spent = omega (arith, paid, ap spends is, more, ap (λ (x : CoordState). faults_spent m (history_of x.sequence.history)) c.self.view_is);
      sound = c.number.ensures.sound;
    }
