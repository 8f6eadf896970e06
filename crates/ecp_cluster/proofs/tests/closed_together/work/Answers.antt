use Rattle.ecp_entry.specs.declared.deed.Deed.TheVariants.{Lose}
use Rattle.ecp_sequencer.proofs.RoundLaws.{worked_both}
use Rattle.ecp_cluster.proofs.WorkLaws.{worked_either}
use Rattle.ecp_cluster.proofs.tests.closed_together.work.Goals as goal

pub returns : goal.returns
returns g c =
    let shape = g.N.Names.shape in
    let told = g.N.Names.told in
    let v = c.args.pass.now in
    let one = worked_either c.lose.result shape told v c.lose.new.pass (Lose 0) c.lose.ensures.ok c.lose.ensures.err in
    let two = worked_either c.lose-2.result shape told c.lose.new.pass c.lose-2.new.pass (Lose 1) c.lose-2.ensures.ok c.lose-2.ensures.err in
    let three = worked_either c.lose-3.result shape told c.lose-2.new.pass c.lose-3.new.pass (Lose 2) c.lose-3.ensures.ok c.lose-3.ensures.err in
    worked_both v c.lose-2.new.pass c.lose-3.new.pass (worked_both v c.lose.new.pass c.lose-2.new.pass one two) three
