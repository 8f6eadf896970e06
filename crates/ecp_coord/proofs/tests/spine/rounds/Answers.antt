use Rattle.std.proofs.Common.{◌<◌, length, get_or, arith}
use Rattle.ecp_sequencer.proofs.RoundLaws.{worked_both, worked_raised}
use Rattle.ecp_coord.proofs.tests.spine.rounds.Goals as goal

pub returns : goal.returns
returns g c = λ k p lt.
    let old = c.args.passes.now in
    let one = c.round.new.passes in
    let up = c.raise_all.new.passes in
    let two = c.round-2.new.passes in
    let in_one : k < length one = omega (arith, lt, c.round.auto.passes) in
    let in_up : k < length up = omega (arith, in_one, c.raise_all.auto.passes) in
    worked_both (get_or old k p) (get_or one k p) (get_or two k p) (c.round.ensures.worked k p lt)
    (worked_raised (get_or one k p) (get_or up k p) (get_or two k p) (c.raise_all.ensures.raised k p in_one) (c.round-2.ensures.worked k p in_up))
