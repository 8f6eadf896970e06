use Rattle.std.proofs.Common.{◌<◌, length, get_or, arith}
use Rattle.ecp_coord.proofs.SpineLaws.{worked_whole}
use Rattle.ecp_coord.proofs.tests.spine.round.Goals as goal

pub returns-clause-worked : goal.returns-clause-worked
returns-clause-worked g c = λ k p lt. let h = (c.for_each_mut.ensures k p lt).1 in rw (← h.argument_is, ← h.left) h.call

pub returns-clause-whole : goal.returns-clause-whole
returns-clause-whole g c = λ k p lt.
    let old = c.args.passes.now in
    let new = c.for_each_mut.new.s in
    let in_old : k < length old = omega (arith, lt, c.for_each_mut.auto.s) in
    worked_whole (get_or old k p) (get_or new k p) (returns-clause-worked g c k p in_old) (c.requires.whole k p in_old)
