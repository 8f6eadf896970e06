use Rattle.std.proofs.Common.{◌∙◌, ◌<◌, length, get_or, length-set, ap, arith}
use Rattle.ecp_sequencer.specs.Passes.{PassState}
use Rattle.ecp_book.specs.Logs.{Known}
use Rattle.ecp_sequencer.proofs.RoundLaws.{raised, one_raised}
use Rattle.ecp_coord.proofs.SpineLaws.{raised_whole}
use Rattle.ecp_coord.proofs.tests.spine.raise_all.Goals as goal

pub loop-at-preserved : goal.loop-at-preserved
loop-at-preserved g c =
    let i = c.loop-at.invariant in
    let x = c.index-passes-at.result in
    let y = c.raise.new.self in
    let within : c.loop-at.at < length c.loop-at.passes = omega (arith, c.loop-at-test.true, c.loop-at.auto.passes) in
    record {
      front = ap (λ (k : Known). k.log) c.raise.ensures.front ∙ i.front;
      raised = one_raised c.args.passes.now c.loop-at.passes c.loop-at.at x y within
          (raised (get_or c.loop-at.passes c.loop-at.at x) y c.loop-at.front.items c.raise.ensures.raised c.raise.ensures.extends c.raise.ensures.noted) i.raised;
    }

pub returns-clause-raised : goal.returns-clause-raised
returns-clause-raised g c = λ k p lt.
    let before : k < c.loop-at.at = omega (arith, lt, c.loop-at-test.false, c.loop-at.auto.passes, length-set {A = PassState}) in
    c.loop-at.invariant.raised.done k before p

pub returns-clause-whole : goal.returns-clause-whole
returns-clause-whole g c = λ k p lt.
    let old = c.args.passes.now in
    let in_old : k < length old = omega (arith, lt, c.loop-at.auto.passes, length-set {A = PassState}) in
    raised_whole (get_or old k p) (get_or c.loop-at.passes k p) (returns-clause-raised g c k p in_old) (c.requires.whole k p in_old)
