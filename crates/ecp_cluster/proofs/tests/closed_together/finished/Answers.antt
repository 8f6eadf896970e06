use Rattle.std.proofs.Common.{◌≡◌, ◌∙◌, ◌<◌, List, length, get_or, ap, subst, arith}
use Rattle.std.specs.Prelude.{All}
use Rattle.std.proofs.lemmas.List.{with_items_is}
use Rattle.ecp_sequencer.specs.Closed.{IsSettled}
use Rattle.ecp_sequencer.specs.Passes.{PassState, first_pass, first_passes}
use Rattle.ecp_sequencer.specs.Rounds.{Worked}
use Rattle.ecp_sequencer.specs.Sequencers.{SequencerState}
use Rattle.ecp_sequencer.proofs.RoundLaws.{counts, first_of_two}
use Rattle.ecp_coord.proofs.SpineLaws.{firsts_whole}
use Rattle.ecp_cluster.proofs.tests.closed_together.finished.Goals as goal

pub work_all-requires-clause-whole : goal.work_all-requires-clause-whole
work_all-requires-clause-whole g c κs within = firsts_whole c.as_mut_slice.result.now (c.as_mut_slice.ensures.value ∙ c.requires.passes)

pub returns : goal.returns
returns g c =
    let s : SequencerState = c.close.ensures.last in
    let old : List PassState = c.as_mut_slice.result.now in
    let new : List PassState = c.work_all.new.passes in
    let firsts : old ≡ first_passes 1 2 = c.as_mut_slice.ensures.value ∙ c.requires.passes in
    let two : length old ≡ 2 = ap (λ (ps : List PassState). length ps) firsts in
    let settled : All (IsSettled s) new =
    subst (All (IsSettled s)) (with_items_is c.args.passes new (c.work_all.auto.passes ∙ c.as_mut_slice.ensures.len)) c.close.ensures.closed.settled in
    let p : PassState = first_pass 1 0 in
    record {
      history = s.history;
      legal = c.close.ensures.closed.kept.legal;
      printed = c.close.ensures.closed.printed;
      each = λ caller lt.
          let in_old : caller < length old = omega (arith, lt, two) in
          let w : PassState = get_or new caller p in
          let worked : Worked (first_pass 1 caller) w =
          subst (λ (v : PassState). Worked v w) (ap (λ (ps : List PassState). get_or ps caller p) firsts ∙ first_of_two caller p lt) (c.work_all.ensures.worked caller p in_old) in
          (w.calls, counts s 1 caller w worked (settled caller p (omega (arith, in_old, c.work_all.auto.passes))));
    }
