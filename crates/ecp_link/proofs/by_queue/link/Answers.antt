use Rattle.std.proofs.Common.{◌+◌, [], ◌∷◌, length, slice_get, length-append, ap, ◌∙◌}
use Rattle.ecp_link.proofs.Delivered.{begins, one_more}
use Rattle.ecp_link.proofs.by_queue.link.Goals as goal

pub ruled-requires-clause-rule : goal.ruled-requires-clause-rule
ruled-requires-clause-rule g c = begins

pub loop-number-preserved : goal.loop-number-preserved
loop-number-preserved g c =
    let h = c.loop-number.invariant in
    let more = one_more _ _ _ _ _ _ h.count h.taker h.each c.in_ok-next_sender.ensures in record {
      count = ap length c.in_ok-push.ensures.items ∙ (length-append c.loop-number.ends.items (c.in_ok-next_sender.field-0 ∷ []) ∙ ap (λ n. n + 1) h.count);
      taker = more.0;
      each = λ p lt. ap (λ ys. slice_get ys p) c.in_ok-push.ensures.items ∙ more.1 p lt;
    }
