use Rattle.std.proofs.Common.{◌+◌, [], ◌∷◌, length, slice_get, sym, ap, ◌∙◌, length-append}
use Rattle.ecp_link.specs.Links.{IsPair}
use Rattle.ecp_link.proofs.Asked.{pairs_more}
use Rattle.ecp_link.proofs.making.link.Goals as goal

pub loop-number-preserved : goal.loop-number-preserved
loop-number-preserved g c =
    let h = c.loop-number.invariant in
    let starts = c.in_ok-push.ensures.items in
    let ends = c.in_ok-push-2.ensures.items in record {
      starts = ap length starts ∙ (length-append c.loop-number.starts.items (c.in_ok-start.start ∷ []) ∙ ap (λ n. n + 1) h.starts);
      ends = ap length ends ∙ (length-append c.loop-number.ends.items (c.in_ok-start.end ∷ []) ∙ ap (λ n. n + 1) h.ends);
      pairs = λ p s t e f. pairs_more (λ q a b. IsPair q c.args.capacity a b) c.loop-number.number c.loop-number.starts.items c.loop-number.ends.items c.in_ok-start.start c.in_ok-start.end
          h.starts h.ends h.pairs c.in_ok-start.ensures p s t
          (ap (λ ys. slice_get ys p) (sym starts) ∙ e) (ap (λ ys. slice_get ys p) (sym ends) ∙ f);
    }
