use Rattle.std.proofs.Common.{◌≡◌, [], ◌∷◌, reverse, sym, ◌∙◌, ap, arith, List}
use Rattle.std.specs.Prelude.{fold}
use Rattle.std.proofs.lemmas.List.{reverse-append}
use Rattle.ecp_history.specs.table.Tables.{Stripe}
use Rattle.ecp_history.specs.table.Steps.{placed}
use Rattle.ecp_history.proofs.tables.OrderLaws.{rising-placed}
use Rattle.ecp_history.proofs.table.storing.put_all.Goals as goal

pub loop-stripe-preserved : goal.loop-stripe-preserved
loop-stripe-preserved c =
    let x = c.in-Some.stripe in
    let left = c.pop.new.self.items in
    let turned : reverse c.loop-stripe.added.items ≡ x ∷ reverse left = ap reverse c.in-Some.ensures.items ∙ reverse-append left (x ∷ []) in
    record {
      room = omega (arith, c.loop-stripe.invariant.room, c.put_stripe.ensures.longer, c.put_stripe.ensures.room, c.in-Some.ensures.len);
      rising = rw c.put_stripe.ensures.placed (rising-placed c.loop-stripe.stripes.items x c.loop-stripe.invariant.rising);
      placed = ap (λ (xs : List Stripe). fold placed xs (reverse left)) c.put_stripe.ensures.placed
          ∙ ap (fold placed c.loop-stripe.stripes.items) (sym turned) ∙ c.loop-stripe.invariant.placed;
    }
