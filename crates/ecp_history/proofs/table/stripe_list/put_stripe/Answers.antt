use Rattle.std.proofs.Common.{◌≡◌, ◌<◌, length, get_or, sym, ◌∙◌, ap, arith}
use Rattle.ecp_history.specs.table.Tables.{Stripe}
use Rattle.ecp_history.proofs.tables.OrderLaws.{put_new, put_over}
use Rattle.ecp_history.proofs.table.stripe_list.put_stripe.Goals as goal
use Rattle.ecp_history.proofs.table.stripe_list.put_stripe.Goals.{else-at-len-via-then-at-len+else-number, else-at-len-via-else-at-len}

pub returns-then-number-clause-placed : goal.returns-then-number-clause-placed
returns-then-number-clause-placed c =
    let xs = c.args.stripes.now.items in
    let i = c.place_of-at.result in
    let x = c.index.result.now in
    let within : i < length xs = omega (arith, c.if-at-len.true, c.len.ensures) in
    let is : (get_or xs i x).number ≡ c.number-number.result = ap (λ (y : Stripe). y.number) (sym c.index.ensures) ∙ sym c.number.ensures ∙ c.if-number.true in
    sym (put_over c.deref.result.now xs c.args.stripe c.number-number.result i x c.deref.ensures.value c.number-number.ensures c.place_of-at.ensures.below within is)

pub returns-else-at-len-clause-placed : goal.returns-else-at-len-clause-placed
returns-else-at-len-clause-placed c =
    let xs = c.args.stripes.now.items in
    let i = c.place_of-at.result in
    rw (c.insert.ensures.items, c.insert.ensures.succeeds c.requires.room)
    (elim c.else-at-len.branch [
      | else-at-len-via-then-at-len+else-number w ↦
          sym (put_new c.deref.result.now xs c.args.stripe c.number-number.result i w.index.result.now c.deref.ensures.value c.number-number.ensures c.place_of-at.ensures.below c.place_of-at.ensures.reached
          (λ h same. w.if-number.false (w.number.ensures ∙ ap (λ (y : Stripe). y.number) w.index.ensures ∙ same)))
      | else-at-len-via-else-at-len w ↦
          sym (put_new c.deref.result.now xs c.args.stripe c.number-number.result i c.args.stripe c.deref.ensures.value c.number-number.ensures c.place_of-at.ensures.below c.place_of-at.ensures.reached
          (λ h. absurd (omega (arith, h, w.if-at-len.false, c.len.ensures))))
    ])
