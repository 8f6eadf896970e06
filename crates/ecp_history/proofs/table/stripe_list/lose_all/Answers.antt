use Rattle.std.proofs.Common.{map, List, length, arith, ◌<◌, get_or}
use Rattle.std.proofs.lemmas.List.{get_or_default}
use Rattle.std.proofs.lemmas.List.Edits.{map_over_more}
use Rattle.ecp_history.specs.table.Tables.{Stripe, Standing}
use Rattle.ecp_history.specs.table.Steps.{without_node}
use Rattle.ecp_history.proofs.table.stripe_list.lose_all.Goals as goal

changed : (Stripe → List Standing) → Stripe → Stripe
changed change x = record { number = x.number; blocks = x.blocks; rows = change x }

pub loop-stripe-preserved : goal.loop-stripe-preserved
unfolding changed
loop-stripe-preserved c =
    let within : c.loop-stripe.stripe-index < length c.loop-stripe.stripes = omega arith in
    let item = c.stripe-item.result in
    rw c.lose.ensures (map_over_more (changed (λ x. map (without_node c.args.node) x.rows)) c.args.stripes.now c.loop-stripe.stripes c.loop-stripe.stripe-index (get_or c.loop-stripe.stripes c.loop-stripe.stripe-index item) c.loop-stripe-test.true c.loop-stripe.invariant (get_or_default c.loop-stripe.stripes c.loop-stripe.stripe-index item (get_or c.loop-stripe.stripes c.loop-stripe.stripe-index item) within))
