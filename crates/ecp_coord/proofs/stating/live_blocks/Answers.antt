use Rattle.std.proofs.Common.{◌≡◌, ℕ, ◌+◌, ◌-◌, ◌≤◌, ◌∙◌, ap, arith}
use Rattle.std.specs.Prelude.{sum_by}
use Rattle.std.specs.List.{range_with_len}
use Rattle.ecp_history.specs.table.Steps.{table_of}
use Rattle.ecp_history.specs.table.Tables.{live_rows}
use Rattle.ecp_coord.proofs.StatLaws.{sum_more}
use Rattle.ecp_coord.proofs.stating.live_blocks.Goals as goal

pub loop-stripe-preserved : goal.loop-stripe-preserved
loop-stripe-preserved g c =
    let first : ℕ = c.args.first in
    let stripe : ℕ = c.loop-stripe.stripe in
    let from : first ≤ stripe = c.loop-stripe.auto.stripe in
    let at : first + (stripe - first) ≡ stripe = omega (arith, from) in
    let more : stripe + 1 - first ≡ stripe - first + 1 = omega (arith, from) in
    record {
      counted = λ shape told history is.
          let was = c.loop-stripe.invariant.counted shape told history is in
          let here = c.live_count-live.ensures.counted shape told history is in
          let step = sum_more (live_rows (table_of shape history)) first (stripe - first) stripe (stripe + 1 - first) at more in
          omega (arith, was, here, step);
      few = omega (arith, c.loop-stripe.invariant.few, c.live_count-live.ensures.few, more);
    }

pub returns : goal.returns
returns g c = λ shape told history is.
    let all : c.loop-stripe.stripe - c.args.first ≡ c.args.stripes = omega arith in
    c.loop-stripe.invariant.counted shape told history is ∙ ap (λ (n : ℕ). sum_by (live_rows (table_of shape history)) (range_with_len c.args.first n)) all
