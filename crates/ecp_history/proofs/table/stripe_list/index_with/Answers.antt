use Rattle.std.proofs.Common.{◌≡◌, ◌+◌, ◌-◌, ◌/◌, ◌<◌, length, get_or, ap, subst, drop, arith, ℕ}
use Rattle.ecp_history.specs.table.Tables.{Stripe}
use Rattle.ecp_history.specs.table.Rising.{AllAbove}
use Rattle.ecp_history.proofs.tables.OrderLaws.{below_upto, above_from, none_between}
use Rattle.ecp_history.proofs.table.stripe_list.index_with.Goals as goal

pub loop-low-preserved-then-found-number-2 : goal.loop-low-preserved-then-found-number-2
loop-low-preserved-then-found-number-2 c =
    let xs = c.args.stripes.now in
    let x = c.index-stripes-middle.result in
    let i = c.loop-low.low + (c.loop-low.high - c.loop-low.low) / 2 in
    let within : i < length xs = omega (arith, c.loop-low-test.true, c.loop-low.invariant.within) in
    let is : x.number ≡ (get_or xs i x).number = ap (λ (y : Stripe). y.number) c.index-stripes-middle.is in
    record {
      ordered = omega (arith, c.loop-low-test.true);
      within = c.loop-low.invariant.within;
      below = below_upto xs i c.args.number x c.requires within (omega (arith, is, c.number-found.ensures, c.if-found-number-2.true));
      above = c.loop-low.invariant.above;
    }

pub loop-low-preserved : goal.loop-low-preserved
loop-low-preserved c =
    let xs = c.args.stripes.now in
    let x = c.index-stripes-middle.result in
    let i = c.loop-low.low + (c.loop-low.high - c.loop-low.low) / 2 in
    let within : i < length xs = omega (arith, c.loop-low-test.true, c.loop-low.invariant.within) in
    let is : x.number ≡ (get_or xs i x).number = ap (λ (y : Stripe). y.number) c.index-stripes-middle.is in
    record {
      ordered = omega arith;
      within = omega (arith, within);
      below = c.loop-low.invariant.below;
      above = above_from xs i c.args.number x c.requires within (omega (arith, is, c.number-found.ensures, c.if-found-number.false, c.if-found-number-2.false));
    }

pub returns-clause-none : goal.returns-clause-none
returns-clause-none c =
    let xs = c.args.stripes.now in
    let same : c.loop-low.high ≡ c.loop-low.low = omega (arith, c.loop-low-test.false, c.loop-low.invariant.ordered) in
    none_between xs c.loop-low.low c.args.number c.loop-low.invariant.below (subst (λ (i : ℕ). AllAbove c.args.number (drop i xs)) same c.loop-low.invariant.above)
