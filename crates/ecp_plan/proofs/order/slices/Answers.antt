use Rattle.std.proofs.Common.{◌≡◌, ◌-◌, ◌<◌, ℕ, sym, subst}
use Rattle.ecp_plan.specs.Order.{slice_start, slice_end}
use Rattle.ecp_plan.proofs.OrderLaws.{last_starts, last_ends}
use Rattle.ecp_plan.proofs.order.slices.Goals as goal

pub returns : goal.returns
returns c =
    let count = c.div_ceil.ensures in
    record {
      count = count;
      last = subst (λ (n : ℕ). slice_start c.args.slice (n - 1) < c.args.block) (sym count) (last_starts c.args.block c.args.slice c.requires.block c.requires.slice);
      whole = subst (λ (n : ℕ). slice_end c.args.block c.args.slice (n - 1) ≡ c.args.block) (sym count) (last_ends c.args.block c.args.slice c.requires.block c.requires.slice);
    }
