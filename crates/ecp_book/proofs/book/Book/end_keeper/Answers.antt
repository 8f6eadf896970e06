use Rattle.std.proofs.Common.{◌<◌, ℕ, ◌∙◌, sym, subst}
use Rattle.ecp_book.proofs.Keeping.{keeper_ends_as}
use Rattle.ecp_book.proofs.book.Book.end_keeper.Goals as goal

pub load-requires : goal.load-requires
load-requires g c =
    let i = c.keeper.invariant in
    let named = c.args.self.now.is_named in (
      i.in_book ∙ sym named,
      subst (λ (b : _). c.keeper.inside.log < b.words) (sym named) i.in_range,
      keeper_ends_as _ _ _ _ _ _ (subst (λ (n : ℕ). c.keeper.inside.log < n) (sym c.args.self.now.counts_logs) i.in_range) i.knows,
    )
