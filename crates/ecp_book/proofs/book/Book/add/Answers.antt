use Rattle.std.proofs.Common.{◌∙◌, sym, ap, subst, ◌<◌, ℕ}
use Rattle.ecp_book.proofs.Keeping.{appends_as}
use Rattle.ecp_book.proofs.book.Book.add.Goals as goal

pub store-requires : goal.store-requires
store-requires g c =
    let book = c.args.self.now in (
      c.requires.seat ∙ sym book.is_named,
      subst (λ (n : ℕ). c.args.log < n) (sym (ap (λ b. b.words) book.is_named)) c.requires.log,
      appends_as book.words.shared.key book.words.shared.table_id.slots c.args.seat.now.id c.args.log c.args.seat.now.me c.args.seat.now.me.0.items g.J.Adding.item c.from.result
          (subst (λ (n : ℕ). c.args.log < n) (sym book.counts_logs) c.requires.log)
          (c.from.ensures ∙ c.requires.len)
          c.requires.view,
    )
