use Rattle.std.proofs.Common.{◌<◌, ◌∙◌, sym, subst, arith}
use Rattle.ecp_book.proofs.Keeping.{opens_as}
use Rattle.ecp_book.proofs.book.Book.next_keeper.Goals as goal

pub split_seat-requires : goal.split_seat-requires
split_seat-requires g c =
    let named = c.args.self.now.is_named in
    let some : 0 < g.N.Names.book.words = omega (arith, c.requires.log) in (
      c.requires.seat ∙ sym named,
      subst (λ (b : _). 0 < b.words) (sym named) some,
      opens_as _ _ _ _ c.requires.view,
    )
