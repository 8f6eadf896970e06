use Rattle.std.proofs.Common.{◌<◌, ◌∙◌, sym, subst, arith}
use Rattle.ecp_book.proofs.Keeping.{tag_copies_as}
use Rattle.ecp_book.proofs.book.Book.copy.Goals as goal

pub split_seat-requires : goal.split_seat-requires
split_seat-requires g c =
    let i = c.tag.invariant in
    let named = c.args.self.now.is_named in
    let some : 0 < g.N.Names.book.words = omega (arith, i.in_range) in (
      i.in_book ∙ sym named,
      subst (λ (b : _). 0 < b.words) (sym named) some,
      tag_copies_as _ _ _ _ _ i.knows,
    )
