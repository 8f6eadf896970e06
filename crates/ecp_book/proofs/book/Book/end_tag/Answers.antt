use Rattle.std.proofs.Common.{◌<◌, ◌∙◌, sym, subst}
use Rattle.ecp_book.proofs.Keeping.{tag_ends_as}
use Rattle.ecp_book.proofs.book.Book.end_tag.Goals as goal

pub load-requires : goal.load-requires
load-requires g c =
    let i = c.tag.invariant in
    let named = c.args.self.now.is_named in (
      i.in_book ∙ sym named,
      subst (λ (b : _). c.tag.inside.log < b.words) (sym named) i.in_range,
      tag_ends_as _ _ _ _ _ _ i.knows,
    )
