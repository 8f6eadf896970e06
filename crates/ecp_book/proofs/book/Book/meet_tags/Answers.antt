use Rattle.std.proofs.Common.{◌≡◌, ◌<◌, ◌∙◌, sym, ap, subst, arith}
use Rattle.ecp_book.proofs.Keeping.{meets_as, tag_learns_as}
use Rattle.ecp_book.proofs.book.Book.meet_tags.Goals as goal

pub join_seat-requires : goal.join_seat-requires
join_seat-requires g c =
    let i = c.a.invariant in
    let j = c.other.invariant in
    let named = c.args.self.now.is_named in
    let some : 0 < g.N.Names.book.words = omega (arith, i.in_range) in
    let one_log : c.a.inside.log ≡ c.other.inside.log =
    ap (λ k. k.log) c.a.view_is ∙ (c.requires ∙ (ap (λ k. k.log) (sym c.copy.ensures.copy) ∙ ap (λ k. k.log) (sym c.other.view_is))) in (
      i.in_book ∙ sym named,
      j.in_book ∙ sym named,
      ap (λ m. m.1) j.knows,
      subst (λ (b : _). 0 < b.words) (sym named) some,
      meets_as _ _ _ _ _ _ _ (ap (λ m. m.0.log) i.knows ∙ one_log) j.knows,
    )

pub load-requires : goal.load-requires
load-requires g c =
    let i = c.a.invariant in
    let named = c.args.self.now.is_named in
    let joined = c.join_seat.ensures in (
      joined.0 ∙ (i.in_book ∙ sym named),
      subst (λ (b : _). c.a.inside.log < b.words) (sym named) i.in_range,
      tag_learns_as _ _ _ _ _ _ _ _ _ joined.2 i.knows,
    )
