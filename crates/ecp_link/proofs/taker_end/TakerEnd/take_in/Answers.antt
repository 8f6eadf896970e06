use Rattle.std.proofs.Common.{◌≡◌, sym, ap, ◌∙◌, arith}
use Rattle.ecp_link.specs.Rings.{ended}
use Rattle.ecp_link.proofs.Steps.{ends_as, learns_as}
use Rattle.ecp_link.proofs.taker_end.TakerEnd.take_in.Goals as goal

pub join_seat-requires : goal.join_seat-requires
join_seat-requires g c =
    let i = c.self.invariant in
    let j = c.sender.invariant in
    let here : c.self.inside.seat.table_id ≡ c.deref.result.now.table.shared.table_id = i.in_ring ∙ ap (λ r. r.table.shared.table_id) (sym c.deref.ensures) in (
      here,
      ap (λ s. s.place) c.sender.view_is ∙ (c.requires ∙ (sym (ap (λ s. s.place) c.self.view_is) ∙ here)),
      ap (λ m. m.1) j.knows,
      omega (arith, c.deref.result.now.words),
      ends_as _ _ _ _ (ap (λ m. m.0) i.knows) (ap (λ m. m.0) j.knows),
    )

pub load-requires : goal.load-requires
load-requires g c =
    let i = c.self.invariant in (
      c.join_seat.ensures.0 ∙ (i.in_ring ∙ ap (λ r. r.table.shared.table_id) (sym c.deref.ensures)),
      omega (arith, c.deref.result.now.words),
      learns_as _ _ _ _ _ _ (c.join_seat.ensures.2 ∙ (λ k. (ended c.self.inside.seat.me.0 c.sender.inside.seat.me.0, (i.knows k).1))),
    )
