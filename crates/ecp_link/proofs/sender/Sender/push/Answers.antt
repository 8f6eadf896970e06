use Rattle.std.proofs.Common.{◌≡◌, ◌+◌, ◌%◌, ◌<◌, ◌∷◌, Some, sym, ap, ◌∙◌, arith, length}
use Rattle.atomic_table.specs.Table.{rest}
use Rattle.ecp_link.proofs.Steps.{looks_for_room_as, fills_place_as}
use Rattle.ecp_link.proofs.sender.Sender.push.Goals as goal

pub load-taken-requires : goal.load-taken-requires
load-taken-requires g c =
    let i = c.self.invariant in
    let ring = c.deref-2.result.now in (
      i.in_ring ∙ ap (λ r. r.table.shared.table_id) (sym c.deref-2.ensures),
      omega (arith, ring.words),
      looks_for_room_as _ _ _ i.knows,
    )

pub store-requires : goal.store-requires
store-requires g c =
    let i = c.self.invariant in
    let ring = c.deref-2.result.now in
    let room = c.load-taken.ensures.2 in
    let capacity : ring.table.shared.table_id.slots ≡ c.self.inside.ring.value.capacity = ring.places ∙ ap (λ r. r.capacity) c.deref-2.ensures in
    let tested : c.deref.result.now.capacity ≡ c.self.inside.ring.value.capacity = ap (λ r. r.capacity) c.deref.ensures in
    let lt : length c.self.inside.seat.me.0.pushed < c.load-taken.result + ring.table.shared.table_id.slots = omega (arith, i.counted, room.behind, c.if-self-taken.false) in
    let out = room.free lt in (
      c.exchange-free.ensures.0 ∙ (c.load-taken.ensures.0 ∙ (i.in_ring ∙ ap (λ r. r.table.shared.table_id) (sym c.deref-2.ensures))),
      omega (arith, ring.words),
      fills_place_as _ _ _ c.self.inside.place _ _ _ c.args.item
          (ap (λ n. n + 1) i.counted)
          (i.at_place ∙ (λ k. i.counted k % (sym capacity) k))
          (c.exchange-free.ensures.3 ∙ (λ k. ((out k).0, (c.self.inside.place, Some c.args.item) ∷ rest (out k).1))),
    )
