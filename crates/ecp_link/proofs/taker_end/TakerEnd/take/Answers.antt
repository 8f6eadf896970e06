use Rattle.std.proofs.Common.{◌≡◌, ◌+◌, ◌%◌, ◌<◌, [], ◌∷◌, Some, None, sym, ap, ◌∙◌, arith, length, length-append}
use Rattle.atomic_table.specs.Table.{rest}
use Rattle.ecp_link.specs.Rings.{emptied}
use Rattle.ecp_link.proofs.Steps.{looks_for_item_as, empties_place_as}
use Rattle.ecp_link.proofs.Told.{in_hand, if_some, took}
use Rattle.ecp_link.proofs.taker_end.TakerEnd.take.Goals as goal

pub load-pushed-requires : goal.load-pushed-requires
load-pushed-requires g c =
    let i = c.self.invariant in (
      i.in_ring ∙ ap (λ r. r.table.shared.table_id) (sym c.deref.ensures),
      omega (arith, c.deref.result.now.words),
      looks_for_item_as _ _ _ i.knows,
    )

pub exchange-item-requires : goal.exchange-item-requires
exchange-item-requires g c =
    let i = c.self.invariant in
    let ring = c.deref.result.now in
    let found = c.load-pushed.ensures.2 in
    let capacity : ring.table.shared.table_id.slots ≡ c.self.inside.ring.value.capacity = ring.places ∙ ap (λ r. r.capacity) c.deref.ensures in
    let lt : length c.self.inside.seat.me.0.taken < c.load-pushed.result = omega (arith, i.counted, found.ahead, c.if-pushed-self.false) in
    let out = found.there lt in
    let at : c.self.inside.place ≡ length c.self.inside.seat.me.0.taken % ring.table.shared.table_id.slots = i.at_place ∙ (λ k. i.counted k % (sym capacity) k) in (
      c.load-pushed.ensures.0 ∙ (i.in_ring ∙ ap (λ r. r.table.shared.table_id) (sym c.deref.ensures)),
      (Some out.0, ap (λ m. m.1) out.1 ∙ (λ k. ((sym at) k, Some out.0) ∷ rest (sym out.1 k).1)),
    )

pub store-requires : goal.store-requires
store-requires g c =
    let i = c.self.invariant in
    let ring = c.deref.result.now in
    let found = c.load-pushed.ensures.2 in
    let capacity : ring.table.shared.table_id.slots ≡ c.self.inside.ring.value.capacity = ring.places ∙ ap (λ r. r.capacity) c.deref.ensures in
    let lt : length c.self.inside.seat.me.0.taken < c.load-pushed.result = omega (arith, i.counted, found.ahead, c.if-pushed-self.false) in
    let out = found.there lt in
    let at : c.self.inside.place ≡ length c.self.inside.seat.me.0.taken % ring.table.shared.table_id.slots = i.at_place ∙ (λ k. i.counted k % (sym capacity) k) in (
      c.exchange-item.ensures.0 ∙ (c.load-pushed.ensures.0 ∙ (i.in_ring ∙ ap (λ r. r.table.shared.table_id) (sym c.deref.ensures))),
      omega (arith, ring.words),
      empties_place_as _ _ _ c.self.inside.place _ _ _ _ _ _ (length-append c.self.inside.seat.me.0.taken (out.0 ∷ [])) (ap (λ n. n + 1) i.counted) at
          (c.exchange-item.ensures.3 ∙ (λ k. ((out.1 k).0, (c.self.inside.place, None) ∷ rest (out.1 k).1))),
    )

pub returns-clause-some : goal.returns-clause-some
returns-clause-some g c =
    let i = c.self.invariant in
    let found = c.load-pushed.ensures.2 in
    let lt : length c.self.inside.seat.me.0.taken < c.load-pushed.result = omega (arith, i.counted, found.ahead, c.if-pushed-self.false) in
    let out = found.there lt in
    if_some _ _ out.0 (ap in_hand (sym c.exchange-item.ensures.2) ∙ ap (λ m. in_hand m.1) out.1)
    (took _ _ c.self.inside.seat.me _ c.load-pushed.result out.0 _ c.self.view_is
    (c.store.ensures.0 ∙ (c.exchange-item.ensures.0 ∙ c.load-pushed.ensures.0)) lt
    (c.store.ensures.2 ∙ (ap emptied c.exchange-item.ensures.3 ∙ (λ k. emptied ((out.1 k).0, (c.self.inside.place, None) ∷ rest (out.1 k).1)))) out.2)
