use Rattle.std.proofs.Common.{◌≡◌, List, ◌∷◌, length, drop, sym, subst, ap, ◌∙◌, arith, length-drop}
use Rattle.std.specs.Prelude.{All}
use Rattle.std.proofs.lemmas.List.Elements.{All-drop, All-head}
use Rattle.ecp_slice.specs.Messages.{Message, next_of}
use Rattle.ecp_slice.specs.Sound.{IsSound}
use Rattle.ecp_helper.specs.Senders.{HasSender}
use Rattle.ecp_helper.proofs.Keeping.{AllHave, have_after_send, have_though_shut}
use Rattle.ecp_helper.proofs.helper.Helper.forward.Goals as goal

pub push-requires : goal.push-requires
push-requires g c =
    let senders = c.self.inside.senders in
    subst (HasSender senders) (sym c.next-to.ensures.next)
    (All-head (λ (m : Message). HasSender senders (next_of m)) c.in-Some.message c.pop_front.new.self.items (subst (AllHave senders) c.in-Some.ensures.items c.self.invariant.onward))

pub invariant_of-self-in-Ok : goal.invariant_of-self-in-Ok
invariant_of-self-in-Ok g c =
    let met = c.self.invariant in
    let left : c.pop_front.new.self.items ≡ drop 1 c.self.inside.room.added.items = c.pop_front.ensures.rest in record {
      sized = met.sized;
      some = met.some;
      within = omega (arith, ap (λ (ms : List Message). length ms) left, length-drop 1 c.self.inside.room.added.items, met.within);
      room_added = omega (arith, c.pop_front.ensures.capacity, met.room_added);
      room_waiting = met.room_waiting;
      onward = have_after_send c.self.inside.senders c.push.new.self c.next-to.result c.in-Some.message c.in-Ok.ensures.ok c.pop_front.new.self.items
          (subst (AllHave c.self.inside.senders) (sym left) (All-drop (λ (m : Message). HasSender c.self.inside.senders (next_of m)) 1 c.self.inside.room.added.items met.onward));
      sound = record {
        added = subst (All (IsSound g.N.Names.shape g.N.Names.told)) (sym left) (All-drop (IsSound g.N.Names.shape g.N.Names.told) 1 c.self.inside.room.added.items met.sound.added);
        waiting = met.sound.waiting;
      };
    }

pub invariant_of-self-in-Full : goal.invariant_of-self-in-Full
invariant_of-self-in-Full g c =
    let met = c.self.invariant in
    let same : c.push_front.new.self.items ≡ c.self.inside.room.added.items =
    c.in-Ok-push_front.ensures.items ∙ (ap (λ (m : Message). m ∷ c.pop_front.new.self.items) c.in-Full.ensures.full.0 ∙ sym c.in-Some.ensures.items) in record {
      sized = met.sized;
      some = met.some;
      within = omega (arith, ap (λ (ms : List Message). length ms) same, met.within);
      room_added = omega (arith, c.pop_front.ensures.capacity, c.push_front.ensures.capacity, met.room_added);
      room_waiting = met.room_waiting;
      onward = have_though_shut c.self.inside.senders c.push.new.self c.next-to.result c.in-Full.ensures.full.1 c.push_front.new.self.items (subst (AllHave c.self.inside.senders) (sym same) met.onward);
      sound = record { added = subst (All (IsSound g.N.Names.shape g.N.Names.told)) (sym same) met.sound.added; waiting = met.sound.waiting };
    }
