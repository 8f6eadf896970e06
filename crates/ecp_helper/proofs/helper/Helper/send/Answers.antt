use Rattle.std.proofs.Common.{◌≡◌, List, [], ◌∷◌, ◌++◌, length, sym, subst, ap, ◌∙◌, arith, length-append}
use Rattle.std.specs.Prelude.{All}
use Rattle.std.proofs.lemmas.List.Elements.{All-push}
use Rattle.ecp_slice.specs.Messages.{Message, next_of}
use Rattle.ecp_slice.specs.Sound.{IsSound}
use Rattle.ecp_helper.specs.Senders.{HasSender}
use Rattle.ecp_helper.proofs.Keeping.{AllHave, have_after_send, have_though_shut, has_though_shut}
use Rattle.ecp_helper.proofs.helper.Helper.send.Goals as goal

pub invariant_of-self : goal.invariant_of-self
invariant_of-self g c =
    let met = c.self.invariant in record {
      sized = met.sized;
      some = met.some;
      within = met.within;
      room_added = met.room_added;
      room_waiting = met.room_waiting;
      onward = have_after_send c.self.inside.senders c.push.new.self c.next-to.result c.args.message c.in-Ok.ensures.ok c.self.inside.room.added.items met.onward;
      sound = record { added = met.sound.added; waiting = met.sound.waiting };
    }

pub invariant_of-self-in-Full : goal.invariant_of-self-in-Full
invariant_of-self-in-Full g c =
    let met = c.self.invariant in
    let shut = c.in-Full.ensures.full.1 in
    let old = c.self.inside.senders in
    let more : c.push_back.new.self.items ≡ c.self.inside.room.added.items ++ c.args.message ∷ [] =
    c.in-Ok-push_back.ensures.items ∙ ap (λ (m : Message). c.self.inside.room.added.items ++ m ∷ []) c.in-Full.ensures.full.0 in
    let room = rw (← c.self.view_is) at c.requires.room in
    let has : HasSender old (next_of c.args.message) = rw (← c.self.view_is) at c.requires.sender in record {
      sized = met.sized;
      some = met.some;
      within = omega (arith, ap (λ (ms : List Message). length ms) more, length-append c.self.inside.room.added.items (c.args.message ∷ []), room);
      room_added = omega (arith, c.push_back.ensures.capacity, met.room_added);
      room_waiting = met.room_waiting;
      onward = subst (AllHave c.push.new.self) (sym more)
          (All-push (λ (m : Message). HasSender c.push.new.self (next_of m)) c.self.inside.room.added.items c.args.message
          (have_though_shut old c.push.new.self c.next-to.result shut c.self.inside.room.added.items met.onward)
          (has_though_shut old c.push.new.self c.next-to.result (next_of c.args.message) shut has));
      sound = record {
        added = subst (All (IsSound g.N.Names.shape g.N.Names.told)) (sym more)
            (All-push (IsSound g.N.Names.shape g.N.Names.told) c.self.inside.room.added.items c.args.message met.sound.added c.next-to.ensures.sound);
        waiting = met.sound.waiting;
      };
    }
