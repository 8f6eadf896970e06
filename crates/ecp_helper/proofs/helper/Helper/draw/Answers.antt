use Rattle.std.proofs.Common.{◌≡◌, List, length, drop, sym, subst, ap, arith, length-drop}
use Rattle.std.specs.Prelude.{All}
use Rattle.std.proofs.lemmas.List.Elements.{All-drop}
use Rattle.ecp_slice.specs.Messages.{Message}
use Rattle.ecp_slice.specs.Sound.{IsSound}
use Rattle.ecp_helper.proofs.helper.Helper.draw.Goals as goal

pub invariant_of-self : goal.invariant_of-self
invariant_of-self g c =
    let met = c.self.invariant in
    let left : c.pop_front.new.self.items ≡ drop 1 c.self.inside.room.waiting.items = c.pop_front.ensures.rest in record {
      sized = met.sized;
      some = met.some;
      within = omega (arith, ap (λ (ms : List Message). length ms) left, length-drop 1 c.self.inside.room.waiting.items, met.within);
      room_added = met.room_added;
      room_waiting = omega (arith, c.pop_front.ensures.capacity, met.room_waiting);
      onward = met.onward;
      sound = record {
        added = met.sound.added;
        waiting = subst (All (IsSound g.N.Names.shape g.N.Names.told)) (sym left) (All-drop (IsSound g.N.Names.shape g.N.Names.told) 1 c.self.inside.room.waiting.items met.sound.waiting);
      };
    }
