use Rattle.std.proofs.Common.{◌≡◌, List, [], ◌∷◌, ◌++◌, length, IsTrue, sym, subst, ap, ◌∙◌, refl, arith, length-append}
use Rattle.std.proofs.lemmas.Bool.{false≢true}
use Rattle.std.specs.Prelude.{All}
use Rattle.std.proofs.lemmas.List.Elements.{All-push}
use Rattle.ecp_slice.specs.Messages.{Message}
use Rattle.ecp_slice.specs.Sound.{IsSound}
use Rattle.ecp_helper.specs.Gates.{Question}
use Rattle.ecp_helper.specs.Helpers.{HelperState}
use Rattle.ecp_helper.specs.Steps.{looked, IsHere, IsToAdd}
use Rattle.ecp_helper.specs.Turns.{Works}
use Rattle.ecp_helper.proofs.Keeping.{unknown, here_after, here_before, serves_so, same_question}
use Rattle.ecp_helper.proofs.helper.Helper.serve.Goals as goal

pub returns-then-not-is_here : goal.returns-then-not-is_here
returns-then-not-is_here g c =
    let none : c.read_cancel.result ≡ 0 = omega arith in record {
      wanted = unknown c.args.message.cancel.known c.read_cancel.result c.read_cancel.ensures.found none;
      astray = λ x. false≢true (sym c.if-not-is_here.true ∙ c.is_here.ensures.here.1 (here_after c.args.self.now c.args.message c.read_cancel.new.self c.read_cancel.result c.read_cancel.ensures.read x));
      back_is = c.read_cancel.ensures.read ∙ ap (looked c.args.message) none;
      is = refl;
    }

pub invariant_of-self : goal.invariant_of-self
invariant_of-self g c =
    let met = c.self.invariant in
    let room = rw (← c.self.view_is) at c.requires in
    let more : c.push_back.new.self.items ≡ c.self.inside.room.waiting.items ++ c.read_cancel.new.self ∷ [] = c.in-Ok.ensures.items in record {
      sized = met.sized;
      some = met.some;
      within = omega (arith, ap (λ (ms : List Message). length ms) more, length-append c.self.inside.room.waiting.items (c.read_cancel.new.self ∷ []), room);
      room_added = met.room_added;
      room_waiting = omega (arith, c.push_back.ensures.capacity, met.room_waiting);
      onward = met.onward;
      sound = record {
        added = met.sound.added;
        waiting = subst (All (IsSound g.N.Names.shape g.N.Names.told)) (sym more)
            (All-push (IsSound g.N.Names.shape g.N.Names.told) c.self.inside.room.waiting.items c.read_cancel.new.self met.sound.waiting c.is_here.ensures.sound);
      };
    }

pub returns-then-not-go : goal.returns-then-not-go
returns-then-not-go g c =
    let s = c.args.self.now in
    let m = c.args.message in
    let w = c.read_cancel.new.self in
    let read : w ≡ looked m c.read_cancel.result = c.read_cancel.ensures.read in
    let none : c.read_cancel.result ≡ 0 = omega arith in
    let here : IsHere s w = c.is_here.ensures.here.0 c.if-not-is_here.false in
    let number : c.number-node.result ≡ s.node.number = c.number-node.ensures.number ∙ ap (λ (h : HelperState). h.node.number) c.self.view_is in
    let asked = same_question c.number-node.result c.repair.result c.attempt.result c.slice.result s.node.number m number
    (c.repair.ensures ∙ ap (λ (x : Message). x.repair) read) (c.attempt.ensures ∙ ap (λ (x : Message). x.attempt) read) (c.slice.ensures ∙ ap (λ (x : Message). x.slice) read) in
    let more : c.push_back.new.self.items ≡ c.self.inside.room.waiting.items ++ looked m 0 ∷ [] =
    c.in-Ok.ensures.items ∙ ap (λ (x : Message). c.self.inside.room.waiting.items ++ x ∷ []) (read ∙ ap (looked m) none) in (
      record { wanted = unknown m.cancel.known c.read_cancel.result c.read_cancel.ensures.found none; here = here_before s m w c.read_cancel.result read here },
      record {
        not_open = λ lets. false≢true (sym c.if-not-go.true ∙ c.go.ensures.open lets);
        shut = subst (λ (q : Question). IsTrue (g.G.Gate.shuts c.args.gate.now q)) asked (c.go.ensures.shut c.if-not-go.true);
        is = ap (λ (ms : List Message). let h : HelperState = record {
          node = c.self.inside.node;
          taker = c.self.inside.taker;
          senders = c.self.inside.senders;
          added = c.self.inside.room.added.items;
          waiting = ms;
          holds = c.self.inside.holds;
          block = length c.self.inside.room.buffer.items;
        } in h) more
            ∙ ap (λ (h : HelperState). let x : HelperState = record h { waiting = h.waiting ++ looked m 0 ∷ [] } in x) c.self.view_is;
      },
    )

pub returns : goal.returns
returns g c =
    let s = c.args.self.now in
    let m = c.args.message in
    let w = c.read_cancel.new.self in
    let read : w ≡ looked m c.read_cancel.result = c.read_cancel.ensures.read in
    let none : c.read_cancel.result ≡ 0 = omega arith in
    let here : IsHere s w = c.is_here.ensures.here.0 c.if-not-is_here.false in
    let ours : IsToAdd s m = record { wanted = unknown m.cancel.known c.read_cancel.result c.read_cancel.ensures.found none; here = here_before s m w c.read_cancel.result read here } in
    serves_so (record { told = g.N.Names.told; tells = g.S.Store.tells; is_open = g.G.Gate.is_open c.args.gate.now; shuts = g.G.Gate.shuts c.args.gate.now }) s c.work.new.self m c.work.result ours
    (subst (λ (x : Message). Works g.N.Names.told g.S.Store.tells s c.work.new.self x c.work.result) (read ∙ ap (looked m) none) c.work.ensures)
