use Rattle.std.proofs.Common.{rules, ◌≡◌, ◌∙◌, ◌∷◌, [], ◌++◌, List, false, ap, sym, arith}
use Rattle.std.proofs.lemmas.Iterator.Adapters.{YieldsList-from_vec}
use Rattle.std.proofs.lemmas.Iterator.Consumers.{YieldsList-turn}
use Rattle.std.proofs.lemmas.List.{map-append}
use Rattle.ecp_service.specs.Callers.{replies_of}
use Rattle.ecp_service.specs.declared.serving.caller.Caller.{Caller}
use Rattle.ecp_service.specs.declared.serving.replies.Replies.{Replies}
use Rattle.ecp_service.proofs.SeatLaws.{all_more, front_more}
use Rattle.ecp_service.proofs.serving.seating.parted.Goals as goal

pub loop-caller-preserved : goal.loop-caller-preserved
loop-caller-preserved g c =
    let was = c.loop-caller.invariant in
    let callers = c.args.callers.items in
    let yielded = c.loop-caller.yielded in
    let x = c.in-Some.caller in
    let turn = YieldsList-turn (YieldsList-from_vec {s = c.into_iter-caller-iterator.result} callers (search rules) (search rules)) yielded c.loop-caller.caller-iterator c.loop-caller.yielded_by c.next.result c.next.new.self x c.in-Some.is c.next.ensures.steps in
    record {
      front = front_more callers yielded x was.front turn.0 turn.1;
      well = all_more (λ (y : Caller g.row.N.Denot). y.failed ≡ false) yielded x was.well c.if-failed.false;
      passes = c.push_reserved.ensures.items ∙ ap (λ ps. ps ++ x.pass ∷ []) was.passes ∙ sym (map-append (λ (y : Caller g.row.N.Denot). y.pass) yielded (x ∷ []));
      replies = c.push_reserved-in-loop-caller.ensures.items ∙ ap (λ (rs : List Replies). rs ++ replies_of x ∷ []) was.replies ∙ sym (map-append replies_of yielded (x ∷ []));
      room = omega (arith, was.room, c.push_reserved.ensures.capacity);
      also = omega (arith, was.also, c.push_reserved-in-loop-caller.ensures.capacity);
    }
