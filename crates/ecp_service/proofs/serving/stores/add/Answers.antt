use Rattle.std.proofs.Common.{rules, ◌∙◌, ap, arith, length, length-append}
use Rattle.std.proofs.lemmas.Iterator.Adapters.{YieldsList-from_vec}
use Rattle.std.proofs.lemmas.Iterator.Consumers.{YieldsList-turn}
use Rattle.ecp_service.proofs.serving.stores.add.Goals as goal

pub push_reserved-requires : goal.push_reserved-requires
push_reserved-requires g c =
    let stores = c.args.stores.items in
    let yielded = c.loop-store.yielded in
    let turn = YieldsList-turn (YieldsList-from_vec {s = c.into_iter-store-iterator.result} stores (search rules) (search rules)) yielded c.loop-store.store-iterator c.loop-store.yielded_by c.next.result c.next.new.self c.in-Some.store c.in-Some.is c.next.ensures.steps in
    let long = ap (λ xs. length xs) c.loop-store.invariant.items ∙ length-append c.args.all.items yielded in
    omega (arith, c.loop-store.invariant.room, long, turn.0, c.requires)
