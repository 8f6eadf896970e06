use Rattle.std.proofs.Common.{◌-◌, ◌∙◌, ap, refl, arith, []}
use Rattle.ecp_rebuild.specs.Rules.{view_of}
use Rattle.ecp_rebuild.proofs.Handing.{shares}
use Rattle.ecp_rebuild.proofs.Seating.{shares_one, seats_one, room_at, rooms_left}
use Rattle.ecp_rebuild.proofs.start.seat.Goals as goal

pub another-requires-clause-rule : goal.another-requires-clause-rule
another-requires-clause-rule g c = shares _ _ (omega (arith, c.loop-hand.invariant.parts, c.in-Some.ensures.cases))

pub loop-hand-preserved : goal.loop-hand-preserved
loop-hand-preserved g c =
    let i = c.loop-hand.invariant in
    let popped = c.in-Some.ensures in
    let removed = c.remove-ended.ensures in
    let forked = c.another.ensures in
    let pushed = c.push_reserved.ensures in
    let room = room_at _ _ _ i.room _ (omega (arith, i.count, popped.cases)) removed.value in record {
      pass = (forked.queue.0.0 ∙ i.pass.0, forked.queue.0.2 ∙ i.pass.1);
      parts = omega (arith, i.parts, popped.cases, ap (λ v. v.parts) forked.rule.0);
      took = rw pushed.len (shares_one _ _ _ _ i.took forked.rule.0);
      count = omega (arith, i.count, popped.cases, removed.len);
      whole = omega (arith, i.whole, popped.cases, pushed.len);
      room = rooms_left _ _ (c.len.result - 1) i.room _ removed.by_index.2;
      same = popped.capacity ∙ i.same;
      space = rw pushed.capacity i.space;
      seating = rw pushed.items (seats_one _ _ _ _ _ _ _ _ popped.items i.seating (record {
        hand = refl;
        pass = forked.queue.1;
        starts = forked.rule.1 ∙ ap (λ v. view_of 1 v.jobs []) i.took;
        ended = room.0;
        room = room.1;
      }));
    }
