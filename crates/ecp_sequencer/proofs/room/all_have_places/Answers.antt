use Rattle.std.proofs.Common.{◌+◌, ◌-◌, ◌^◌, ◌<◌, length, ap, subst, arith}
use Rattle.std.specs.Prelude.{All}
use Rattle.std.proofs.lemmas.List.{take_all}
use Rattle.std.proofs.lemmas.List.Elements.{All-more}
use Rattle.ecp_sequencer.specs.declared.limits.TheConstants.{ROOM}
use Rattle.ecp_sequencer.specs.Passes.{HandNotes}
use Rattle.ecp_sequencer.proofs.room.all_have_places.Goals as goal

pub loop-hand-preserved : goal.loop-hand-preserved
loop-hand-preserved g c =
    All-more (λ (h : HandNotes). length h.notes + 1 + ROOM < 2 ^ 32 - 1) c.args.hands.now c.loop-hand.hand-index c.hand-item.result c.loop-hand-test.true c.loop-hand.invariant
    (omega (arith, c.if-from.false, c.len.ensures, c.from.ensures, c.from-in-loop-hand.ensures, c.from-in-loop-hand-2.ensures, ap (λ (h : HandNotes). length h.notes) c.hand-item.is))

pub returns : goal.returns
returns g c = λ _.
    subst (All (λ (h : HandNotes). length h.notes + 1 + ROOM < 2 ^ 32 - 1)) (take_all c.loop-hand.hand-index c.args.hands.now (omega (arith, c.loop-hand-test.false))) c.loop-hand.invariant
