use Rattle.std.proofs.Common.{◌≡◌, ◌<◌, true, take, All, refl, subst, List}
use Rattle.std.specs.Option.{option_map}
use Rattle.std.proofs.lemmas.List.{take_all}
use Rattle.std.proofs.lemmas.List.Elements.{All-nil, All-more}
use Rattle.ecp_plan.specs.declared.live_row.LiveRow.{LiveRow}
use Rattle.ecp_plan.specs.Turns.{number, turn_of, turn_end, IsNext}
use Rattle.ecp_plan.proofs.NextLaws.{no_next, next_taken}
use Rattle.ecp_plan.proofs.choice.next_turn.Goals as goal

pub loop-row-init : goal.loop-row-init
loop-row-init c = record {
  next = no_next (λ _. true) (turn_of c.args.stamps.now) (turn_end c.args.after);
  bytes = All-nil (λ x. x.node < 256);
}

pub loop-row-preserved : goal.loop-row-preserved
loop-row-preserved c =
    let d : LiveRow = record { row = 0; node = 0 } in
    record {
      next = next_taken (λ _. true) (turn_of c.args.stamps.now) c.args.live.now c.loop-row.row-index d (turn_end c.args.after) (number c.of.result) (option_map number c.loop-row.next) _ c.loop-row-test.true refl c.of.ensures.turn c.nearer_turn-next.ensures c.loop-row.invariant.next;
      bytes = All-more (λ x. x.node < 256) c.args.live.now c.loop-row.row-index d c.loop-row-test.true c.loop-row.invariant.bytes c.of.ensures.byte;
    }

pub returns : goal.returns
returns c =
    let whole : take c.loop-row.row-index c.args.live.now ≡ c.args.live.now = take_all c.loop-row.row-index c.args.live.now c.loop-row-test.false in
    record {
      next = subst (λ (xs : List LiveRow). IsNext (λ _. true) (turn_of c.args.stamps.now) xs (turn_end c.args.after) (option_map number c.loop-row.next)) whole c.loop-row.invariant.next;
      bytes = subst (All (λ (x : LiveRow). x.node < 256)) whole c.loop-row.invariant.bytes;
    }
