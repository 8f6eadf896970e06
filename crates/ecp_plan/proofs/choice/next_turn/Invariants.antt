use Rattle.std.proofs.Common.{◌<◌, true, take, All}
use Rattle.std.specs.Option.{option_map}
use Rattle.ecp_plan.specs.Turns.{number, turn_of, turn_end, IsNext}
use Rattle.ecp_plan.proofs.choice.next_turn.Given as goal

abbrev pub invariant-loop-row : goal.invariant-loop-row
invariant-loop-row l = record {
  next : IsNext (λ _. true) (turn_of l.stamps) (take l.row-index l.live) (turn_end l.after) (option_map number l.next);
  bytes : All (λ x. x.node < 256) (take l.row-index l.live);
}
