use Rattle.std.proofs.Common.{◌≡◌, ◌<◌, count_by, All}
use Rattle.ecp_plan.specs.Turns.{is_taken}
use Rattle.ecp_plan.proofs.choice.last_turn.Given as goal

abbrev pub invariant-loop-taken : goal.invariant-loop-taken
invariant-loop-taken l = record {
  count : count_by (is_taken l.stamps l.last) l.live ≡ l._taken;
  bytes : 0 < l._taken → All (λ x. x.node < 256) l.live;
}
