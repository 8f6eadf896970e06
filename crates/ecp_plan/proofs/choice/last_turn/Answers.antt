use Rattle.std.proofs.Common.{◌≡◌, ◌+◌, ◌∙◌, ap, ℕ, arith, false, nat_lt}
use Rattle.std.proofs.lemmas.Bool.Decides.{nat_tests}
use Rattle.ecp_plan.specs.declared.live_row.LiveRow.{LiveRow}
use Rattle.ecp_plan.specs.Turns.{turn_of}
use Rattle.ecp_plan.proofs.SumLaws.{none_counted}
use Rattle.ecp_plan.proofs.CountLaws.{turn_more}
use Rattle.ecp_plan.proofs.choice.last_turn.Goals as goal

none_before : (n : ℕ) → nat_lt n 0 ≡ false
none_before n = grind (arith, nat_tests)

pub loop-taken-init : goal.loop-taken-init
loop-taken-init c = record { count = none_counted (λ (x : LiveRow). nat_lt (turn_of c.args.stamps.now x) 0) c.args.live.now (λ x. none_before (turn_of c.args.stamps.now x)); bytes = λ some. absurd (omega arith) }

pub loop-taken-preserved : goal.loop-taken-preserved
loop-taken-preserved c = record {
  count =
      turn_more c.args.stamps.now c.args.live.now c.loop-taken.last c.next_turn-last.result c.next_turn-last.ensures.next c.requires.nodes c.next_turn-last.ensures.bytes
      (omega (arith, c.loop-taken.invariant.count, c.requires.enough)) ∙ ap (λ (n : ℕ). n + 1) c.loop-taken.invariant.count;
  bytes = λ some. c.next_turn-last.ensures.bytes;
}

pub returns : goal.returns
returns c =
    let all : c.loop-taken._taken ≡ c.args.k = omega arith in
    record { count = c.loop-taken.invariant.count ∙ all; bytes = c.loop-taken.invariant.bytes (omega (arith, c.requires.some)) }
