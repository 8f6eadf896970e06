use Rattle.std.proofs.Common.{refl, sym, ◌∙◌, ap, subst, ℕ, List}
use Rattle.std.specs.Prelude.{nat_lt}
use Rattle.std.proofs.lemmas.List.{take_all}
use Rattle.ecp_plan.specs.declared.live_row.LiveRow.{LiveRow}
use Rattle.ecp_plan.specs.Turns.{turn_end, row_end, is_taken, IsNext}
use Rattle.ecp_plan.proofs.NextLaws.{no_next, next_taken, next_passed}
use Rattle.ecp_plan.proofs.choice.next_row.Goals as goal
use Rattle.ecp_plan.proofs.choice.next_row.Goals.{then-is_by, else-is_by}

pub loop-row-init : goal.loop-row-init
loop-row-init c = no_next (is_taken c.args.stamps.now c.args.last) (λ x. x.row) (row_end c.args.after)

pub loop-row-preserved : goal.loop-row-preserved
loop-row-preserved c =
    let d : LiveRow = record { row = 0; node = 0 } in
    let test = is_taken c.args.stamps.now c.args.last in
    let tested = sym (c.is_by.ensures ∙ ap (λ (n : ℕ). nat_lt n (turn_end c.args.last)) c.of.ensures.turn) in
    elim c.if-is_by.branch [
      | then-is_by w ↦ next_taken test (λ x. x.row) c.args.live.now c.loop-row.row-index d (row_end c.args.after) _ c.loop-row.next _ c.loop-row-test.true (tested ∙ w.if-is_by.true) refl (w.next-is ∙ w.nearer_row-next.ensures) c.loop-row.invariant
      | else-is_by w ↦ next_passed test (λ x. x.row) c.args.live.now c.loop-row.row-index d (row_end c.args.after) c.loop-row.next _ c.loop-row-test.true (tested ∙ w.if-is_by.false) w.next-is c.loop-row.invariant
    ]

pub returns : goal.returns
returns c =
    subst (λ (xs : List LiveRow). IsNext (is_taken c.args.stamps.now c.args.last) (λ x. x.row) xs (row_end c.args.after) c.loop-row.next)
    (take_all c.loop-row.row-index c.args.live.now c.loop-row-test.false) c.loop-row.invariant
