use Rattle.std.proofs.Common.{sym, ◌∙◌}
use Rattle.ecp_history.specs.table.Steps.{table_of}
use Rattle.ecp_coord.proofs.NextLaws.{had_last, had_more, not_had}
use Rattle.ecp_coord.proofs.replanning.find.Goals as goal

pub returns-then-not-can_be_had : goal.returns-then-not-can_be_had
returns-then-not-can_be_had g c = λ shape told history is.
    not_had shape (table_of shape history) c.args.plan.now c.live_count.result (sym (c.can_be_had.ensures shape told history is) ∙ c.if-not-can_be_had.true) (c.live_count.ensures.counted shape told history is)

pub returns-then-from-eq-MAX_ATTEMPTS : goal.returns-then-from-eq-MAX_ATTEMPTS
returns-then-from-eq-MAX_ATTEMPTS g c = λ shape told history is.
    had_last shape (table_of shape history) c.args.plan.now c.from.result (sym (c.can_be_had.ensures shape told history is) ∙ c.if-not-can_be_had.false) c.from.ensures c.if-from-eq-MAX_ATTEMPTS.true

pub returns-else-from-eq-MAX_ATTEMPTS : goal.returns-else-from-eq-MAX_ATTEMPTS
returns-else-from-eq-MAX_ATTEMPTS g c = λ shape told history is.
    had_more shape (table_of shape history) c.args.plan.now c.from.result (sym (c.can_be_had.ensures shape told history is) ∙ c.if-not-can_be_had.false) c.from.ensures c.if-from-eq-MAX_ATTEMPTS.false
