use Rattle.std.proofs.Common.{length, ◌∙◌, ap, List}
use Rattle.ecp_plan.specs.declared.live_row.LiveRow.{LiveRow}
use Rattle.ecp_coord.proofs.HelpLaws.{count_same}
use Rattle.ecp_coord.proofs.asking.live_count.Goals as goal

pub returns-clause-counted : goal.returns-clause-counted
returns-clause-counted g c = λ shape told history is.
    ap (λ (xs : List LiveRow). length xs) (c.as_slice.ensures.rows ∙ c.live_rows.ensures) ∙ count_same shape told c.args.catalog.now history is c.args.stripe
