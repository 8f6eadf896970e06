use Rattle.std.proofs.Common.{sym, ◌∙◌}
use Rattle.ecp_history.specs.table.Steps.{table_of}
use Rattle.ecp_coord.proofs.AskLaws.{block_had, block_lost}
use Rattle.ecp_coord.proofs.asking.seek_block.Goals as goal

pub returns-then-can_be_had : goal.returns-then-can_be_had
returns-then-can_be_had g c = λ shape told history is.
    block_had shape (table_of shape history) c.args.block (sym (c.can_be_had.ensures shape told history is) ∙ c.if-can_be_had.true)

pub returns-else-can_be_had : goal.returns-else-can_be_had
returns-else-can_be_had g c = λ shape told history is.
    block_lost shape (table_of shape history) c.args.block c.live_count.result (sym (c.can_be_had.ensures shape told history is) ∙ c.if-can_be_had.false)
    (c.live_count.ensures.counted shape told history is)
