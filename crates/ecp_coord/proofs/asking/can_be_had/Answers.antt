use Rattle.std.proofs.Common.{sym, ◌∙◌, ap}
use Rattle.ecp_shape.specs.declared.shape.Shape.{Shape}
use Rattle.ecp_history.specs.table.Steps.{table_of}
use Rattle.ecp_coord.proofs.AskLaws.{lost_had}
use Rattle.ecp_coord.proofs.HelpLaws.{live_same}
use Rattle.ecp_coord.proofs.asking.can_be_had.Goals as goal

pub returns-else-is_live : goal.returns-else-is_live
returns-else-is_live g c = λ shape told history is.
    lost_had shape (table_of shape history) c.args.block c.shape.result.k c.live_count.result
    (sym (live_same shape told c.args.catalog.now history is c.args.block.stripe c.args.block.row) ∙ sym c.is_live.ensures ∙ c.if-is_live.false)
    (ap (λ (z : Shape). z.k) (c.shape.ensures.shape ∙ is.sizes)) (c.live_count.ensures.counted shape told history is)
