use Rattle.std.proofs.Common.{sym, ◌∙◌}
use Rattle.ecp_history.specs.table.Steps.{table_of}
use Rattle.ecp_coord.proofs.AskLaws.{named_same, named_sought}
use Rattle.ecp_coord.proofs.asking.seek.Goals as goal

pub returns : goal.returns
returns g c = λ shape told history is.
    c.seek_block.ensures shape told history is
    ∙ named_sought shape (table_of shape history) c.args.name.now c.args.index c.in-Some-block_of.block
    (sym (named_same shape told c.args.catalog.now history is c.args.name.now c.args.index) ∙ sym c.block_of.ensures ∙ c.in-Some-block_of.is)
