use Rattle.std.proofs.Common.{sym, ◌∙◌, ap}
use Rattle.ecp_shape.specs.declared.shape.Shape.{Shape}
use Rattle.ecp_history.specs.table.Steps.{table_of}
use Rattle.ecp_history.specs.table.Tables.{block_count}
use Rattle.ecp_coord.proofs.OpeningLaws.{none_opened, opened_found}
use Rattle.ecp_coord.proofs.StatLaws.{file_same}
use Rattle.ecp_coord.proofs.opening.find.Goals as goal

pub returns-in-Some : goal.returns-in-Some
returns-in-Some g c = λ shape told history is.
    opened_found shape (table_of shape history) c.args.name.now c.in-Some.file c.block_count.result
    (sym (file_same shape told c.args.catalog.now history is c.args.name.now) ∙ sym c.file.ensures ∙ c.in-Some.is)
    (c.block_count.ensures ∙ ap (λ (z : Shape). block_count z c.in-Some.file) is.sizes)

pub returns-in-None : goal.returns-in-None
returns-in-None g c = λ shape told history is.
    none_opened shape (table_of shape history) c.args.name.now (sym (file_same shape told c.args.catalog.now history is c.args.name.now) ∙ sym c.file.ensures ∙ c.in-None.is)
