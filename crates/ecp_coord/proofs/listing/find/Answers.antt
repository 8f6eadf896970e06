use Rattle.std.proofs.Common.{List, sym, ◌∙◌, ap, refl, inl, inr}
use Rattle.ecp_history.specs.declared.table.block_name.BlockName.{BlockName}
use Rattle.ecp_catalog.specs.LostBlocks.{tasks_of}
use Rattle.ecp_catalog.proofs.LostBlockLaws.{lost-outlined}
use Rattle.ecp_coord.proofs.listing.find.Goals as goal

pub returns-in-Some-clause-answer : goal.returns-in-Some-clause-answer
returns-in-Some-clause-answer g c = λ shape told history is. inl (sym (c.hinders.ensures shape told history is) ∙ c.in-Some.is)

pub returns-in-Ok-clause-answer : goal.returns-in-Ok-clause-answer
returns-in-Ok-clause-answer g c = λ shape told history is. (
  sym (c.hinders.ensures shape told history is) ∙ c.in-None.is,
  c.in-Ok.ensures.tasks ∙ ap (λ (bs : List BlockName). tasks_of bs) (lost-outlined shape told c.args.catalog.now history c.args.from is),
)

pub returns-in-Err-clause-answer : goal.returns-in-Err-clause-answer
returns-in-Err-clause-answer g c = λ shape told history is. inr (refl, sym (c.hinders.ensures shape told history is) ∙ c.in-None.is)
