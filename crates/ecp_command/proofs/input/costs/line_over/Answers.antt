use Rattle.std.proofs.Common.{ℕ, subst, ◌<◌, ◌+◌}
use Rattle.ecp_shape.specs.declared.limits.TheConstants.{MAX_ENTRIES}
use Rattle.ecp_command.specs.Input.Script.{forms_of}
use Rattle.ecp_command.proofs.Inputs.Spending.{is_over}
use Rattle.ecp_command.proofs.input.costs.line_over.Goals as goal

pub returns-then-spent-gt-MAX_ENTRIES-clause-over : goal.returns-then-spent-gt-MAX_ENTRIES-clause-over
returns-then-spent-gt-MAX_ENTRIES-clause-over c =
    is_over c.args.head.now c.args.forms.now c.loop-numbered.numbered-index c.loop-numbered.spent c.numbered-item.result c.loop-numbered-test.true c.numbered-item.is c.loop-numbered.invariant.0 c.loop-numbered.invariant.1
    (subst (λ (x : ℕ). MAX_ENTRIES < c.loop-numbered.spent + x) (c.cost-spent.ensures.value c.args.head.now (forms_of c.args.forms.now) c.in_ok-sizes.ensures) c.if-spent-gt-MAX_ENTRIES.true)
