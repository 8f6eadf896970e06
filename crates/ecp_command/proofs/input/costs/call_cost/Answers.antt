use Rattle.std.proofs.Common.{ℕ, List, ◌+◌, sym, ap, ◌∙◌}
use Rattle.ecp_command.specs.declared.input.call.Call.{Call as TheCall}
use Rattle.ecp_command.specs.declared.input.form.Form.TheVariants as line
use Rattle.ecp_command.specs.Input.Limits.{cost, most_blocks}
use Rattle.ecp_command.proofs.input.costs.call_cost.Goals as goal

pub returns-in-Cat-clause-value : goal.returns-in-Cat-clause-value
returns-in-Cat-clause-value c = λ head forms are.
    ap (λ (n : ℕ). 2 + n) (c.from.ensures ∙ c.size.ensures ∙ are c.bytes.result.now) ∙ ap (λ (name : List ℕ). 2 + most_blocks head forms name) c.bytes.ensures
    ∙ ap (λ (x : TheCall). cost head forms (line.Call x)) (sym c.in-Cat.is)
