use Rattle.std.proofs.Common.{sym, ◌∙◌, subst, ◌≤◌, ℕ}
use Rattle.std.proofs.lemmas.Bool.{false≢true}
use Rattle.ecp_shape.specs.declared.limits.TheConstants.{MAX_PUT_BYTES}
use Rattle.ecp_command.proofs.Inputs.Spelled.{no_put, put_at}
use Rattle.ecp_command.proofs.input.forms.put.Goals as goal

pub returns-in_default : goal.returns-in_default
returns-in_default c = λ f h _. no_put c.args.rest.now f c.in_default.ensures.none h

pub returns-then-not-is_name : goal.returns-then-not-is_name
returns-then-not-is_name c = λ f h _.
    let p = put_at c.args.rest.now c.in-Some.name.now c.in-Some.words.now f c.in-Some.ensures.some h in
    false≢true (sym c.if-not-is_name.true ∙ c.is_name.ensures.1 p.is_name)

pub returns-in_default-2 : goal.returns-in_default-2
returns-in_default-2 c = λ f h short.
    let p = put_at c.args.rest.now c.in-Some.name.now c.in-Some.words.now f c.in-Some.ensures.some h in
    let none = rw c.in_default-2.is at c.in_ok-bytes.ensures in
    none p.bytes p.give (subst (λ (n : ℕ). n ≤ MAX_PUT_BYTES) p.len short)
