use Rattle.std.proofs.Common.{◌∙◌, sym}
use Rattle.ecp_command.proofs.Inputs.Scripts.{reads, refuses, refuses_any}
use Rattle.ecp_command.specs.Input.Script.{forms_of}
use Rattle.ecp_command.proofs.input.script.Script.read_line.Goals as goal

pub returns-in_default-clause-refused : goal.returns-in_default-clause-refused
returns-in_default-clause-refused c = λ before h.
    refuses_any c.args.head.now before c.args.self.now c.args.number c.args.line.now h (sym c.is_skipped.ensures ∙ c.if-is_skipped.false) (rw c.in_default.is at c.in_ok-form.ensures)

pub returns-in_default-with_line-clause-refused : goal.returns-in_default-with_line-clause-refused
returns-in_default-with_line-clause-refused c = λ before h.
    refuses c.args.head.now before c.args.self.now c.args.number c.args.line.now c.in-Some.form h (sym c.is_skipped.ensures ∙ c.if-is_skipped.false) (rw c.in-Some.is at c.in_ok-form.ensures)
    (c.in_default-with_line.ensures (forms_of c.args.self.now.forms.items) h.totals)

pub returns-clause-read : goal.returns-clause-read
returns-clause-read c = λ before h.
    reads c.args.head.now before c.args.self.now _ c.args.number c.args.line.now c.in-Some.form h (sym c.is_skipped.ensures ∙ c.if-is_skipped.false) (rw c.in-Some.is at c.in_ok-form.ensures)
    c.in_ok-push.ensures.items
    (c.in-Some-with_line.ensures (forms_of c.args.self.now.forms.items) h.totals)
