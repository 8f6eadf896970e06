use Rattle.std.proofs.Common.{sym, ◌∙◌, length}
use Rattle.std.proofs.lemmas.Bool.{eqb-true}
use Rattle.std.proofs.lemmas.List.{nil_from_length}
use Rattle.std.proofs.lemmas.Result.{err_from_is_err_and}
use Rattle.ecp_command.proofs.Inputs.Scripts.{ends, is_done}
use Rattle.ecp_command.proofs.input.script.Script.read.Goals as goal

pub returns-in_err-read_line-clause-refused : goal.returns-in_err-read_line-clause-refused
returns-in_err-read_line-clause-refused c =
    let p = err_from_is_err_and c.from_residual.result c.from_residual.ensures.1 in
    rw (p.1, p.2) (ends c.args.head.now c.args.text.now c.lines.rest.now c.next_line.result.0.now c.next_line.result.1.now c.args.first c.lines.number c.lines.script c.in_err-read_line.field-0.0 c.lines.invariant c.next_line.ensures.line
    (c.in_err-read_line.ensures.refused c.lines.invariant.before c.lines.invariant.read))

pub returns-clause-read : goal.returns-clause-read
returns-clause-read c =
    is_done c.args.head.now c.args.text.now c.lines.rest.now c.args.first c.lines.number c.lines.script c.lines.invariant
    (nil_from_length c.lines.rest.now (eqb-true (length c.lines.rest.now) 0 (sym c.is_empty.ensures ∙ c.lines-test.false)))
