use Rattle.std.proofs.Common.{ℕ, Option, subst, List}
use Rattle.std.specs.Prelude.{IfSome}
use Rattle.std.proofs.lemmas.Result.{err_from_is_err_and}
use Rattle.ecp_command.specs.declared.input.numbered.Numbered.{Numbered}
use Rattle.ecp_command.specs.Input.Costs.{IsOver}
use Rattle.ecp_command.proofs.Inputs.Gathering.{are_sessions, few_forms}
use Rattle.ecp_command.proofs.Inputs.Joined.{head_refuses, cost_refuses}
use Rattle.ecp_command.proofs.input.accepted.read_input.Goals as goal

pub returns-in_err-head-clause-refused : goal.returns-in_err-head-clause-refused
returns-in_err-head-clause-refused c =
    let p = err_from_is_err_and c.from_residual.result c.from_residual.ensures.1 in
    rw (p.1, p.2) (head_refuses c.args.bytes.now _ c.in_err-head.field-0.0 c.in-Some.ensures.some c.in_err-head.ensures.refused)

pub returns-in-Some-2-clause-refused : goal.returns-in-Some-2-clause-refused
returns-in-Some-2-clause-refused c =
    cost_refuses c.args.bytes.now _ c.in_ok-head.head c.in_ok-script.script c.in-Some-2.line c.in-Some.ensures.some c.in_ok-head.ensures.gives c.in_ok-script.ensures.read
    (subst (λ (ns : List Numbered). IsOver c.in_ok-head.head ns c.in-Some-2.line) c.deref.ensures.value
    (subst (λ (o : Option ℕ). IfSome o (IsOver c.in_ok-head.head c.deref.result.now)) c.in-Some-2.is c.in_ok-line.ensures.over))

pub sessions_with_calls-requires : goal.sessions_with_calls-requires
sessions_with_calls-requires c = record {
  sessions = are_sessions _ c.in_ok-script.script.forms.items c.in_ok-script.ensures.read.read.spelled;
  few = few_forms c.in_ok-script.script.forms.items c.in_ok-script.ensures.read.totals.keep.lines;
}
