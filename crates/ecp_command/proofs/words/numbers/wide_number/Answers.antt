use Rattle.std.proofs.Common.{sym, ◌∙◌}
use Rattle.ecp_command.proofs.Decimals.{IsUtf8-decimal, parses, prints}
use Rattle.ecp_command.proofs.words.numbers.wide_number.Goals as goal

pub returns-in_default-clause-none : goal.returns-in_default-clause-none
returns-in_default-clause-none c = λ n lt e. c.in_default.ensures.cases.0 (IsUtf8-decimal n _ lt e)

pub returns-in_default-parse-clause-none : goal.returns-in_default-parse-clause-none
returns-in_default-parse-clause-none c = λ n lt e. c.in_default-parse.not-Ok n (parses n c.in-Ok.digits.now c.parse.result lt (c.in-Ok.ensures.cases.0 ∙ e) c.parse.ensures.value.0)

pub returns-else-eq-clause-none : goal.returns-else-eq-clause-none
returns-else-eq-clause-none c = λ n lt e.
    let p = parses n c.in-Ok.digits.now c.parse.result lt (c.in-Ok.ensures.cases.0 ∙ e) c.parse.ensures.value.0 in
    prints n c.in-Ok-parse.n c.args.text.now c.as_bytes.result.now c.eq.result (sym c.in-Ok-parse.is ∙ p) e (c.as_bytes.ensures.value ∙ c.format.ensures.text) c.if-eq.false c.eq.ensures
