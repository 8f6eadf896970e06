-- The quotient is the power that the difference of the logarithms names.
use Rattle.std.proofs.Common.{◌≡◌, ◌+◌, ◌-◌, ◌%◌, ap, sym, ◌∙◌, arith}
use Rattle.ecp_field.specs.Field.{byte_quotient}
use Rattle.ecp_field.proofs.Computed.{power_of_two, log_of}
use Rattle.ecp_field.proofs.FieldLaws.{byte_quotient-logs, quotient-zero_left}
use Rattle.ecp_field.proofs.arithmetic.div.Goals as goal

pub returns-then-a-eq0 : goal.returns-then-a-eq0
returns-then-a-eq0 c =
    sym (ap (λ n. byte_quotient n c.args.b) c.if-a-eq0.true ∙ quotient-zero_left c.args.b c.ranges.b.fits c.requires)

pub returns : goal.returns
returns c =
    let logs : (c.log.result + 255 - c.log-2.result) % 255 ≡ (log_of c.args.a + 255 - log_of c.args.b) % 255 =
    ap (λ n. (n + 255 - c.log-2.result) % 255) c.log.ensures.value ∙ ap (λ n. (log_of c.args.a + 255 - n) % 255) c.log-2.ensures.value in
    c.exp.ensures ∙ ap power_of_two logs
    ∙ sym (byte_quotient-logs c.args.a c.args.b c.ranges.a.fits c.ranges.b.fits (λ e. omega arith) c.requires)
