-- The inverse is the power that the logarithm leaves of the whole round.
use Rattle.std.proofs.Common.{◌≡◌, ◌-◌, ◌%◌, ap, sym, ◌∙◌, arith}
use Rattle.ecp_field.proofs.Computed.{power_of_two, log_of}
use Rattle.ecp_field.proofs.FieldLaws.{byte_quotient-logs}
use Rattle.ecp_field.proofs.arithmetic.inv.Goals as goal

pub returns : goal.returns
returns c =
    let logs : (255 - c.log.result) % 255 ≡ (255 - log_of c.args.a) % 255 = ap (λ n. (255 - n) % 255) c.log.ensures.value in
    c.exp.ensures ∙ ap power_of_two logs ∙ sym (byte_quotient-logs 1 c.args.a (omega arith) c.ranges.a.fits (λ e. omega arith) c.requires)
