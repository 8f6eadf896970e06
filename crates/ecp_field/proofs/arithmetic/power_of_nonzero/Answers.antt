-- The logarithm of a power is a product.
use Rattle.std.proofs.Common.{◌*◌, ◌%◌, ap, sym, ◌∙◌}
use Rattle.ecp_field.proofs.Computed.{power_of_two}
use Rattle.ecp_field.proofs.FieldLaws.{power-by_logs}
use Rattle.ecp_field.proofs.arithmetic.power_of_nonzero.Goals as goal

pub returns : goal.returns
returns c = c.exp.ensures ∙ ap (λ n. power_of_two (n * c.args.e % 255)) c.log.ensures.value ∙ sym (power-by_logs c.args.a c.args.e c.ranges.a.fits c.requires)
