-- The powers of 0, and those that are 1 by definition.
use Rattle.std.proofs.Common.{ap, sym, ◌∙◌}
use Rattle.ecp_field.specs.Field.{byte_power}
use Rattle.ecp_field.proofs.FieldLaws.{power-zero}
use Rattle.ecp_field.proofs.arithmetic.pow.Goals as goal

pub returns-then-e-eq0 : goal.returns-then-e-eq0
unfolding byte_power
returns-then-e-eq0 c = sym (ap (byte_power c.args.a) c.if-e-eq0.true)

pub returns-then-a-eq0 : goal.returns-then-a-eq0
returns-then-a-eq0 c = sym (ap (λ a. byte_power a c.args.e) c.if-a-eq0.true ∙ power-zero c.args.e c.if-e-eq0.false)
