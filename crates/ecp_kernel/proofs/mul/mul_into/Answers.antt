-- The constants that take the short way.
use Rattle.std.proofs.Common.{replicate, ap, sym, ◌∙◌}
use Rattle.ecp_field.specs.Lists.{scaled}
use Rattle.ecp_field.proofs.ListLaws.{scaled-zero, scaled-one}
use Rattle.ecp_kernel.proofs.mul.mul_into.Goals as goal

pub returns-in-0 : goal.returns-in-0
returns-in-0 c =
    let src = c.args.src.now in
    c.fill.ensures.after (λ y e. e) ∙ ap (λ n. replicate n 0) c.requires ∙ sym (ap (λ n. scaled n src) c.in-0.is ∙ scaled-zero src (λ k. (c.type_inv.src k).fits))

pub returns-in-1 : goal.returns-in-1
returns-in-1 c =
    let src = c.args.src.now in
    c.copy_from_slice.ensures.after ∙ sym (ap (λ n. scaled n src) c.in-1.is ∙ scaled-one src (λ k. (c.type_inv.src k).fits))
