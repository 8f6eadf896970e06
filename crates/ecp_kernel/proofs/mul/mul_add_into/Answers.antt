-- The constants that take the short way.
use Rattle.std.proofs.Common.{length, ap, sym, ◌∙◌}
use Rattle.ecp_field.specs.Lists.{sums, scaled}
use Rattle.ecp_field.proofs.ListLaws.{sums-zeros, scaled-zero, scaled-one}
use Rattle.ecp_kernel.proofs.mul.mul_add_into.Goals as goal

pub returns-in-0 : goal.returns-in-0
returns-in-0 c =
    let old = c.args.dst.now in
    let src = c.args.src.now in
    sym (ap (λ n. sums old (scaled n src)) c.in-0.is ∙ ap (sums old) (scaled-zero src (λ k. (c.type_inv.src k).fits)) ∙ sums-zeros old (length src) c.requires)

pub returns-in-1 : goal.returns-in-1
returns-in-1 c =
    let old = c.args.dst.now in
    let src = c.args.src.now in
    c.xor_into.ensures ∙ sym (ap (λ n. sums old (scaled n src)) c.in-1.is ∙ ap (sums old) (scaled-one src (λ k. (c.type_inv.src k).fits)))
