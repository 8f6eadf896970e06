-- Both lists have the same items.
use Rattle.std.proofs.Common.{◌≡◌, length, sym, ◌∙◌, arith}
use Rattle.std.proofs.lemmas.List.{ext_get_or}
use Rattle.ecp_field.specs.Lists.{sums}
use Rattle.ecp_field.proofs.ListLaws.{length-sums, get_or-sums}
use Rattle.ecp_kernel.proofs.plain.xor_bytes.Goals as goal

pub returns : goal.returns
returns c =
    let old = c.args.dst.now in
    let src = c.args.src.now in
    let l = c.loop-i in
    let long : length l.dst ≡ length (sums old src) = l.invariant.long ∙ sym c.requires ∙ sym (length-sums old src c.requires) in
    ext_get_or 0 l.dst (sums old src) long (λ k h. l.invariant.done k (omega (arith, l.invariant.long)) ∙ sym (get_or-sums old src k c.requires))
