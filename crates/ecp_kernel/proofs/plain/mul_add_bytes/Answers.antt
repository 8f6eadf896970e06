-- Both lists have the same items.
use Rattle.std.proofs.Common.{◌≡◌, length, get_or, bit_xor, ap, sym, ◌∙◌, arith}
use Rattle.std.proofs.lemmas.List.{ext_get_or}
use Rattle.ecp_field.specs.Lists.{sums, scaled}
use Rattle.ecp_field.proofs.ListLaws.{length-sums, length-scaled, get_or-sums, get_or-scaled}
use Rattle.ecp_kernel.proofs.plain.mul_add_bytes.Goals as goal

pub returns : goal.returns
returns c =
    let old = c.args.dst.now in
    let src = c.args.src.now in
    let more = scaled c.args.c src in
    let l = c.loop-i in
    let same : length old ≡ length more = c.requires ∙ sym (length-scaled c.args.c src) in
    let long : length l.dst ≡ length (sums old more) = l.invariant.long ∙ sym c.requires ∙ sym (length-sums old more same) in
    ext_get_or 0 l.dst (sums old more) long (λ k h.
    l.invariant.done k (omega (arith, l.invariant.long))
    ∙ ap (bit_xor (get_or old k 0)) (sym (get_or-scaled c.args.c src k (omega (arith, l.invariant.long))))
    ∙ sym (get_or-sums old more k same))
