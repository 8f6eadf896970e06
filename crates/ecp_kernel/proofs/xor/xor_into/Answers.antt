-- A block of lanes makes the next 64 sums, and the plain loop the rest.
use Rattle.std.proofs.Common.{◌≡◌, ◌-◌, length, take, drop, refl, ap, sym, ◌∙◌, arith}
use Rattle.ecp_field.specs.Lists.{sums}
use Rattle.ecp_field.proofs.ListLaws.{length-sums}
use Rattle.ecp_kernel.proofs.Parts.{made-sums, made-rest, rest-sums, take-rest}
use Rattle.ecp_kernel.proofs.xor.xor_into.Goals as goal

pub loop-at-preserved : goal.loop-at-preserved
loop-at-preserved c =
    let old = c.args.dst.now in
    let src = c.args.src.now in
    record {
      within = omega arith;
      so_far = made-sums c.loop-at.at old src c.loop-at.dst _ (sym c.requires) (omega arith) (omega arith) c.loop-at.invariant.so_far refl;
    }

pub returns : goal.returns
returns c =
    let old = c.args.dst.now in
    let src = c.args.src.now in
    let at = c.loop-at.at in
    let cur = c.loop-at.dst in
    let all : length (sums old src) ≡ length old = length-sums old src c.requires in
    made-rest at (sums old src) old cur _ (omega arith) (omega arith) c.loop-at.invariant.so_far
    (c.xor_bytes.ensures
    ∙ ap (λ xs. sums xs (take (length src - at) (drop at src))) (take-rest at cur) ∙ ap (sums (drop at cur)) (take-rest at src)
    ∙ rest-sums at old src cur (sym c.requires) (omega arith) c.loop-at.invariant.so_far)
