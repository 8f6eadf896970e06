-- A block of lanes makes the next 64 products, and the plain loop the rest.
use Rattle.std.proofs.Common.{◌≡◌, length, drop, ap, sym, ◌∙◌, arith}
use Rattle.std.proofs.lemmas.List.{drop-map}
use Rattle.ecp_field.specs.Field.{byte_product}
use Rattle.ecp_field.specs.Lists.{scaled}
use Rattle.ecp_field.proofs.ListLaws.{length-scaled}
use Rattle.ecp_kernel.proofs.Parts.{made-lanes, made-rest, part-scaled, take-rest}
use Rattle.ecp_kernel.proofs.mul.mul_by.Goals as goal

pub loop-at-preserved : goal.loop-at-preserved
loop-at-preserved g c =
    let old = c.args.dst.now in
    let src = c.args.src.now in
    let factor = g.M.Multiplier.factor c.args.by.now in
    let all : length (scaled factor src) ≡ length old = length-scaled factor src ∙ sym c.requires in
    record {
      within = omega arith;
      so_far = made-lanes c.loop-at.at (scaled factor src) old c.loop-at.dst c.products-products.result all (omega arith) (omega arith) c.loop-at.invariant.so_far
          (c.products-products.ensures ∙ part-scaled factor c.loop-at.at src);
    }

pub returns : goal.returns
returns g c =
    let old = c.args.dst.now in
    let src = c.args.src.now in
    let factor = g.M.Multiplier.factor c.args.by.now in
    let at = c.loop-at.at in
    let all : length (scaled factor src) ≡ length old = length-scaled factor src ∙ sym c.requires in
    made-rest at (scaled factor src) old c.loop-at.dst c.mul_bytes.new.dst (omega arith) (omega arith) c.loop-at.invariant.so_far
    (c.mul_bytes.ensures
    ∙ ap (scaled c.constant.result) (take-rest at src) ∙ ap (λ n. scaled n (drop at src)) c.constant.ensures ∙ sym (drop-map (byte_product factor) at src))
