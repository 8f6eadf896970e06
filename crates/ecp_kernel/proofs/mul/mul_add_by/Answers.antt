-- A block of lanes makes the next 64 sums, and the plain loop the rest.
use Rattle.std.proofs.Common.{◌≡◌, ◌-◌, length, drop, take, ap, sym, ◌∙◌, arith}
use Rattle.std.proofs.lemmas.List.{drop-map}
use Rattle.ecp_field.specs.Field.{byte_product}
use Rattle.ecp_field.specs.Lists.{sums, scaled}
use Rattle.ecp_field.proofs.ListLaws.{length-sums, length-scaled}
use Rattle.ecp_kernel.proofs.Parts.{made-sums, made-rest, part-scaled, rest-sums, take-rest}
use Rattle.ecp_kernel.proofs.mul.mul_add_by.Goals as goal

pub loop-at-preserved : goal.loop-at-preserved
loop-at-preserved g c =
    let old = c.args.dst.now in
    let src = c.args.src.now in
    let factor = g.M.Multiplier.factor c.args.by.now in
    let same : length (scaled factor src) ≡ length old = length-scaled factor src ∙ sym c.requires in
    record {
      within = omega arith;
      so_far = made-sums c.loop-at.at old (scaled factor src) c.loop-at.dst c.products-products.result same (omega arith) (omega arith) c.loop-at.invariant.so_far
          (c.products-products.ensures ∙ part-scaled factor c.loop-at.at src);
    }

pub returns : goal.returns
returns g c =
    let old = c.args.dst.now in
    let src = c.args.src.now in
    let factor = g.M.Multiplier.factor c.args.by.now in
    let at = c.loop-at.at in
    let cur = c.loop-at.dst in
    let same : length (scaled factor src) ≡ length old = length-scaled factor src ∙ sym c.requires in
    let all : length (sums old (scaled factor src)) ≡ length old = length-sums old (scaled factor src) (sym same) in
    made-rest at (sums old (scaled factor src)) old cur c.mul_add_bytes.new.dst (omega arith) (omega arith) c.loop-at.invariant.so_far
    (c.mul_add_bytes.ensures
    ∙ ap (λ xs. sums xs (scaled c.constant.result (take (length src - at) (drop at src)))) (take-rest at cur)
    ∙ ap (λ xs. sums (drop at cur) (scaled c.constant.result xs)) (take-rest at src)
    ∙ ap (λ n. sums (drop at cur) (scaled n (drop at src))) c.constant.ensures
    ∙ ap (sums (drop at cur)) (sym (drop-map (byte_product factor) at src))
    ∙ rest-sums at old (scaled factor src) cur same (omega arith) c.loop-at.invariant.so_far)
