use Rattle.std.proofs.Common.{◌≡◌, ℕ, ◌+◌, ◌-◌, ◌*◌, ◌/◌, ◌<◌, ap, ◌∙◌, arith, mul-pos}
use Rattle.ecp_shape.specs.declared.shape.Shape.{Shape}
use Rattle.ecp_code.proofs.StripeLaws.{rounded_up}
use Rattle.ecp_coord.proofs.places.stripes_of.Goals as goal

pub returns : goal.returns
returns g c =
    let shape : Shape = c.args.catalog.now.shape in
    let size : ℕ = c.from.result * c.from-2.result in
    let same = c.shape-shape.ensures.shape in
    let k : c.from.result ≡ shape.k = c.from.ensures ∙ ap (λ (x : Shape). x.k) same in
    let block : c.from-2.result ≡ shape.block = c.from-2.ensures ∙ ap (λ (x : Shape). x.block) same in
    let is_size : size ≡ shape.k * shape.block = ap (λ (n : ℕ). n * c.from-2.result) k ∙ ap (λ (n : ℕ). shape.k * n) block in
    let range = c.shape-shape.ensures.range in
    let some : 0 < size = mul-pos (omega (arith, k, range.data_rows)) (omega (arith, block, range.some)) in
    c.div_ceil.ensures ∙ rounded_up c.from-3.result size some ∙ ap (λ (n : ℕ). (n + size - 1) / size) c.from-3.ensures ∙ ap (λ (n : ℕ). (c.args.len + n - 1) / n) is_size
