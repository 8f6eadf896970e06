-- The two look-ups together.
use Rattle.std.proofs.Common.{ℕ, ◌*◌, ◌/◌, ◌%◌, bit_xor, sym, ◌∙◌}
use Rattle.std.proofs.lemmas.Simd.{zip2_of_maps}
use Rattle.ecp_field.specs.Field.{byte_product}
use Rattle.ecp_kernel.proofs.Lanes.{map_same}
use Rattle.ecp_kernel.proofs.NibbleLemmas.{byte_product-halves}
use Rattle.ecp_kernel.proofs.nibbles.NibblesMultiplier.products.Goals as goal

pub returns : goal.returns
returns c =
    let factor = c.args.self.now.constant in
    let low = λ (x : ℕ). byte_product factor (x % 16) in
    let high = λ (x : ℕ). byte_product factor (x / 16 * 16) in
    zip2_of_maps bit_xor low high c.args.bytes c.low_products.ensures c.high_products.ensures
    ∙ sym (map_same (byte_product factor) (λ x. bit_xor (low x) (high x)) (byte_product-halves factor) c.args.bytes)
