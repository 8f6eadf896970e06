-- After i planes the sum is that of the products with the low i bits.
use Rattle.std.proofs.Common.{◌≡◌, ℕ, ◌*◌, ◌%◌, ◌^◌, ◌<◌, ◌==◌, if◌then◌else◌, map, get_or, bit_and, bit_xor, ap, sym, ◌∙◌, arith, add-one}
use Rattle.std.proofs.lemmas.Nat.{one_shl}
use Rattle.std.proofs.lemmas.Simd.{splat_is_map, zip2_of_maps}
use Rattle.ecp_field.specs.Field.{byte_product}
use Rattle.ecp_kernel.proofs.Lanes.{map_same}
use Rattle.ecp_kernel.proofs.PlaneLemmas.{planes, byte_product-planes}
use Rattle.ecp_kernel.proofs.planes.PlanesMultiplier.products.Goals as goal

pub loop-i-init : goal.loop-i-init
loop-i-init c = splat_is_map c.args.bytes 64 0 c.fits-bytes.0

pub loop-i-preserved : goal.loop-i-preserved
loop-i-preserved c =
    let i = c.loop-i.i in
    let v = c.args.bytes in
    let factor = c.args.self.now.constant in
    let within : i < 8 = omega arith in
    let bit : 1 * 2 ^ i % 2 ^ 8 ≡ 2 ^ i = one_shl i 8 within in
    let next = λ (x : ℕ) (b : ℕ) (p : ℕ). bit_xor (planes i factor x) (if bit_and x b == b then p else 0) in
    zip2_of_maps bit_xor (planes i factor) (λ x. if bit_and x (1 * 2 ^ i % 2 ^ 8) == 1 * 2 ^ i % 2 ^ 8 then get_or c.args.self.now.products i 0 else 0) v c.loop-i.invariant c.plane-sum.ensures
    ∙ ap (λ b. map (λ x. next x b (get_or c.args.self.now.products i 0)) v) bit
    ∙ ap (λ p. map (λ x. next x (2 ^ i) p) v) (c.args.self.now.exact i within)
    ∙ ap (λ n. map (planes n factor) v) (sym (add-one i))

pub returns : goal.returns
returns c =
    let factor = c.args.self.now.constant in
    let all : c.loop-i.i ≡ 8 = omega arith in
    c.loop-i.invariant ∙ ap (λ n. map (planes n factor) c.args.bytes) all ∙ sym (map_same (byte_product factor) (planes 8 factor) (byte_product-planes factor) c.args.bytes)
