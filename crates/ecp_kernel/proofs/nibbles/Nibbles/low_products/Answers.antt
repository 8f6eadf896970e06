-- A look-up at the low halves.
use Rattle.std.proofs.Common.{◌%◌, ◌∙◌, bit_and, arith}
use Rattle.std.proofs.lemmas.Nat.{and_mask}
use Rattle.std.proofs.lemmas.Simd.{zip2_splat}
use Rattle.ecp_field.specs.Field.{byte_product}
use Rattle.ecp_kernel.proofs.Lanes.{map_same, low_ok, looked_up}
use Rattle.ecp_kernel.proofs.nibbles.Nibbles.low_products.Goals as goal

pub swizzle : goal.swizzle
swizzle c = low_ok c.args.bytes c.fits-bytes

pub returns : goal.returns
returns c =
    let v = c.args.bytes in
    looked_up c.args.self.now.low (byte_product c.args.self.now.constant) (λ x. x % 16) v _ c.fits-bytes
    (zip2_splat bit_and v 64 15 c.fits-bytes.0 ∙ map_same (λ x. bit_and x 15) (λ x. x % 16) (λ x. and_mask x 4) v) (λ x h. omega arith) c.args.self.now.low_exact
