-- A look-up at the high halves.
use Rattle.std.proofs.Common.{◌*◌, ◌/◌, arith}
use Rattle.std.proofs.lemmas.Simd.{zip2_splat}
use Rattle.ecp_field.specs.Field.{byte_product}
use Rattle.ecp_kernel.proofs.Lanes.{down, high_ok, looked_up}
use Rattle.ecp_kernel.proofs.nibbles.Nibbles.high_products.Goals as goal

pub swizzle : goal.swizzle
swizzle c = high_ok c.args.bytes c.fits-bytes

pub returns : goal.returns
returns c =
    let v = c.args.bytes in
    looked_up c.args.self.now.high (λ j. byte_product c.args.self.now.constant (j * 16)) (λ x. x / 16) v _ c.fits-bytes
    (zip2_splat down v 64 4 c.fits-bytes.0) (λ x h. omega arith) c.args.self.now.high_exact
