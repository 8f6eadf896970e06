-- A product is the sum of the products with the two halves of one of its bytes.
use Rattle.std.proofs.Common.{◌≡◌, ℕ, ◌+◌, ◌*◌, ◌/◌, ◌%◌, ap, sym, ◌∙◌, arith}
use Rattle.std.specs.Int.Bits.{xor_shifted}
use Rattle.ecp_field.specs.Field.{byte_sum, byte_product}
use Rattle.ecp_field.proofs.FieldLaws.{sum_comm, product-sum_right}

halves : (x : ℕ) → byte_sum (x % 16) (x / 16 * 16) ≡ x
halves x =
    let whole : x / 16 * 16 + x % 16 ≡ x = omega arith in
    sum_comm (x % 16) (x / 16 * 16) ∙ xor_shifted (x / 16) 4 (x % 16) (omega arith) ∙ whole

pub byte_product-halves : (c x : ℕ) → byte_product c x ≡ byte_sum (byte_product c (x % 16)) (byte_product c (x / 16 * 16))
byte_product-halves c x = ap (byte_product c) (sym (halves x)) ∙ product-sum_right c (x % 16) (x / 16 * 16)
