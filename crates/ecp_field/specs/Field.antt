-- Bytes as the elements of the field of 256 elements, modulo x^8 + x^4 + x^3 + x^2 + 1, which is 0x11D.
use Rattle.std.specs.Prelude.{ℕ, zero, suc, ◌+◌, ◌*◌, ◌^◌, ◌==◌, if◌then◌else◌, find, unwrap_or, bit_xor}
use Rattle.std.specs.Int.{bit_at}
use Rattle.std.specs.List.{range_with_len}

-- the sum of two bytes: their exclusive or
abbrev pub byte_sum : ℕ → ℕ → ℕ
byte_sum a b = bit_xor a b

-- the exclusive or of a * 2 ^ i over those of the low n bits i of b that are set: the product without carry
unfoldable pub carryless_product : ℕ → ℕ → ℕ → ℕ
carryless_product zero a b = 0
carryless_product (suc i) a b = bit_xor (if bit_at b i == 1 then a * 2 ^ i else 0) (carryless_product i a b)

-- what is left of p when its bits from n + 7 down to 8 are taken away: where bit i is set, 0x11D * 2 ^ (i - 8) is added
unfoldable pub reduced : ℕ → ℕ → ℕ
reduced zero p = p
reduced (suc i) p = reduced i (if bit_at p (i + 8) == 1 then bit_xor p (0x11D * 2 ^ i) else p)

-- the product of two bytes: without carry, and then reduced from bit 14 down to bit 8
unfoldable pub byte_product : ℕ → ℕ → ℕ
byte_product a b = reduced 7 (carryless_product 8 a b)

-- the quotient of two bytes: the byte whose product with the divisor b is the dividend a, and 0 where there is none
unfoldable pub byte_quotient : ℕ → ℕ → ℕ
byte_quotient a b = unwrap_or (find (λ q. byte_product q b == a) (range_with_len 0 256)) 0

-- the product of e factors a, and 1 of none
unfoldable pub byte_power : ℕ → ℕ → ℕ
byte_power a zero = 1
byte_power a (suc e) = byte_product a (byte_power a e)
