use Rattle.std.proofs.Common.{◌≡◌, ℕ, ◌<◌, ◌^◌, length, get_or}
use Rattle.ecp_field.specs.Field.{byte_product}
use Rattle.ecp_kernel.proofs.planes.Planes.new.Given as goal

abbrev pub invariant-loop-i : goal.invariant-loop-i
invariant-loop-i l = record {
  long : length l.products ≡ 8;
  exact : (k : ℕ) → k < l.i → get_or l.products k 0 ≡ byte_product l.constant (2 ^ k);
}
