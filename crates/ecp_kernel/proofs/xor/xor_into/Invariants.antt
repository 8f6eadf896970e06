use Rattle.std.proofs.Common.{◌≡◌, ◌≤◌, ◌-◌, length}
use Rattle.ecp_field.specs.Lists.{sums}
use Rattle.ecp_kernel.proofs.Parts.{made}
use Rattle.ecp_kernel.proofs.xor.xor_into.Given as goal

abbrev pub invariant-loop-at : goal.invariant-loop-at
invariant-loop-at l = record {
  within : l.at ≤ length l.src;
  so_far : l.dst ≡ made l.at (sums l.initial.dst l.src) l.initial.dst;
}

abbrev pub decreases-loop-at : goal.decreases-loop-at
decreases-loop-at l = length l.src - l.at
