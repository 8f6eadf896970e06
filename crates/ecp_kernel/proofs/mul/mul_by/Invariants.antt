use Rattle.std.proofs.Common.{◌≡◌, ◌≤◌, ◌-◌, length}
use Rattle.ecp_field.specs.Lists.{scaled}
use Rattle.ecp_kernel.proofs.Parts.{made}
use Rattle.ecp_kernel.proofs.mul.mul_by.Given as goal

abbrev pub invariant-loop-at : goal.invariant-loop-at
invariant-loop-at g l = record {
  within : l.at ≤ length l.src;
  so_far : l.dst ≡ made l.at (scaled (g.M.Multiplier.factor l.by) l.src) l.initial.dst;
}

abbrev pub decreases-loop-at : goal.decreases-loop-at
decreases-loop-at g l = length l.src - l.at
