use Rattle.std.proofs.Common.{◌≡◌}
use Rattle.ecp_command.specs.Generated.{number_at, generated}
use Rattle.ecp_command.proofs.generated.generate.Given as goal

abbrev pub invariant-loop-place : goal.invariant-loop-place
invariant-loop-place l = (l.bytes.items ≡ generated l.seed l._place) × (l.number ≡ number_at l.seed l._place)
