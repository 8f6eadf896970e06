use Rattle.std.proofs.Common.{◌≡◌, [], vec_len}
use Rattle.std.specs.Prelude.{All}
use Rattle.ecp_rebuild.proofs.tests.hands.Given as goal

abbrev pub invariant-loop-number : goal.invariant-loop-number
invariant-loop-number g l = record {
  count : vec_len l.hands ≡ l.number;
  idle : All (λ h. h.done.items ≡ []) l.hands.items;
}
