use Rattle.std.proofs.Common.{◌≡◌, length, take}
use Rattle.std.specs.Prelude.{sum_by}
use Rattle.ecp_service.proofs.commands.checking.call_count.Given as goal

abbrev pub invariant-loop-session : goal.invariant-loop-session
invariant-loop-session l = l.count ≡ sum_by (λ s. length s.calls.items) (take l.session-index l.sessions)
